-- Builds in tables, told by the free rows behind the rows in use.
use Rattle.std.proofs.Common.{◌≡◌, ℕ, ◌-◌, ◌≤◌, List, ◌++◌, Option, Some, None, MatchOption, Ok, Err, Result, is_some, false, length, take, drop, drop_at, ok_or, sym, refl, ap, ◌∙◌, subst, subst₂, inl, inr, length-append, length-take, length-drop, arith}
use Rattle.std.proofs.lemmas.List.{take-append-le, drop-append-le}
use Rattle.std.proofs.lemmas.Bool.{false≢true}
use Rattle.alphabet.specs.Labels.{Labels}
use Rattle.automaton.specs.declared.Arc.{Arc}
use Rattle.automaton.specs.declared.State.{State}
use Rattle.automaton.specs.Automaton.{Automaton, Inside, of_rows}
use Rattle.automaton.specs.Nfa.{Nfa, Realizes}
use Rattle.automaton.specs.Numbers.{MoreThan}
use Rattle.build.specs.declared.Operands.{Operands}
use Rattle.build.specs.declared.Place.{Place}
use Rattle.build.specs.declared.Rows.{Rows}
use Rattle.build.specs.declared.Stop.{Stop}
use Rattle.build.specs.declared.Stop.TheVariants.{StatesFull, ArcsFull, Outside}
use Rattle.build.specs.Emitted.{Fits, FitsBehind}
use Rattle.build.specs.Inputs.{StandsIn}
use Rattle.build.specs.Outcome.{Built, Outcome, Answer, Meant}
use Rattle.build.specs.Pairs.{left_of, right_of, Ready}
use Rattle.build.specs.Tables.{state_room, arc_room, part, at, InUse, Lies, Stands}
use Rattle.build.proofs.Inputs.{at_held, ready_held, operand_held}

-- a search that found nothing, and one that found something
pub none_found : {X : Type 0} (P : Type 0) (Q : X → Type 0) (o : Option X) → MatchOption o P Q → false ≡ is_some o → P
none_found P Q None h none = h
none_found P Q (Some x) h none = absurd (false≢true none)

pub found : {X E : Type 0} (P : Type 0) (Q : X → Type 0) (o : Option X) (e : E) (x : X) → MatchOption o P Q → Ok x ≡ ok_or o e → Q x
found P Q None e x h is = absurd (err_ok is)
  where
    err_ok : {X E : Type 0} {x : X} {e : E} → ◌≡◌ {A = Result X E} (Ok x) (Err e) → ⊥
    err_ok same = let z : ◌≡◌ {A = ℕ} 0 1 = cc in omega arith
found P Q (Some y) e x h is = let same : y ≡ x = cc in subst Q same h

-- the rows behind those in use
behind : {X : Type 0} (n : ℕ) (xs held free : List X) → held ≡ take n xs → n ≤ length xs → drop n (held ++ free) ≡ free
behind n xs held free front low = drop_at held free n (ap length front ∙ length-take n xs ∙ omega (arith, low))

-- operands that stand, and what was written for them
pub fits_behind : {S E L : Type 0} (a : Labels L) (N : Automaton L → Automaton L → Nfa S E L) (job : Operands) (s held free : List State) (u held' free' : List (Arc L)) (m k : Automaton L) (r : Result Rows Stop) →
    InUse s u job.used → held ≡ take job.used.states s → held' ≡ take job.used.arcs u →
    (StandsIn held held' job.left × StandsIn held held' job.right) × (m ≡ at held held' job.left) × (k ≡ at held held' job.right) → Fits a (N m k) free free' r →
    FitsBehind (Ready job s u) a (N (left_of job s u) (right_of job s u)) job.used (held ++ free) (held' ++ free') r
fits_behind a N job s held free u held' free' m k r in_use front front' found fits =
    let ready = ready_held job s held u held' front front' in_use found.0 in
    let operand = operand_held job s held u held' front front' in_use in
    inl (
      ready,
      subst₂ (λ l l'. Fits a (N (left_of job s u) (right_of job s u)) l l' r) (sym (behind job.used.states s held free front (omega (arith, in_use.states_fit)))) (sym (behind job.used.arcs u held' free' front' (omega (arith, in_use.arcs_fit))))
          (subst₂ (λ m k. Fits a (N m k) free free' r) (operand m job.left found.1 ready.left) (operand k job.right found.2 ready.right) fits),
    )

-- the place of rows that were built behind those in use
abbrev pub placed : Rows → Result Rows Stop → Result Place Stop
placed used (Ok count) = Ok (record { first = used; count = count })
placed used (Err e) = Err e

module _ {S E L : Type 0} (a : Labels L) (N : Automaton L → Automaton L → Nfa S E L) (job : Operands) (s t : List State) (u v : List (Arc L)) (n m : ℕ) (in_use : InUse s u job.used) (counted : n ≡ state_room s) (counted' : m ≡ arc_room u) (long : length t ≡ length (take n s)) (long' : length v ≡ length (take m u)) where
  abbrev used : Rows
  used = job.used

  lies_in : (p : Place) → Lies used p → Lies (record { states = n; arcs = m }) p
  lies_in p lies = record { states = omega (arith, lies.states, in_use.states_fit); arcs = omega (arith, lies.arcs, in_use.arcs_fit) }

  -- the rows that count hold the same automata
  at_counted : (p : Place) → Lies used p → at (take n s) (take m u) p ≡ at s u p
  at_counted p lies = at_held (record { states = n; arcs = m }) s u p (lies_in p lies)

  stands_on : (p : Place) → Stands (take n s) (take m u) used p → Stands s u used p
  stands_on p h = record { lies = h.lies; inside = subst Inside (at_counted p h.lies) h.inside }

  stands_back : (p : Place) → Stands s u used p → Stands (take n s) (take m u) used p
  stands_back p h = record { lies = h.lies; inside = subst Inside (sym (at_counted p h.lies)) h.inside }

  in_use_back : InUse (take n s) (take m u) used
  in_use_back = record { states_fit = omega (arith, in_use.states_fit, length-take n s); arcs_fit = omega (arith, in_use.arcs_fit, length-take m u) }

  states' : List State
  states' = t ++ drop n s

  arcs' : List (Arc L)
  arcs' = v ++ drop m u

  -- the rows behind those in use
  part_behind : {X : Type 0} (first count k : ℕ) (xs ys : List X) → length ys ≡ length (take k xs) → first ≤ k → k ≤ length xs → count ≤ length (drop first ys) → take count (drop first ys) ≡ part (ys ++ drop k xs) first count
  part_behind first count k xs ys long' low low' within =
      let within' : first ≤ length ys = omega (arith, length-take k xs) in
      sym (ap (take count) (drop-append-le first ys (drop k xs) within') ∙ take-append-le count (drop first ys) (drop k xs) within)

  room_is : state_room (t ++ drop n s) ≡ n
  room_is = omega (arith, length-append t (drop n s), length-drop n s, length-take n s)

  room_is' : arc_room (v ++ drop m u) ≡ m
  room_is' = omega (arith, length-append v (drop m u), length-drop m u, length-take m u)

  free : length (drop used.states t) ≡ n - used.states
  free = omega (arith, length-drop used.states t, length-take n s)

  free' : length (drop used.arcs v) ≡ m - used.arcs
  free' = omega (arith, length-drop used.arcs v, length-take m u)

  module _ (nfa : Nfa S E L) where
    outcome : (r : Result Rows Stop) → Fits a nfa (drop used.states t) (drop used.arcs v) r → Outcome a nfa used (t ++ drop n s) (v ++ drop m u) (placed used r)
    outcome (Ok count) h = record {
      behind = refl;
      states_fit = omega (arith, room_is, free, h.0, in_use.states_fit);
      arcs_fit = omega (arith, room_is', free', h.1, in_use.arcs_fit);
      realizes = subst (Realizes a nfa) (λ i. of_rows (part_behind used.states count.states n s t long (omega (arith, in_use.states_fit)) (omega arith) h.0 i) (part_behind used.arcs count.arcs m u v long' (omega (arith, in_use.arcs_fit)) (omega arith) h.1 i)) h.2;
    }
    outcome (Err StatesFull) h = record { state = h.0; too_many = subst (λ k. MoreThan nfa.State k h.0) (free ∙ ap (λ k. k - used.states) (sym room_is)) h.1 }
    outcome (Err ArcsFull) h = record {
      count = h.0.0;
      state = h.0.1;
      counted = h.0.3;
      states_fit = omega (arith, room_is, free, h.0.2, in_use.states_fit);
      arrow = h.1.0;
      too_many = subst (λ k. MoreThan nfa.Arrow k h.1.0) (free' ∙ ap (λ k. k - used.arcs) (sym room_is')) h.1.1;
    }
    outcome (Err Outside) h = absurd h

  -- what the tables answer that count, all tables answer
  pub answered : (r : Result Rows Stop) (x : Result Place Stop) → x ≡ placed used r → FitsBehind (Ready job (take n s) (take m u)) a (N (left_of job (take n s) (take m u)) (right_of job (take n s) (take m u))) used t v r →
      Answer (Ready job s u) a (N (left_of job s u) (right_of job s u)) used (t ++ drop n s) (v ++ drop m u) x
  answered r x is (inl h) =
      let ready = h.0 in
      inl (
        record { in_use = in_use; left = stands_on job.left ready.left; right = stands_on job.right ready.right },
        subst (Outcome a (N (left_of job s u) (right_of job s u)) used (t ++ drop n s) (v ++ drop m u)) (sym is)
            (outcome (N (left_of job s u) (right_of job s u)) r (subst₂ (λ l k. Fits a (N l k) (drop used.states t) (drop used.arcs v) r) (at_counted job.left ready.left.lies) (at_counted job.right ready.right.lies) h.1)),
      )
  answered r x is (inr h) = inr (λ ready. h.0 (record { in_use = in_use_back; left = stands_back job.left ready.left; right = stands_back job.right ready.right }), is ∙ ap (placed used) h.1)

-- what holds of all that is built holds of what was built
pub meant : {S E L : Type 0} (R : Type 0) (a : Labels L) (nfa : Nfa S E L) (used : Rows) (t : List State) (v : List (Arc L)) (r : Result Place Stop) (P : Place → Type 0) → Answer R a nfa used t v r → ((p : Place) → Built a nfa used t v p → P p) → Meant r P
meant R a nfa used t v (Ok p) P (inl h) so = so p h.1
meant R a nfa used t v (Ok p) P (inr h) so = let z : ◌≡◌ {A = ℕ} 0 1 = cc in absurd (omega arith)
meant R a nfa used t v (Err e) P h so = tt
