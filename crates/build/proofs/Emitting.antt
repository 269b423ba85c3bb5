-- Writing the arcs of a build: what each written row keeps.
use Rattle.std.proofs.Common.{◌≡◌, ℕ, ◌+◌, ◌<◌, ◌≤◌, ◌⊎◌, List, [], ◌∷◌, ◌++◌, length, get_or, Ok, Err, Result, is_some, sym, ap, ◌∙◌, refl, subst, inl, inr, ⊎_elim, arith}
use Rattle.std.specs.List.{ContainsAt as Has}
use Rattle.std.proofs.ByRecursion.{All-push, All-get_or, has_get_or, has_push, has_push_cases, has_append_left}
use Rattle.std.proofs.lemmas.List.{length_push, get_or_push, get_or_append_left}
use Rattle.std.proofs.lemmas.Bool.{cases_lt, cases_eq}
use Rattle.alphabet.specs.Labels.{Labels}
use Rattle.automaton.specs.declared.Arc.{Arc}
use Rattle.automaton.specs.declared.State.{State}
use Rattle.automaton.specs.Automaton.{Automaton, arc_at}
use Rattle.automaton.specs.Nfa.{Nfa, Meets}
use Rattle.automaton.specs.Numbers.{MoreThan}
use Rattle.build.specs.declared.tail.Full.{Full}
use Rattle.build.specs.declared.tail.Tail.{Tail}
use Rattle.build.specs.Emitted.{StandsFor, Emitted, name_of, Paired, Before, Written, Wrote, PairsWritten, PairsWrote}
use Rattle.build.specs.Pairs.{Pair, pairs, products}
use Rattle.build.specs.Tails.{written, room, Pushed}
use Rattle.build.proofs.Exploring.{length_pairs}
use Rattle.build.proofs.Places.{distinct_push, distinct_places}

module _ {S X L : Type 0} (nfa : Nfa S X L) (name : ℕ → S) (n : ℕ) where
  pub emitted_none : Emitted nfa name n [] []
  emitted_none = record { long = refl; stands = λ k d x low. absurd (omega arith); arrows = tt; once = tt }

  pub emitted_push : (done : List (Arc L)) (sources : List X) (b : Arc L) (e : X) → Emitted nfa name n done sources → StandsFor nfa name n b e → nfa.Arrow e → (Has sources e → ⊥) → Emitted nfa name n (done ++ b ∷ []) (sources ++ e ∷ [])
  emitted_push done sources b e h for arrow none = record {
    long = length_push done b ∙ ap (λ k. k + 1) h.long ∙ sym (length_push sources e);
    stands = λ k d x low.
        ⊎_elim
        (λ below.
        let same = sym (get_or_append_left done (b ∷ []) d k (omega (arith, h.long))) in
        let same' = sym (get_or_append_left sources (e ∷ []) x k below) in
        subst (λ y. StandsFor nfa name n (get_or (done ++ b ∷ []) k d) y) same' (subst (λ r. StandsFor nfa name n r (get_or sources k x)) same (h.stands k d x below)))
        (λ past.
        let long = length_push sources e in
        let here : length sources ≡ k = omega arith in
        let same = sym (get_or_push done b d k (h.long ∙ here)) in
        let same' = sym (get_or_push sources e x k here) in
        subst (λ y. StandsFor nfa name n (get_or (done ++ b ∷ []) k d) y) same' (subst (λ r. StandsFor nfa name n r e) same for))
        (cases_lt k (length sources));
    arrows = All-push nfa.Arrow sources e h.arrows arrow;
    once = distinct_push sources e h.once none;
  }

  -- one arrow more than there is room for
  pub emitted_full : (done : List (Arc L)) (sources : List X) (d e : X) (k : ℕ) → Emitted nfa name n done sources → nfa.Arrow e → (Has sources e → ⊥) → length done ≡ k → (f : ℕ → X) × MoreThan nfa.Arrow k f
  emitted_full done sources d e k h arrow none long =
      let all = sources ++ e ∷ [] in
      let count = length_push sources e in (
        λ i. get_or all i d,
        record {
          each = λ i low. All-get_or nfa.Arrow all i d (omega (arith, h.long)) (All-push nfa.Arrow sources e h.arrows arrow);
          once = λ i j low high same. distinct_places all d (distinct_push sources e h.once none) i j (omega (arith, h.long)) (omega (arith, h.long)) same;
        },
      )

  pub written_none : (Looked : X → Type 0) → ((z : X) → nfa.Arrow z → Looked z → ⊥) → Written nfa name n [] Looked
  written_none Looked none = record { sources = []; emitted = emitted_none; looked = λ z has. absurd (omega (arith, has.1)); complete = λ z arrow before. absurd (none z arrow before) }

  -- more was looked at, and no arrow was among it
  pub written_pass : (done : List (Arc L)) (Looked Looked' : X → Type 0) → ((z : X) → Looked z → Looked' z) → ((z : X) → nfa.Arrow z → Looked' z → Looked z) → Written nfa name n done Looked → Written nfa name n done Looked'
  written_pass done Looked Looked' more none h = record {
    sources = h.sources;
    emitted = h.emitted;
    looked = λ z has. more z (h.looked z has);
    complete = λ z arrow before. h.complete z arrow (none z arrow before);
  }

  -- the row of one arrow more was pushed
  pub wrote_push : (s t : Tail (Arc L)) (Looked Looked' : X → Type 0) (x : X) (b : Arc L) (r : Result (Unit {0}) Full) → (Looked x → ⊥) → Written nfa name n (written s) Looked → nfa.Arrow x → StandsFor nfa name n b x →
      ((z : X) → Looked z → Looked' z) → Looked' x → ((z : X) → Looked' z → Looked z ⊎ (x ≡ z)) → room t ≡ room s → Pushed s t b r → Wrote nfa name n t Looked' r
  wrote_push s t Looked Looked' x b (Ok u) new h arrow for more here last long pushed =
      subst (λ l. Written nfa name n l Looked') (sym pushed) (record {
        sources = h.sources ++ x ∷ [];
        emitted = emitted_push (written s) h.sources b x h.emitted for arrow (λ has. new (h.looked x has));
        looked = λ z has. ⊎_elim (λ was. more z (h.looked z was)) (λ same. subst Looked' same here) (has_push_cases h.sources x z has);
        complete = λ z arrow' before. ⊎_elim (λ old. has_append_left h.sources (x ∷ []) z (h.complete z arrow' old)) (λ same. subst (Has (h.sources ++ x ∷ [])) same (has_push h.sources x)) (last z before);
      })
  wrote_push s t Looked Looked' x b (Err e) new h arrow for more here last long pushed =
      emitted_full (written s) h.sources x x (room t) h.emitted arrow (λ has. new (h.looked x has)) (pushed.1 ∙ sym long)

-- the order of two loops
pub before_more : (x y : ℕ) (z : Pair) → Before x y z → Before x (y + 1) z
before_more x y z (inl low) = inl low
before_more x y z (inr here) = inr (here.0, omega (arith, here.1))

pub before_last : (x y : ℕ) (z : Pair) → Before x (y + 1) z → Before x y z ⊎ ((x, y) ≡ z)
before_last x y z (inl low) = inl (inl low)
before_last x y z (inr here) = ⊎_elim (λ same. inr (λ i. (sym here.0 i, sym same i))) (λ other. inl (inr (here.0, omega (arith, here.1)))) (cases_eq z.1 y)

pub not_before : (x y : ℕ) → Before x y (x, y) → ⊥
not_before x y (inl low) = omega arith
not_before x y (inr here) = omega (arith, here.1)

-- after its last turn the inner loop is at the outer loop's next turn
pub before_row : (x y : ℕ) (z : Pair) → Before x y z → Before (x + 1) 0 z
before_row x y z (inl low) = inl (omega arith)
before_row x y z (inr here) = inl (omega (arith, here.0))

pub row_before : (x y : ℕ) (z : Pair) → z.1 < y → Before (x + 1) 0 z → Before x y z
row_before x y z within (inl low) = ⊎_elim (λ same. inr (same, within)) (λ other. inl (omega arith)) (cases_eq z.0 x)
row_before x y z within (inr here) = absurd (omega (arith, here.1))

module _ {L : Type 0} (a : Labels L) (m k : Automaton L) (rows : List State) where
  -- a reachable pair has a row
  pub paired_has : (z : Pair) → Paired a m k rows → (products a m k).State z → Has (pairs rows) z
  paired_has z h state = let i = h.every z state in subst (Has (pairs rows)) i.2 (has_get_or (pairs rows) i.0 (0, 0) (omega (arith, i.1, length_pairs rows)))

  -- two arcs that give none
  pub passed : (out : Tail (Arc L)) (x y : ℕ) → ((products a m k).Arrow (x, y) → ⊥) → PairsWritten a m k rows out x y → PairsWritten a m k rows out x (y + 1)
  passed out x y none h =
      written_pass (products a m k) (name_of rows) (length rows) (written out) (Before x y) (Before x (y + 1)) (before_more x y)
      (λ z arrow before. ⊎_elim (λ was. was) (λ same. absurd (none (subst (products a m k).Arrow (sym same) arrow))) (before_last x y z before)) h

  -- after its last turn the inner loop is at the outer loop's next turn
  pub rowed : (out : Tail (Arc L)) (x y : ℕ) → length k.arcs ≤ y → PairsWritten a m k rows out x y → PairsWritten a m k rows out (x + 1) 0
  rowed out x y past h =
      written_pass (products a m k) (name_of rows) (length rows) (written out) (Before x y) (Before (x + 1) 0) (before_row x y) (λ z arrow. row_before x y z (omega (arith, arrow.1))) h

  -- two arcs that meet and leave a pair that was found
  module _ (b c : Arc L) (x y i : ℕ) (paired : Paired a m k rows) (xlow : x < length m.arcs) (ylow : y < length k.arcs) (xis : arc_at a m x ≡ b) (yis : arc_at a k y ≡ c)
      (i-low : i < length rows) (i-is : name_of rows i ≡ (b.from, c.from)) (meets : Meets a b.label c.label) where
    pub arrow_of : (products a m k).Arrow (x, y)
    arrow_of = (
      xlow,
      ylow,
      subst (products a m k).State (i-is ∙ (λ l. ((sym xis l).from, (sym yis l).from))) (paired.each i i-low),
      (λ l. is_some (a.first (a.meet (xis l).label (yis l).label))) ∙ meets,
    )

    pub pushed_pair : (s t : Tail (Arc L)) (j : ℕ) (r : Result (Unit {0}) Full) → j < length rows → name_of rows j ≡ (b.to, c.to) → room t ≡ room s → Pushed s t (record { from = i; label = a.meet b.label c.label; to = j }) r → PairsWritten a m k rows s x y → PairsWrote a m k rows t x (y + 1) r
    pushed_pair s t j r j-low j-is long pushed h =
        wrote_push (products a m k) (name_of rows) (length rows) s t (Before x y) (Before x (y + 1)) (x, y) (record { from = i; label = a.meet b.label c.label; to = j }) r (not_before x y) h arrow_of
        (record {
          from_state = i-low;
          to_state = j-low;
          from_is = i-is ∙ (λ l. ((sym xis l).from, (sym yis l).from));
          to_is = j-is ∙ (λ l. ((sym xis l).to, (sym yis l).to));
          label_is = λ l. a.meet (sym xis l).label (sym yis l).label;
        }) (before_more x y) (inr (refl, omega arith)) (before_last x y) long pushed
