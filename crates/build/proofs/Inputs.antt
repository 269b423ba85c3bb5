-- What an automaton in lent rows tells.
use Rattle.std.proofs.Common.{◌≡◌, ℕ, ◌+◌, ◌<◌, ◌≤◌, ◌↔◌, List, length, get_or, take, drop, sym, ap, ◌∙◌, subst, subst₂, arith}
use Rattle.std.specs.List.{All, ContainsAt as Has}
use Rattle.std.proofs.ByRecursion.{has_get_or}
use Rattle.std.proofs.lemmas.List.{length-map, get_or_default, length-take, take-take, drop-take}
use Rattle.alphabet.specs.Labels.{Labels}
use Rattle.automaton.specs.declared.Arc.{Arc}
use Rattle.automaton.specs.declared.State.{State}
use Rattle.automaton.specs.Automaton.{Automaton, Inside, arc_at, of_rows}
use Rattle.build.specs.declared.Operands.{Operands}
use Rattle.build.specs.declared.Place.{Place}
use Rattle.build.specs.declared.Rows.{Rows}
use Rattle.build.specs.Inputs.{StandsIn}
use Rattle.build.specs.Pairs.{Ready}
use Rattle.build.specs.Tables.{part, at, InUse, Lies, Stands}

-- arcs that all lead below the number of states lead inside
pub inside_rows : {L : Type 0} (states : List State) (arcs : List (Arc L)) → All (λ b. (b.from < length states) × (b.to < length states)) arcs ↔ Inside (of_rows states arcs)
inside_rows {L} states arcs =
    let n = length-map states (λ (s : State). s.marks) in (
      λ all b has. let both = subst (λ (x : Arc L). (x.from < length states) × (x.to < length states)) (has.2 b) (all has.0 b has.1) in (omega (arith, both.0), omega (arith, both.1)),
      λ inside k d low. let both = inside (get_or arcs k d) (has_get_or arcs k d low) in (omega (arith, both.0), omega (arith, both.1)),
    )

-- a part of the first rows is a part of all
pub part_take : {X : Type 0} (n : ℕ) (xs : List X) (first m : ℕ) → first + m ≤ n → part (take n xs) first m ≡ part xs first m
part_take n xs first m within =
    sym (drop-take first m (take n xs)) ∙ ap (drop first) (take-take (first + m) n xs within) ∙ drop-take first m xs

module _ {L : Type 0} (used : Rows) (states : List State) (arcs : List (Arc L)) where
  -- an automaton among the rows in use is the same in those rows alone
  pub at_held : (p : Place) → Lies used p → at (take used.states states) (take used.arcs arcs) p ≡ at states arcs p
  at_held p lies = λ i. of_rows (part_take used.states states p.first.states p.count.states lies.states i) (part_take used.arcs arcs p.first.arcs p.count.arcs lies.arcs i)

  -- what stands in those rows stands among all
  pub stands_held : InUse states arcs used → (p : Place) → StandsIn (take used.states states) (take used.arcs arcs) p ↔ Stands states arcs used p
  stands_held h p = (
    λ s. let lies : Lies used p = record { states = omega (arith, s.lies.states, all-states); arcs = omega (arith, s.lies.arcs, all-arcs) } in record { lies = lies; inside = subst Inside (at_held p lies) s.inside },
    λ s. record { lies = record { states = omega (arith, s.lies.states, all-states); arcs = omega (arith, s.lies.arcs, all-arcs) }; inside = subst Inside (sym (at_held p s.lies)) s.inside },
  )
    where
      all-states : length (take used.states states) ≡ used.states
      all-states = length-take used.states states ∙ omega (arith, h.states_fit)

      all-arcs : length (take used.arcs arcs) ≡ used.arcs
      all-arcs = length-take used.arcs arcs ∙ omega (arith, h.arcs_fit)

module _ {L : Type 0} (a : Labels L) (m : Automaton L) where
  -- the arc that a loop over the arcs has come to
  pub arc_read : (arcs : List (Arc L)) (i : ℕ) (b : Arc L) → arcs ≡ m.arcs → i < length arcs → b ≡ get_or arcs i b → (i < length m.arcs) × (arc_at a m i ≡ b)
  arc_read arcs i b same low is =
      let low' : i < length m.arcs = omega (arith, ap length same) in
      (low', get_or_default m.arcs i (record { from = 0; label = a.full; to = 0 }) b low' ∙ sym (is ∙ ap (λ l. get_or l i b) same))

  pub has_at : (i : ℕ) (b : Arc L) → i < length m.arcs → arc_at a m i ≡ b → Has m.arcs b
  has_at i b low is = (i, low, λ d. get_or_default m.arcs i d (record { from = 0; label = a.full; to = 0 }) low ∙ is)

-- the operands of a build, read in the rows in use alone
module _ {L : Type 0} (job : Operands) (states held : List State) (arcs held' : List (Arc L)) (front : held ≡ take job.used.states states) (front' : held' ≡ take job.used.arcs arcs) (use' : InUse states arcs job.used) where
  stands_in : (p : Place) → StandsIn held held' p ↔ Stands states arcs job.used p
  stands_in p =
      let both = stands_held job.used states arcs use' p in
      (λ s. both.0 (subst₂ (λ x y. StandsIn x y p) front front' s), λ s. subst₂ (λ x y. StandsIn x y p) (sym front) (sym front') (both.1 s))

  pub ready_held : StandsIn held held' job.left × StandsIn held held' job.right → Ready job states arcs
  ready_held s = record { in_use = use'; left = (stands_in job.left).0 s.0; right = (stands_in job.right).0 s.1 }

  pub not_ready_held : (StandsIn held held' job.left → StandsIn held held' job.right → ⊥) → Ready job states arcs → ⊥
  not_ready_held none h = none ((stands_in job.left).1 h.left) ((stands_in job.right).1 h.right)

  pub operand_held : (m : Automaton L) (p : Place) → m ≡ at held held' p → Stands states arcs job.used p → m ≡ at states arcs p
  operand_held m p is s = is ∙ (λ i. at (front i) (front' i) p) ∙ at_held job.used states arcs p s.lies
