-- What rows whose numbers alone differ still say.
use Rattle.std.proofs.Common.{◌≡◌, ℕ, ◌≤◌, List, map, length, take, drop, sym, refl, ap, ◌∙◌, subst, arith}
use Rattle.std.proofs.lemmas.List.{length-map, take-take, take-map, drop-map}
use Rattle.automaton.specs.declared.Arc.{Arc}
use Rattle.automaton.specs.declared.Marks.{Marks}
use Rattle.automaton.specs.declared.State.{State}
use Rattle.automaton.specs.Automaton.{Inside}
use Rattle.build.specs.declared.Rows.{Rows}
use Rattle.build.specs.declared.Place.{Place}
use Rattle.build.specs.Tables.{part, at, InUse, Stands}
use Rattle.words.specs.Words.{Renumbered}

pub renumbered_none : (n : ℕ) (states : List State) → Renumbered n states states
renumbered_none n states = record { marks = refl; front = refl }

pub renumbered_more : (n : ℕ) (xs ys zs : List State) → Renumbered n xs ys → Renumbered n ys zs → Renumbered n xs zs
renumbered_more n xs ys zs h k = record { marks = k.marks ∙ h.marks; front = k.front ∙ h.front }

pub renumbered_back : (n : ℕ) (xs ys : List State) → Renumbered n xs ys → Renumbered n ys xs
renumbered_back n xs ys h = record { marks = sym h.marks; front = sym h.front }

-- fewer rows are kept
pub renumbered_less : (n m : ℕ) (xs ys : List State) → m ≤ n → Renumbered n xs ys → Renumbered m xs ys
renumbered_less n m xs ys low h = record { marks = h.marks; front = sym (take-take m n ys low) ∙ ap (take m) h.front ∙ take-take m n xs low }

pub length-renumbered : (n : ℕ) (xs ys : List State) → Renumbered n xs ys → length ys ≡ length xs
length-renumbered n xs ys h = sym (length-map ys (λ (s : State). s.marks)) ∙ ap length h.marks ∙ length-map xs (λ (s : State). s.marks)

-- the marks of a part
marks_part : (xs : List State) (first n : ℕ) → map (λ (s : State). s.marks) (part xs first n) ≡ part (map (λ (s : State). s.marks) xs) first n
marks_part xs first n = sym (take-map (λ (s : State). s.marks) n (drop first xs)) ∙ ap (take n) (sym (drop-map (λ (s : State). s.marks) first xs))

module _ {L : Type 0} (n : ℕ) (states states' : List State) (arcs : List (Arc L)) (h : Renumbered n states states') where
  -- every automaton is as it was
  pub at_renumbered : (p : Place) → at states' arcs p ≡ at states arcs p
  at_renumbered p =
      let f = p.first.states in
      let m = p.count.states in
      ap (λ (marks : List Marks). record { states = marks; arcs = part arcs p.first.arcs p.count.arcs }) (marks_part states' f m ∙ ap (λ (ms : List Marks). part ms f m) h.marks ∙ sym (marks_part states f m))

  pub in_use_renumbered : (used : Rows) → InUse states arcs used → InUse states' arcs used
  in_use_renumbered used use' = record { states_fit = omega (arith, use'.states_fit, length-renumbered n states states' h); arcs_fit = use'.arcs_fit }

  pub stands_renumbered : (used : Rows) (p : Place) → Stands states arcs used p → Stands states' arcs used p
  stands_renumbered used p stands = record { lies = stands.lies; inside = subst Inside (sym (at_renumbered p)) stands.inside }
