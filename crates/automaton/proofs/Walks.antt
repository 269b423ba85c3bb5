-- Laws of walks and of acceptance.
use Rattle.std.proofs.Common.{◌≡◌, ℕ, ◌<◌, true, List, [], ◌∷◌, ◌++◌, length, refl}
use Rattle.std.specs.List.{ContainsAt as Has, AllByRecursion as All}
use Rattle.alphabet.specs.Labels.{Set, Labels, Lawful}
use Rattle.automaton.specs.declared.Arc.{Arc}
use Rattle.automaton.specs.Automaton.{Word, Automaton, Walk, stay, step, Inside}

module _ {L : Type 0} {admits : L → Set} {arcs : List (Arc L)} where
  pub walk_append : {p q r : ℕ} {u v : Word} → Walk admits arcs p u q → Walk admits arcs q v r → Walk admits arcs p (u ++ v) r
  walk_append stay k = k
  walk_append (step a has from yes' h) k = step a has from yes' (walk_append h k)

  -- a walk along two words passes a state between them
  pub walk_split : (u : Word) {v : Word} {p r : ℕ} → Walk admits arcs p (u ++ v) r → (q : ℕ) × Walk admits arcs p u q × Walk admits arcs q v r
  walk_split [] h = (_, stay, h)
  walk_split (c ∷ u) (step a has from yes' h) =
      let rest = walk_split u h in
      (rest.0, step a has from yes' rest.1, rest.2)

  pub walk_one : {c : ℕ} (a : Arc L) → Has arcs a → admits a.label c ≡ true → Walk admits arcs a.from (c ∷ []) a.to
  walk_one a has yes' = step a has refl yes' stay

  pub walk_nil : {p q : ℕ} → Walk admits arcs p [] q → p ≡ q
  walk_nil stay = refl

  -- one arc more at the end of a walk
  pub walk_push : {p q c : ℕ} {u : Word} (a : Arc L) → Walk admits arcs p u q → Has arcs a → a.from ≡ q → admits a.label c ≡ true → Walk admits arcs p (u ++ c ∷ []) a.to
  walk_push a h has from yes' = walk_append h (step a has from yes' stay)

  -- a walk of one letter takes one arc
  pub walk_letter : {q c r : ℕ} → Walk admits arcs q (c ∷ []) r → (a : Arc L) × Has arcs a × (a.from ≡ q) × (admits a.label c ≡ true) × (a.to ≡ r)
  walk_letter (step a has from yes' stay) = (a, has, from, yes', refl)

-- arcs that lead inside lead no walk outside
pub walk_inside : {L : Type 0} {admits : L → Set} (m : Automaton L) → Inside m → {p q : ℕ} {w : Word} → Walk admits m.arcs p w q → p < length m.states → q < length m.states
walk_inside m inside stay low = low
walk_inside m inside (step a has from yes' h) low = walk_inside m inside h (inside a has).1

-- an automaton over an alphabet accepts words of its letters alone
pub walk_letters : {L : Type 0} (a : Labels L) → Lawful a → {arcs : List (Arc L)} {p q : ℕ} {w : Word} → Walk a.admits arcs p w q → All (λ c. c < a.letters) w
walk_letters a laws stay = tt
walk_letters a laws (step {c} b has from yes' h) = (laws.within b.label c yes', walk_letters a laws h)
