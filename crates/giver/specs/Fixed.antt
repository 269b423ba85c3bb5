-- The automaton of a fixed text.
use Rattle.std.specs.Prelude.{◌≡◌, ℕ, ◌+◌, ◌<◌, ◌↔◌, List, [], ◌∷◌, map, length, ◌==◌}
use Rattle.std.specs.List.{range_with_len, AllByRecursion}
use Rattle.alphabet.specs.Labels.{Labels}
use Rattle.automaton.specs.declared.Marks.{Marks}
use Rattle.automaton.specs.declared.Arc.{Arc}
use Rattle.automaton.specs.Automaton.{Automaton, Word, Accepts}

-- of n + 1 states the first alone is initial and the last alone accepting
abbrev pub chain_marks : ℕ → ℕ → Marks
chain_marks n q = record { initial = (q == 0); accepting = (q == n) }

-- from the state k on, one arc for each letter, to the next state
abbrev pub chain_arcs : {L : Type 0} → (ℕ → ℕ → L) → ℕ → Word → List (Arc L)
chain_arcs range k [] = []
chain_arcs range k (c ∷ w) = record { from = k; label = range c c; to = k + 1 } ∷ chain_arcs range (k + 1) w

abbrev pub chain : {L : Type 0} → (ℕ → ℕ → L) → Word → Automaton L
chain range w = record { states = map (chain_marks (length w)) (range_with_len 0 (length w + 1)); arcs = chain_arcs range 0 w }

-- the automaton of a text accepts that one word, and nothing where the alphabet lacks a letter of it
abbrev pub AcceptsJust : {L : Type 0} → Labels L → (ℕ → ℕ → L) → Word → Type 0
AcceptsJust a range text = (w : Word) → Accepts a.admits (chain range text) w ↔ ((w ≡ text) × AllByRecursion (λ c. c < a.letters) text)
