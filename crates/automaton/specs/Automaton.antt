-- Automata, and the words that they accept. A word is a list of letters.
use Rattle.std.specs.Prelude.{◌≡◌, ℕ, ◌<◌, Bool, true, false, List, [], ◌∷◌, map, length, get_or, slice_index_or}
use Rattle.std.specs.List.{ContainsAt as Has}
use Rattle.alphabet.specs.Labels.{Labels, Set}
use Rattle.automaton.specs.declared.Marks.{Marks}
use Rattle.automaton.specs.declared.State.{State}
use Rattle.automaton.specs.declared.Arc.{Arc}

abbrev pub Word : Type 0
Word = List ℕ

-- states by their marks, in order: the state q is the one at place q
pub record Automaton (L : Type 0) : Type 0 where
  pub states : List Marks
  pub arcs : List (Arc L)

abbrev pub unmarked : Marks
unmarked = record { initial = false; accepting = false }

-- a state row with 0 in both numbers
abbrev pub plain : Marks → State
plain s = record { marks = s; left = 0; right = 0 }

abbrev pub initial : {L : Type 0} → Automaton L → ℕ → Bool
initial m q = (get_or m.states q unmarked).initial

abbrev pub accepting : {L : Type 0} → Automaton L → ℕ → Bool
accepting m q = (get_or m.states q unmarked).accepting

-- the arc at a place; past the last one from 0 to 0 on the full label
abbrev pub arc_at : {L : Type 0} → Labels L → Automaton L → ℕ → Arc L
arc_at a m k = slice_index_or m.arcs k (record { from = 0; label = a.full; to = 0 })

-- arcs lead from one state to another, and their labels admit the letters of the word in turn
pub data Walk {L : Type 0} (admits : L → Set) (arcs : List (Arc L)) : ℕ → Word → ℕ → Type 0 where
  stay : {q : ℕ} → Walk admits arcs q [] q
  step : {q c r : ℕ} {w : Word} (a : Arc L) → Has arcs a → a.from ≡ q → admits a.label c ≡ true → Walk admits arcs a.to w r → Walk admits arcs q (c ∷ w) r

pub record Accepts {L : Type 0} (admits : L → Set) (m : Automaton L) (w : Word) : Type 0 where
  pub start : ℕ
  pub end : ℕ
  pub starts : initial m start ≡ true
  pub ends : accepting m end ≡ true
  pub walk : Walk admits m.arcs start w end

-- every arc leads from a state to a state
abbrev pub Inside : {L : Type 0} → Automaton L → Type 0
Inside {L} m = (a : Arc L) → Has m.arcs a → (a.from < length m.states) × (a.to < length m.states)

-- the automaton of a table of state rows and a table of arc rows
abbrev pub of_rows : {L : Type 0} → List State → List (Arc L) → Automaton L
of_rows states arcs = record { states = map (λ s. s.marks) states; arcs = arcs }
