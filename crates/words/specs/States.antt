-- The state rows of an automaton, and arcs between its states.
use Rattle.std.specs.Prelude.{ℕ, ◌<◌, List, slice_index_or}
use Rattle.std.specs.List.{ContainsAt as Has}
use Rattle.automaton.specs.declared.Arc.{Arc}
use Rattle.automaton.specs.declared.State.{State}
use Rattle.build.specs.Concats.{blank}

-- the row of a state
abbrev pub row : List State → ℕ → State
row states q = slice_index_or states q blank

-- every arc leads from one of n states to one of them
abbrev pub LeadWithin : {L : Type 0} → List (Arc L) → ℕ → Type 0
LeadWithin {L} arcs n = (b : Arc L) → Has arcs b → (b.from < n) × (b.to < n)
