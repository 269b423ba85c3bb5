-- Words in lent rows: what a search for words leaves of the state rows.
use Rattle.std.specs.Prelude.{◌≡◌, ℕ, List, map, take}
use Rattle.automaton.specs.declared.State.{State}

-- the rows before a place are as they were, and all marks are; the two numbers of later rows may differ
pub record Renumbered (first : ℕ) (before after : List State) : Type 0 where
  pub marks : map (λ s. s.marks) after ≡ map (λ s. s.marks) before
  pub front : take first after ≡ take first before
