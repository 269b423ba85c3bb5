-- Words of the roots: their bounds, from the places of the final results, and what is written for one of them.
use Rattle.std.specs.Prelude.{ℕ, ◌+◌, ◌-◌, ◌<◌, ◌≤◌, List, length}
use Rattle.alphabet.specs.Labels.{Set}
use Rattle.automaton.specs.Automaton.{Automaton, Accepts}
use Rattle.build.specs.Tables.{part}
use Rattle.sheet.specs.declared.Held.{Held}
use Rattle.words.specs.Shortest.{Wrote}
use Rattle.solve.specs.Report.{place_of}

-- one less than the final result of a part has states
abbrev pub bound_in : List Held → ℕ → ℕ
bound_in hs p = (place_of hs p).count.states - 1

-- a word of n letters, fewer than the bound, that the automaton accepts was written from a place on
pub record Found {L : Type 0} (admits : L → Set) (m : Automaton L) (bound end n : ℕ) (before after : List ℕ) : Type 0 where
  pub short : n < bound
  pub fits : end + n ≤ length before
  pub accepted : Accepts admits m (part after end n)
  pub wrote : Wrote end n before after
