-- Where a word splits into one word of an automaton and one of another.
use Rattle.std.specs.Prelude.{ℕ, List, take, drop}
use Rattle.alphabet.specs.Labels.{Set}
use Rattle.automaton.specs.declared.Arc.{Arc}
use Rattle.automaton.specs.declared.State.{State}
use Rattle.automaton.specs.Automaton.{Word, Accepts}
use Rattle.build.specs.declared.Place.{Place}
use Rattle.build.specs.declared.Rows.{Rows}
use Rattle.build.specs.Tables.{InUse, Stands, at}

-- both automata stand among the rows in use, the left one accepts the first i letters, and the right one the rest
pub record SplitsAt {L : Type 0} (admits : L → Set) (states : List State) (arcs : List (Arc L)) (used : Rows) (left right : Place) (w : Word) (i : ℕ) : Type 0 where
  pub in_use : InUse states arcs used
  pub left_stands : Stands states arcs used left
  pub right_stands : Stands states arcs used right
  pub front : Accepts admits (at states arcs left) (take i w)
  pub back : Accepts admits (at states arcs right) (drop i w)
