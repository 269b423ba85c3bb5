-- The automata that a build reads.
use Rattle.std.specs.Prelude.{List, length}
use Rattle.automaton.specs.declared.State.{State}
use Rattle.automaton.specs.declared.Arc.{Arc}
use Rattle.build.specs.declared.Place.{Place}
use Rattle.build.specs.Tables.{Stands}

-- an automaton lies in these rows, and its arcs lead from state to state
abbrev pub StandsIn : {L : Type 0} → List State → List (Arc L) → Place → Type 0
StandsIn states arcs p = Stands states arcs (record { states = length states; arcs = length arcs }) p
