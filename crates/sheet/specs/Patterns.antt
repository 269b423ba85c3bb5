-- Held patterns, and what is asked of the tables that have their rows.
use Rattle.std.specs.Prelude.{ℕ, ◌+◌, ◌<◌, ◌≤◌, List, length}
use Rattle.std.specs.List.{ContainsAt as Has}
use Rattle.automaton.specs.declared.Arc.{Arc}
use Rattle.automaton.specs.declared.State.{State}
use Rattle.automaton.specs.Automaton.{Automaton, Inside}
use Rattle.build.specs.declared.Rows.{Rows}
use Rattle.build.specs.Tables.{state_room, arc_room, at}
use Rattle.sheet.specs.declared.Held.{Held}

-- every pattern lies among the held rows
abbrev pub Among : Rows → List Held → Type 0
Among held hs = (h : Held) → Has hs h → (h.place.first.states + h.place.count.states ≤ held.states) × (h.place.first.arcs + h.place.count.arcs ≤ held.arcs)

-- every pattern is one of a part below n
abbrev pub ForParts : ℕ → List Held → Type 0
ForParts n hs = (h : Held) → Has hs h → h.part < n

-- the tables have the held rows, and every held arc leads from state to state of its own pattern
pub record Whole {L : Type 0} (hs : List Held) (held : Rows) (states : List State) (arcs : List (Arc L)) : Type 0 where
  pub states_there : held.states ≤ length states
  pub arcs_there : held.arcs ≤ length arcs
  pub inside : (h : Held) → Has hs h → Inside (at states arcs h.place)

-- there is room for the rows of an automaton behind the held ones
pub record RoomFor {L : Type 0} (m : Automaton L) (held : Rows) (states : List State) (arcs : List (Arc L)) : Type 0 where
  pub states_fit : held.states + length m.states ≤ state_room states
  pub arcs_fit : held.arcs + length m.arcs ≤ arc_room arcs

abbrev pub nowhere : Held
nowhere = record { part = 0; place = record { first = record { states = 0; arcs = 0 }; count = record { states = 0; arcs = 0 } } }
