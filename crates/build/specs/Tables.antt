-- Automata in lent tables: a table of state rows and a table of arc rows.
use Rattle.std.specs.Prelude.{◌≡◌, ℕ, ◌+◌, ◌≤◌, min, List, length, take, drop}
use Rattle.automaton.specs.declared.State.{State}
use Rattle.automaton.specs.declared.Arc.{Arc}
use Rattle.automaton.specs.Automaton.{Automaton, of_rows, Inside}
use Rattle.build.specs.declared.Rows.{Rows}
use Rattle.build.specs.declared.Place.{Place}

-- only so many rows of a table count
abbrev pub state_room : List State → ℕ
state_room states = min (length states) 65536

abbrev pub arc_room : {L : Type 0} → List (Arc L) → ℕ
arc_room arcs = min (length arcs) 1048576

-- n rows from a place on
abbrev pub part : {X : Type 0} → List X → ℕ → ℕ → List X
part rows first n = take n (drop first rows)

-- the automaton whose rows lie at a place
abbrev pub at : {L : Type 0} → List State → List (Arc L) → Place → Automaton L
at states arcs p = of_rows (part states p.first.states p.count.states) (part arcs p.first.arcs p.count.arcs)

-- the rows before the end of a place, which the numbers of a table count
abbrev pub end : Place → Rows
end p = record { states = min (p.first.states + p.count.states) 18446744073709551615; arcs = min (p.first.arcs + p.count.arcs) 18446744073709551615 }

-- the rows in use are rows of the tables that count
pub record InUse {L : Type 0} (states : List State) (arcs : List (Arc L)) (used : Rows) : Type 0 where
  pub states_fit : used.states ≤ state_room states
  pub arcs_fit : used.arcs ≤ arc_room arcs

-- a place among the rows in use
pub record Lies (used : Rows) (p : Place) : Type 0 where
  pub states : p.first.states + p.count.states ≤ used.states
  pub arcs : p.first.arcs + p.count.arcs ≤ used.arcs

-- an automaton lies among the rows in use, and its arcs lead from state to state
pub record Stands {L : Type 0} (states : List State) (arcs : List (Arc L)) (used : Rows) (p : Place) : Type 0 where
  pub lies : Lies used p
  pub inside : Inside (at states arcs p)

-- the first n rows are as they were, and so is how many rows there are
pub record Kept {X : Type 0} (n : ℕ) (before after : List X) : Type 0 where
  pub long : length after ≡ length before
  pub front : take n after ≡ take n before
