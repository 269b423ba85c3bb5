-- Machines: an automaton in its own rows, whose two numbers are working marks.
use Rattle.std.specs.Prelude.{◌≡◌, map}
use Rattle.automaton.specs.Automaton.{Automaton, of_rows}
use Rattle.words.specs.declared.machine.Machine.{Machine}

-- the automaton of a machine
abbrev pub automaton : {L : Type 0} → Machine L → Automaton L
automaton m = of_rows m.states.now m.arcs.now

-- the same lent rows with the same marks, and the same arcs; a function on a machine says it, or these are not known afterwards
pub record SameMachine {L : Type 0} (before after : Machine L) : Type 0 where
  pub rows : after.states.ghost_name ≡ before.states.ghost_name
  pub marks : map (λ s. s.marks) after.states.now ≡ map (λ s. s.marks) before.states.now
  pub arcs : after.arcs ≡ before.arcs
