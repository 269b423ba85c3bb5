use Rattle.std.proofs.Common.{ℕ, ◌<◌}
use Rattle.automaton.specs.Automaton.{arc_at}
use Rattle.words.specs.Layers.{layer, Leads}
use Rattle.words.specs.Machines.{automaton}
use Rattle.words.proofs.machine.Machine.down.Given as goal

abbrev pub invariant-loop-arc : goal.invariant-loop-arc
invariant-loop-arc g l = (k : ℕ) → k < l.arc-index → Leads g.A.Alphabet.labels (layer l.self.states.now) l.q l.next (arc_at g.A.Alphabet.labels (automaton l.self) k) → ⊥
