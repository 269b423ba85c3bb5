use Rattle.std.proofs.Common.{◌≡◌, length, map}
use Rattle.words.specs.Layers.{layer}
use Rattle.words.specs.Machines.{automaton}
use Rattle.words.proofs.Layers.{Rounding}
use Rattle.words.proofs.machine.Machine.round.Given as goal

abbrev pub invariant-loop-arc : goal.invariant-loop-arc
invariant-loop-arc g l = record {
  marks : map (λ s. s.marks) l.states ≡ map (λ s. s.marks) l.initial.states;
  rounding : Rounding g.A.Alphabet.labels (automaton l.fn.self) (length l.initial.states) (layer l.initial.states) (layer l.states) l.top l.arc-index l.more;
}
