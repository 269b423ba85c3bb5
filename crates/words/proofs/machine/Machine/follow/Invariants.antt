use Rattle.std.proofs.Common.{◌≡◌, map}
use Rattle.words.specs.Machines.{automaton}
use Rattle.words.specs.Membership.{Followed}
use Rattle.words.proofs.machine.Machine.follow.Given as goal

abbrev pub invariant-loop-arc : goal.invariant-loop-arc
invariant-loop-arc g l = record {
  marks : map (λ s. s.marks) l.states ≡ map (λ s. s.marks) l.initial.states;
  followed : Followed g.A.Alphabet.labels (automaton l.fn.self) l.letter l.arc-index l.initial.states l.states;
}
