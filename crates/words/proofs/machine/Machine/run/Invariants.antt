use Rattle.std.proofs.Common.{take}
use Rattle.words.specs.Machines.{automaton, SameMachine}
use Rattle.words.specs.Membership.{Reached}
use Rattle.words.proofs.machine.Machine.run.Given as goal

abbrev pub invariant-loop-letter : goal.invariant-loop-letter
invariant-loop-letter g l = record {
  same : SameMachine l.fn.self l.self;
  reached : Reached g.A.Alphabet.labels.admits (automaton l.fn.self) (take l.letter-index l.word) l.self.states.now;
}
