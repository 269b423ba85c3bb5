use Rattle.std.proofs.Common.{take}
use Rattle.giver.specs.Run.{Reached}
use Rattle.giver.proofs.accepts.accepts.Given as goal

abbrev pub invariant-loop-letter : goal.invariant-loop-letter
invariant-loop-letter g l = Reached g.A.Alphabet.labels.admits (g.G.Giver.automaton l.giver) (take l.letter-index l.word) l.set
