use Rattle.build.specs.Emitted.{PairsWritten}
use Rattle.build.specs.Tails.{SameRows}
use Rattle.build.proofs.input.Inputs.emit.Given as goal

abbrev pub invariant-loop-left : goal.invariant-loop-left
invariant-loop-left g l = PairsWritten g.A.Alphabet.labels l.self.left l.self.right l.pairs l.out l.left-index 0 × SameRows l.fn.out l.out
