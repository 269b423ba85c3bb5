use Rattle.std.proofs.Common.{Ok}
use Rattle.build.specs.Pairs.{Extended}
use Rattle.build.specs.Tails.{SameRows}
use Rattle.build.proofs.Exploring.{BegunTo}
use Rattle.build.proofs.input.Inputs.begin.Given as goal

abbrev pub invariant-loop-p : goal.invariant-loop-p
invariant-loop-p g l =
    Extended g.A.Alphabet.labels l.self.left l.self.right l.fn.pairs l.pairs (BegunTo l.self.left l.self.right l.p) (Ok tt) × SameRows l.fn.pairs l.pairs
