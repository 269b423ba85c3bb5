use Rattle.std.proofs.Common.{Ok}
use Rattle.build.specs.Pairs.{Extended}
use Rattle.build.specs.Tails.{SameRows}
use Rattle.build.proofs.Exploring.{ClosedBelow}
use Rattle.build.proofs.input.Inputs.close_by.Given as goal

abbrev pub invariant-loop-right : goal.invariant-loop-right
invariant-loop-right g l =
    Extended g.A.Alphabet.labels l.self.left l.self.right l.fn.pairs l.pairs (ClosedBelow g.A.Alphabet.labels l.self.right l.left l.q l.right-index) (Ok tt) × SameRows l.fn.pairs l.pairs
