use Rattle.std.proofs.Common.{Ok}
use Rattle.build.specs.Pairs.{Extended}
use Rattle.build.specs.Tails.{SameRows}
use Rattle.build.proofs.Exploring.{ClosedTo}
use Rattle.build.proofs.input.Inputs.close_at.Given as goal

abbrev pub invariant-loop-left : goal.invariant-loop-left
invariant-loop-left g l =
    Extended g.A.Alphabet.labels l.self.left l.self.right l.fn.pairs l.pairs (ClosedTo g.A.Alphabet.labels l.self.left l.self.right (l.p, l.q) l.left-index) (Ok tt) × SameRows l.fn.pairs l.pairs
