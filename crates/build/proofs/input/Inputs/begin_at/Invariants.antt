use Rattle.std.proofs.Common.{Ok}
use Rattle.build.specs.Pairs.{Extended}
use Rattle.build.specs.Tails.{SameRows}
use Rattle.build.proofs.Exploring.{BegunBelow}
use Rattle.build.proofs.input.Inputs.begin_at.Given as goal

abbrev pub invariant-loop-q : goal.invariant-loop-q
invariant-loop-q g l =
    Extended g.A.Alphabet.labels l.self.left l.self.right l.fn.pairs l.pairs (BegunBelow l.self.right l.p l.q) (Ok tt) × SameRows l.fn.pairs l.pairs
