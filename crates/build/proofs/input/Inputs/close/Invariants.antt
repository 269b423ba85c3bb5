use Rattle.std.proofs.Common.{◌-◌, ◌≤◌, length, Ok}
use Rattle.build.specs.Pairs.{Extended}
use Rattle.build.specs.Tails.{written, room, SameRows}
use Rattle.build.proofs.Exploring.{ClosedUpTo}
use Rattle.build.proofs.input.Inputs.close.Given as goal

abbrev pub invariant-loop-pair : goal.invariant-loop-pair
invariant-loop-pair g l =
    (Extended g.A.Alphabet.labels l.self.left l.self.right l.fn.pairs l.pairs (ClosedUpTo g.A.Alphabet.labels l.self.left l.self.right l.i) (Ok tt) × SameRows l.fn.pairs l.pairs) × (l.i ≤ length (written l.pairs))

abbrev pub decreases-loop-pair : goal.decreases-loop-pair
decreases-loop-pair g l = room l.fn.pairs - l.i
