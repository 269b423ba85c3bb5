use Rattle.std.proofs.Common.{not, count_by}
use Rattle.sheet.proofs.Circles.{FoundBelow}
use Rattle.sheet.proofs.circle.closes.Given as goal

abbrev pub invariant-loop-next : goal.invariant-loop-next
invariant-loop-next l = FoundBelow l.joins l.join l.below

abbrev pub decreases-loop-next : goal.decreases-loop-next
decreases-loop-next l = count_by not l.below
