use Rattle.std.proofs.Common.{◌≡◌, ◌≤◌}
use Rattle.verdict.specs.Verdicts.{roots_below}
use Rattle.solve.specs.Roots.{bound_in}
use Rattle.solve.proofs.plan.Plan.first_without_room.Given as goal

abbrev pub invariant-loop-part : goal.invariant-loop-part
invariant-loop-part l = (l.sum ≡ roots_below l.self.joins.now (bound_in l.finished) l.part) × (l.sum ≤ l.words)
