use Rattle.std.proofs.Common.{◌≡◌, ℕ, ◌<◌, length}
use Rattle.sheet.specs.Joins.{Marked}
use Rattle.verdict.specs.Verdicts.{Root}
use Rattle.solve.proofs.pieces.roots.Given as goal

abbrev pub invariant-loop-part : goal.invariant-loop-part
invariant-loop-part l = record {
  long : length l.roots ≡ 64;
  all : (p : ℕ) → p < l.part → Root l.plan.joins.now p → Marked l.roots p;
  only : (p : ℕ) → Marked l.roots p → (p < l.part) × Root l.plan.joins.now p;
}
