use Rattle.std.proofs.Common.{◌≡◌, ℕ, ◌+◌, ◌<◌, drop, get_or}
use Rattle.build.specs.Tables.{Kept}
use Rattle.sheet.proofs.pattern.write_rows.Given as goal

abbrev pub invariant-loop-k : goal.invariant-loop-k
invariant-loop-k g l = record { callable : goal.F-IsAlwaysCallable g l.row; kept : Kept l.at l.initial.rows l.rows; behind : drop (l.at + l.count) l.rows ≡ drop (l.at + l.count) l.initial.rows; written : (i : ℕ) (d : _) → i < l.k → goal.F-post g l.row i (get_or l.rows (l.at + i) d) }
