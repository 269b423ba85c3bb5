use Rattle.std.proofs.Common.{◌≡◌, ◌-◌, ◌≤◌, length}
use Rattle.sheet.specs.Calls.{view}
use Rattle.solve.proofs.Coursing.{Underway}
use Rattle.solve.proofs.tables.Tables.finish_all.Given as goal

abbrev pub invariant-loop-part : goal.invariant-loop-part
invariant-loop-part g l =
    Underway g.A.Alphabet.labels (view l.sheet) l.fn.self.states.now l.fn.self.arcs.now l.self.states.now l.self.arcs.now l.finished.items l.self.used
    × (length l.finished.items ≤ l.parts)
    × (l.self.states.ghost_name ≡ l.fn.self.states.ghost_name)
    × (l.self.arcs.ghost_name ≡ l.fn.self.arcs.ghost_name)

abbrev pub decreases-loop-part : goal.decreases-loop-part
decreases-loop-part g l = l.parts - length l.finished.items
