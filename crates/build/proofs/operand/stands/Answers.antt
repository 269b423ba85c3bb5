use Rattle.std.proofs.Common.{sym, ◌∙◌}
use Rattle.build.proofs.Finding.{found_decides}
use Rattle.build.proofs.Inputs.{stands_held}
use Rattle.build.proofs.operand.stands.Goals as goal

pub returns-then-in_use : goal.returns-then-in_use
returns-then-in_use g c =
    let used = c.in_use.ensures.decides.0 c.if-in_use.true in
    let held = stands_held c.args.used c.args.states.now c.args.arcs.now used c.args.p in
    let found = found_decides _ _ (λ x q. q.0) c.at.result c.at.ensures.finds in
    record { decides = (λ yes'. (used, held.0 (found.0 (sym c.is_some.ensures ∙ yes'))), λ both. c.is_some.ensures ∙ found.1 (held.1 both.1)) }
