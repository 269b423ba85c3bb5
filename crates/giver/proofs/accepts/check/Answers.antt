use Rattle.std.proofs.Common.{arith}
use Rattle.giver.proofs.accepts.check.Goals as goal

pub returns : goal.returns
returns g c =
    record { checked = (((omega arith, omega arith), c.leads_inside.ensures.decides.0 c.if-not-leads_inside.false), tt) }
