use Rattle.build.specs.Tables.{at}
use Rattle.solve.proofs.Going.{runs_on, joins_full, joins_met}
use Rattle.solve.proofs.tables.Tables.meet_joined.Goals as goal

pub returns-in_err-joined-clause-goes : goal.returns-in_err-joined-clause-goes
returns-in_err-joined-clause-goes g c =
    let before = c.args.self.now in
    let after = c.concat.new.self in
    joins_full g.A.Alphabet.labels before.used before.states.now before.arcs.now after.states.now after.arcs.now after.used c.args.running (at before.states.now before.arcs.now c.args.left) (at before.states.now before.arcs.now c.args.right) _ c.from_residual.result c.from_residual.ensures.1 c.in_err-joined.ensures.adds

pub meet-requires-clause-running_stands : goal.meet-requires-clause-running_stands
meet-requires-clause-running_stands g c =
    let before = c.args.self.now in
    let after = c.concat.new.self in
    runs_on g.A.Alphabet.labels before.used before.states.now before.arcs.now after.states.now after.arcs.now after.used c.args.running c.in_ok-joined.joined c.requires.running_stands c.in_ok-joined.ensures.adds

pub returns-clause-goes : goal.returns-clause-goes
returns-clause-goes g c =
    let before = c.args.self.now in
    let after = c.concat.new.self in
    joins_met g.A.Alphabet.labels before.used before.states.now before.arcs.now after.states.now after.arcs.now after.used c.args.running (at before.states.now before.arcs.now c.args.left) (at before.states.now before.arcs.now c.args.right) c.in_ok-joined.joined c.requires.running_stands.lies c.in_ok-joined.ensures.adds c.meet.ensures.goes
