use Rattle.std.proofs.Common.{sym, ◌∙◌}
use Rattle.std.proofs.lemmas.Bool.{both_ways}
use Rattle.build.specs.Tables.{at}
use Rattle.solve.proofs.Going.{any_alive, alive_any, meets_alive, meets_dead, meets_full}
use Rattle.solve.proofs.tables.Tables.meet.Goals as goal

pub returns-in_err-met-clause-goes : goal.returns-in_err-met-clause-goes
returns-in_err-met-clause-goes g c =
    let before = c.args.self.now in
    let after = c.product.new.self in
    meets_full g.A.Alphabet.labels before.used before.states.now before.arcs.now after.states.now after.arcs.now after.used c.args.running (at before.states.now before.arcs.now c.args.«with») _ c.from_residual.result c.from_residual.ensures.1 c.in_err-met.ensures.adds

pub returns-then-is_alive-clause-goes : goal.returns-then-is_alive-clause-goes
returns-then-is_alive-clause-goes g c =
    let before = c.args.self.now in
    let after = c.product.new.self in
    meets_alive g.A.Alphabet.labels before.used before.states.now before.arcs.now after.states.now after.arcs.now after.used c.args.running (at before.states.now before.arcs.now c.args.«with») c.in_ok-met.met c.in_ok-met.ensures.adds (any_alive after.states.now after.arcs.now c.in_ok-met.met (sym c.is_alive.ensures.tests ∙ c.if-is_alive.true))

pub returns-else-is_alive-clause-goes : goal.returns-else-is_alive-clause-goes
returns-else-is_alive-clause-goes g c =
    let before = c.args.self.now in
    let after = c.product.new.self in
    meets_dead g.A.Alphabet.labels before.used before.states.now before.arcs.now after.states.now after.arcs.now after.used c.args.running (at before.states.now before.arcs.now c.args.«with») c.in_ok-met.met c.in_ok-met.ensures.adds (λ alive. both_ways _ c.if-is_alive.false (c.is_alive.ensures.tests ∙ alive_any {L = g.row.A-Label.Denot} after.states.now after.arcs.now c.in_ok-met.met alive))
