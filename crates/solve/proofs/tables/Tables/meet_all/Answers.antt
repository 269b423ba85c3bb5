use Rattle.std.proofs.Common.{List, subst}
use Rattle.verdict.specs.Course.{Done, join_operands}
use Rattle.solve.specs.Builds.{Work, Went, with_rows}
use Rattle.solve.proofs.Going.{went_then, went_stands}
use Rattle.solve.proofs.Operands.{dones_same}
use Rattle.solve.proofs.tables.Tables.meet_all.Goals as goal

pub meet_joins-requires-clause-finished_stand : goal.meet_joins-requires-clause-finished_stand
meet_joins-requires-clause-finished_stand g c =
    let first = c.args.self.now in
    λ h has. went_stands g.A.Alphabet.labels (record { used = first.used; running = c.args.running }) first.states.now first.arcs.now c.in_ok-met.ensures.goes h.place (c.requires.finished_stand h has)

pub returns-clause-goes : goal.returns-clause-goes
returns-clause-goes g c =
    let a = g.A.Alphabet.labels in
    let first = c.args.self.now in
    let now = c.meet_patterns.new.self in
    let after = c.meet_joins.new.self in
    let w : Work = record { used = first.used; running = c.args.running } in
    let went = c.in_ok-met.ensures.goes in
    let same = dones_same first.used first.states.now now.states.now first.arcs.now now.arcs.now went.states_kept went.arcs_kept c.args.finished.now c.requires.finished_stand in
    let step = subst (λ (ds : List (Done g.row.A-Label.Denot)). Went a (join_operands ds c.args.joins.now c.args.part) (record { used = now.used; running = c.in_ok-met.met }) now.states.now now.arcs.now after.states.now after.arcs.now (with_rows after.used c.meet_joins.result)) same c.meet_joins.ensures.goes in
    went_then a w first.states.now first.arcs.now went step
