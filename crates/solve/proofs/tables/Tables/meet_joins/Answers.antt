use Rattle.std.proofs.Common.{◌+◌, List, [], ◌∷◌, get_or, take, drop, sym, ◌∙◌, subst}
use Rattle.sheet.specs.Joins.{none}
use Rattle.verdict.specs.Course.{Done, join_operands}
use Rattle.solve.specs.Builds.{Work, Went, with_rows}
use Rattle.solve.specs.Parts.{dones}
use Rattle.solve.proofs.Going.{went_then, went_broken, went_stands}
use Rattle.solve.proofs.Operands.{joins_more, joins_rest, dones_same}
use Rattle.solve.proofs.tables.Tables.meet_joins.Given as given
use Rattle.solve.proofs.tables.Tables.meet_joins.Goals as goal
use Rattle.solve.proofs.tables.Tables.meet_joins.Goals.{After-meet_join}

pub meet_join-requires-clause-finished_stand : goal.meet_join-requires-clause-finished_stand
meet_join-requires-clause-finished_stand g c =
    let first = c.args.self.now in
    λ h has. went_stands g.A.Alphabet.labels (record { used = first.used; running = c.args.running }) first.states.now first.arcs.now c.loop-join.invariant.0 h.place (c.requires.finished_stand h has)

-- one join more
stepped : (g : given.Over) (c : After-meet_join g) → let first = c.args.self.now in let after = c.meet_join.new.self in
    Went g.A.Alphabet.labels (join_operands (dones first.states.now first.arcs.now c.args.finished.now) (take (c.loop-join.join-index + 1) c.args.joins.now) c.args.part) (record { used = first.used; running = c.args.running }) first.states.now first.arcs.now after.states.now after.arcs.now (with_rows after.used c.meet_join.result)
stepped g c =
    let a = g.A.Alphabet.labels in
    let first = c.args.self.now in
    let now = c.loop-join.self in
    let after = c.meet_join.new.self in
    let s = first.states.now in
    let e = first.arcs.now in
    let js = c.args.joins.now in
    let hs = c.args.finished.now in
    let k = c.loop-join.join-index in
    let inv = c.loop-join.invariant.0 in
    let r = with_rows after.used c.meet_join.result in
    let same = dones_same first.used s now.states.now e now.arcs.now inv.states_kept inv.arcs_kept hs c.requires.finished_stand in
    let step = subst (λ (x : List (Done g.row.A-Label.Denot)). Went a (join_operands x (get_or js k none ∷ []) c.args.part) (record { used = now.used; running = c.loop-join.met }) now.states.now now.arcs.now after.states.now after.arcs.now r) same c.meet_join.ensures.goes in
    subst (λ os. Went a os (record { used = first.used; running = c.args.running }) s e after.states.now after.arcs.now r) (sym (joins_more c.args.part (dones s e hs) js k c.loop-join-test.true)) (went_then a (record { used = first.used; running = c.args.running }) s e inv step)

pub loop-join-preserved : goal.loop-join-preserved
loop-join-preserved g c =
    let first = c.args.self.now in
    let after = c.meet_join.new.self in (
      subst (λ r. Went g.A.Alphabet.labels (join_operands (dones first.states.now first.arcs.now c.args.finished.now) (take (c.loop-join.join-index + 1) c.args.joins.now) c.args.part) (record { used = first.used; running = c.args.running }) first.states.now first.arcs.now after.states.now after.arcs.now (with_rows after.used r)) c.in_ok-met.was (stepped g (goal.at.loop-join-preserved g c).After-meet_join),
      c.meet_join.ensures.same_states ∙ c.loop-join.invariant.1,
      c.meet_join.ensures.same_arcs ∙ c.loop-join.invariant.2,
    )

pub returns-in_err-met-clause-goes : goal.returns-in_err-met-clause-goes
returns-in_err-met-clause-goes g c =
    let first = c.args.self.now in
    let after = c.meet_join.new.self in
    let s = first.states.now in
    let e = first.arcs.now in
    let js = c.args.joins.now in
    let ds = dones s e c.args.finished.now in
    let k = c.loop-join.join-index in
    let w : Work = record { used = first.used; running = c.args.running } in
    let all = subst (λ r. Went g.A.Alphabet.labels (join_operands ds (take (k + 1) js) c.args.part) w s e after.states.now after.arcs.now (with_rows after.used r)) c.in_err-met.was (stepped g (goal.at.returns-in_err-met-clause-goes g c).After-meet_join) in
    went_broken g.A.Alphabet.labels w s e (join_operands ds (drop (k + 1) js) c.args.part) (joins_rest c.args.part ds js (k + 1)) after.used _ c.from_residual.result c.from_residual.ensures.1 all
