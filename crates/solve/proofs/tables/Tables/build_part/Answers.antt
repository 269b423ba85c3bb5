use Rattle.std.proofs.Common.{List, ◌++◌, map, subst}
use Rattle.verdict.specs.Course.{Done, pattern_operands, join_operands}
use Rattle.verdict.specs.Problem.{Pattern, read}
use Rattle.solve.specs.Builds.{Went, with_rows}
use Rattle.solve.specs.Parts.{dones}
use Rattle.solve.proofs.Going.{runs_on, parts_full, parts_met}
use Rattle.solve.proofs.Operands.{reads_same, dones_same}
use Rattle.solve.proofs.tables.Tables.build_part.Goals as goal

pub returns-in_err-running-clause-builds : goal.returns-in_err-running-clause-builds
returns-in_err-running-clause-builds g c =
    let first = c.args.self.now in
    let now = c.all_words.new.self in
    parts_full g.A.Alphabet.labels first.used first.states.now first.arcs.now now.states.now now.arcs.now now.used _ _ c.from_residual.result c.from_residual.ensures.1 c.in_err-running.ensures.adds

pub meet_all-requires-clause-patterns_stand : goal.meet_all-requires-clause-patterns_stand
meet_all-requires-clause-patterns_stand g c =
    let first = c.args.self.now in
    let now = c.all_words.new.self in
    λ h has. runs_on g.A.Alphabet.labels first.used first.states.now first.arcs.now now.states.now now.arcs.now now.used h.place c.in_ok-running.running (c.requires.patterns_stand h has) c.in_ok-running.ensures.adds

pub meet_all-requires-clause-finished_stand : goal.meet_all-requires-clause-finished_stand
meet_all-requires-clause-finished_stand g c =
    let first = c.args.self.now in
    let now = c.all_words.new.self in
    λ h has. runs_on g.A.Alphabet.labels first.used first.states.now first.arcs.now now.states.now now.arcs.now now.used h.place c.in_ok-running.running (c.requires.finished_stand h has) c.in_ok-running.ensures.adds

pub returns-clause-builds : goal.returns-clause-builds
returns-clause-builds g c =
    let a = g.A.Alphabet.labels in
    let first = c.args.self.now in
    let now = c.all_words.new.self in
    let after = c.meet_all.new.self in
    let s = first.states.now in
    let e = first.arcs.now in
    let p = c.args.part in
    let adds = c.in_ok-running.ensures.adds in
    let r = with_rows after.used c.meet_all.result in
    let one = subst (λ (ps : List (Pattern g.row.A-Label.Denot)). Went a (pattern_operands ps p ++ join_operands (dones now.states.now now.arcs.now c.args.finished.now) c.args.joins.now p) (record { used = now.used; running = c.in_ok-running.running }) now.states.now now.arcs.now after.states.now after.arcs.now r) (reads_same first.used s now.states.now e now.arcs.now adds.states_kept adds.arcs_kept c.args.patterns.now c.requires.patterns_stand) c.meet_all.ensures.goes in
    let two = subst (λ (ds : List (Done g.row.A-Label.Denot)). Went a (pattern_operands (map (read s e) c.args.patterns.now) p ++ join_operands ds c.args.joins.now p) (record { used = now.used; running = c.in_ok-running.running }) now.states.now now.arcs.now after.states.now after.arcs.now r) (dones_same first.used s now.states.now e now.arcs.now adds.states_kept adds.arcs_kept c.args.finished.now c.requires.finished_stand) one in
    parts_met a first.used s e now.states.now now.arcs.now now.used c.in_ok-running.running adds two
