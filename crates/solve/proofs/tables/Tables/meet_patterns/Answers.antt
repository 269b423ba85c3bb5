use Rattle.std.proofs.Common.{◌+◌, [], ◌∷◌, map, get_or, take, drop, sym, ◌∙◌, subst}
use Rattle.std.proofs.ByRecursion.{has_get_or}
use Rattle.sheet.specs.Patterns.{nowhere}
use Rattle.verdict.specs.Course.{pattern_operands}
use Rattle.verdict.specs.Problem.{Pattern, read}
use Rattle.solve.specs.Builds.{Work, Went, with_rows}
use Rattle.solve.proofs.Going.{went_then, went_broken, went_stands}
use Rattle.solve.proofs.Operands.{patterns_more, patterns_rest, read_same}
use Rattle.solve.proofs.tables.Tables.meet_patterns.Given as given
use Rattle.solve.proofs.tables.Tables.meet_patterns.Goals as goal
use Rattle.solve.proofs.tables.Tables.meet_patterns.Goals.{After-meet_pattern}

pub meet_pattern-requires-clause-pattern_stands : goal.meet_pattern-requires-clause-pattern_stands
meet_pattern-requires-clause-pattern_stands g c =
    let first = c.args.self.now in
    let h = get_or c.args.patterns.now c.loop-held.held-index nowhere in
    went_stands g.A.Alphabet.labels (record { used = first.used; running = c.args.running }) first.states.now first.arcs.now c.loop-held.invariant.0 h.place (c.requires.patterns_stand h (has_get_or c.args.patterns.now c.loop-held.held-index nowhere c.loop-held-test.true))

-- one pattern more
stepped : (g : given.Over) (c : After-meet_pattern g) → let first = c.args.self.now in let after = c.meet_pattern.new.self in
    Went g.A.Alphabet.labels (pattern_operands (map (read first.states.now first.arcs.now) (take (c.loop-held.held-index + 1) c.args.patterns.now)) c.args.part) (record { used = first.used; running = c.args.running }) first.states.now first.arcs.now after.states.now after.arcs.now (with_rows after.used c.meet_pattern.result)
stepped g c =
    let a = g.A.Alphabet.labels in
    let first = c.args.self.now in
    let now = c.loop-held.self in
    let after = c.meet_pattern.new.self in
    let s = first.states.now in
    let e = first.arcs.now in
    let hs = c.args.patterns.now in
    let k = c.loop-held.held-index in
    let h = get_or hs k nowhere in
    let inv = c.loop-held.invariant.0 in
    let r = with_rows after.used c.meet_pattern.result in
    let stands = c.requires.patterns_stand h (has_get_or hs k nowhere c.loop-held-test.true) in
    let same = read_same first.used s now.states.now e now.arcs.now inv.states_kept inv.arcs_kept h stands.lies in
    let step = subst (λ (x : Pattern g.row.A-Label.Denot). Went a (pattern_operands (x ∷ []) c.args.part) (record { used = now.used; running = c.loop-held.met }) now.states.now now.arcs.now after.states.now after.arcs.now r) same c.meet_pattern.ensures.goes in
    subst (λ os. Went a os (record { used = first.used; running = c.args.running }) s e after.states.now after.arcs.now r) (sym (patterns_more c.args.part (read s e) hs k c.loop-held-test.true)) (went_then a (record { used = first.used; running = c.args.running }) s e inv step)

pub loop-held-preserved : goal.loop-held-preserved
loop-held-preserved g c =
    let first = c.args.self.now in
    let after = c.meet_pattern.new.self in (
      subst (λ r. Went g.A.Alphabet.labels (pattern_operands (map (read first.states.now first.arcs.now) (take (c.loop-held.held-index + 1) c.args.patterns.now)) c.args.part) (record { used = first.used; running = c.args.running }) first.states.now first.arcs.now after.states.now after.arcs.now (with_rows after.used r)) c.in_ok-met.was (stepped g (goal.at.loop-held-preserved g c).After-meet_pattern),
      c.meet_pattern.ensures.same_states ∙ c.loop-held.invariant.1,
      c.meet_pattern.ensures.same_arcs ∙ c.loop-held.invariant.2,
    )

pub returns-in_err-met-clause-goes : goal.returns-in_err-met-clause-goes
returns-in_err-met-clause-goes g c =
    let first = c.args.self.now in
    let after = c.meet_pattern.new.self in
    let s = first.states.now in
    let e = first.arcs.now in
    let hs = c.args.patterns.now in
    let k = c.loop-held.held-index in
    let w : Work = record { used = first.used; running = c.args.running } in
    let all = subst (λ r. Went g.A.Alphabet.labels (pattern_operands (map (read s e) (take (k + 1) hs)) c.args.part) w s e after.states.now after.arcs.now (with_rows after.used r)) c.in_err-met.was (stepped g (goal.at.returns-in_err-met-clause-goes g c).After-meet_pattern) in
    went_broken g.A.Alphabet.labels w s e (pattern_operands (map (read s e) (drop (k + 1) hs)) c.args.part) (patterns_rest c.args.part (read s e) hs (k + 1)) after.used _ c.from_residual.result c.from_residual.ensures.1 all
