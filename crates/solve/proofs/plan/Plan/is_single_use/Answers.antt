use Rattle.std.proofs.Common.{◌≤◌, refl, rules, tests, arith}
use Rattle.std.proofs.lemmas.Iterator.{YieldsList-from_range, cases_from_all}
use Rattle.verdict.specs.Verdicts.{uses}
use Rattle.solve.proofs.Uses.{cases_single}
use Rattle.solve.proofs.plan.Plan.is_single_use.Goals as goal

pub returns : goal.returns
returns c =
    let plan = c.args.self.now in
    let js = plan.joins.now in
    let cases = cases_from_all _ _ c.all.result (λ p. uses js p ≤ 1) (λ p. uses js p ≤ 1 → ⊥) c.all.ensures.ran (YieldsList-from_range 0 plan.parts plan.parts refl (omega arith)) (λ x q k. search (rules, tests)) (λ x q k. search (rules, tests)) in
    record { decides = cases_single js plan.parts plan.known c.all.result cases }
