use Rattle.std.proofs.Common.{rules, tests}
use Rattle.std.proofs.lemmas.Iterator.{YieldsList-from_slice, cases_from_all}
use Rattle.solve.proofs.Usings.{UsedBy, cases_used}
use Rattle.solve.proofs.roots.is_root.Goals as goal

pub returns : goal.returns
returns c =
    let js = c.args.joins.now in
    let p = c.args.part in
    let cases = cases_from_all _ _ c.all.result (λ j. UsedBy p j → ⊥) (UsedBy p) c.all.ensures.ran (YieldsList-from_slice js cc) (λ x q k. search (rules, tests)) (λ x q k. search (rules, tests)) in
    record { decides = cases_used js p c.all.result cases }
