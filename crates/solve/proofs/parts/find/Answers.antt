use Rattle.std.proofs.Common.{◌∙◌, eqb, sym, rules, tests}
use Rattle.std.proofs.lemmas.Iterator.{YieldsList-from_slice}
use Rattle.std.proofs.lemmas.Iterator.Search.{find_from_yields_List}
use Rattle.solve.proofs.Finds.{find_is, copied_is}
use Rattle.solve.proofs.parts.find.Goals as goal

pub returns : goal.returns
returns c =
    let hs = c.args.finished.now in
    let p = c.args.part in
    let found = find_from_yields_List (λ h. eqb h.part p) _ _ c.find.result c.find.ensures.ran (YieldsList-from_slice hs cc) (λ x b q k. search (rules, tests)) in
    record { finds = c.copied.ensures ∙ copied_is c.find.result ∙ found ∙ sym (find_is (λ h. h.part) hs p) }
