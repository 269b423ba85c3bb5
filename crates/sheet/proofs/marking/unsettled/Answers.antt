use Rattle.std.proofs.Common.{rules, tests}
use Rattle.std.proofs.lemmas.Iterator.{first_from_find, YieldsList-from_slice}
use Rattle.sheet.specs.Joins.{Settled}
use Rattle.sheet.proofs.Finding.{Unsettled, copied_found}
use Rattle.sheet.proofs.marking.unsettled.Goals as goal

pub returns : goal.returns
returns c =
    let marks = c.args.set.now in
    let joins = c.args.joins.now in
    let found = first_from_find _ _ c.find.result (Unsettled marks) (Settled marks) c.find.ensures.ran (YieldsList-from_slice joins cc) (λ x q k. search (rules, tests)) (λ x q k. search (rules, tests)) in
    record { finds = rw c.copied.ensures (copied_found marks joins c.find.result found) }
