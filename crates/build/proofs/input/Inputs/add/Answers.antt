use Rattle.std.proofs.Common.{[], sym, ◌∙◌, subst, append-nil}
use Rattle.std.specs.List.{ContainsAt as Has}
use Rattle.std.proofs.lemmas.Bool.{both_ways}
use Rattle.build.specs.Pairs.{pairs}
use Rattle.build.specs.Tails.{Pushed}
use Rattle.build.proofs.Exploring.{extended_push, found_pair}
use Rattle.build.proofs.input.Inputs.add.Goals as goal

pub returns-then-is_some-clause-adds : goal.returns-then-is_some-clause-adds
returns-then-is_some-clause-adds g c =
    let found = found_pair c.written.result.now c.args.p c.args.q c.find.result c.find.ensures.finds in
    (c.requires.sofar, record { added = []; more = sym (append-nil _) }, subst (λ l. Has (pairs l) (c.args.p, c.args.q)) c.written.ensures.reads (found.0 (sym c.is_some.ensures ∙ c.if-is_some.true)))

pub returns-clause-adds : goal.returns-clause-adds
returns-clause-adds g c =
    let found = found_pair c.written.result.now c.args.p c.args.q c.find.result c.find.ensures.finds in
    extended_push g.A.Alphabet.labels c.args.self.now.left c.args.self.now.right c.args.pairs.now c.push.new.self c.args.p c.args.q c.push.result c.requires.sofar c.requires.reachable
    (λ has. both_ways _ c.if-is_some.false (c.is_some.ensures ∙ found.1 (subst (λ l. Has (pairs l) (c.args.p, c.args.q)) (sym c.written.ensures.reads) has))) c.push.ensures.same_rows.long
    (subst (λ r. Pushed c.args.pairs.now c.push.new.self r c.push.result) c.row.ensures.marked c.push.ensures.pushes)
