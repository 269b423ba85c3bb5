use Rattle.std.proofs.Common.{is_some, sym, refl, ◌∙◌, subst}
use Rattle.std.specs.List.{ContainsAt as Has}
use Rattle.std.proofs.lemmas.Bool.{both_ways}
use Rattle.build.specs.Pairs.{products, pairs}
use Rattle.build.specs.Tails.{Pushed}
use Rattle.build.proofs.Emitting.{passed, paired_has, pushed_pair}
use Rattle.build.proofs.Exploring.{reached_by}
use Rattle.build.proofs.input.Inputs.emit_pair.Goals as goal

pub returns-then-not-meets-clause-writes : goal.returns-then-not-meets-clause-writes
returns-then-not-meets-clause-writes g c =
    let a = g.A.Alphabet.labels in
    λ x y xlow ylow xis yis h.
    passed a c.args.self.now.left c.args.self.now.right c.args.pairs.now c.args.out.now x y
    (λ arrow. both_ways _ c.if-not-meets.true (c.meets.ensures.decides ∙ (λ i. is_some (a.first (a.meet (sym xis i).label (sym yis i).label))) ∙ arrow.3)) h

pub returns-in_default-clause-writes : goal.returns-in_default-clause-writes
returns-in_default-clause-writes g c =
    let a = g.A.Alphabet.labels in
    let left = c.args.self.now.left in
    let right = c.args.self.now.right in
    let rows = c.args.pairs.now in
    λ x y xlow ylow xis yis h.
    passed a left right rows c.args.out.now x y
    (λ arrow. c.in_default.ensures.finds (subst (Has (pairs rows)) (λ i. ((xis i).from, (yis i).from)) (paired_has a left right rows _ c.requires.paired arrow.2))) h

pub unreachable-requires : goal.unreachable-requires
unreachable-requires g c =
    let a = g.A.Alphabet.labels in
    let left = c.args.self.now.left in
    let right = c.args.self.now.right in
    let b = c.args.left.now in
    let b' = c.args.right.now in
    let found = c.in-Some.ensures.finds in
    let State = (products a left right).State in
    c.in_default-find.ensures.finds
    (paired_has a left right c.args.pairs.now (b.to, b'.to) c.requires.paired
    (reached_by a left right b b' b'.from c.requires.is_left_arc c.requires.is_right_arc (subst State found.1 (c.requires.paired.each c.in-Some.from found.0)) refl (sym c.meets.ensures.decides ∙ c.if-not-meets.false)))

pub returns-clause-writes : goal.returns-clause-writes
returns-clause-writes g c =
    let b = c.args.left.now in
    let b' = c.args.right.now in
    let found = c.in-Some.ensures.finds in
    let found' = c.in-Some-find.ensures.finds in
    λ x y xlow ylow xis yis h.
    pushed_pair g.A.Alphabet.labels c.args.self.now.left c.args.self.now.right c.args.pairs.now b b' x y c.in-Some.from c.requires.paired xlow ylow xis yis found.0 found.1 (sym c.meets.ensures.decides ∙ c.if-not-meets.false)
    c.args.out.now c.push.new.self c.in-Some-find.to c.push.result found'.0 found'.1 c.push.ensures.same_rows.long
    (subst (λ l. Pushed c.args.out.now c.push.new.self (record { from = c.in-Some.from; label = l; to = c.in-Some-find.to }) c.push.result) c.meet-label.ensures.is_meet c.push.ensures.pushes) h
