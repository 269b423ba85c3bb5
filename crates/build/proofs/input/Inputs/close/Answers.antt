use Rattle.std.proofs.Common.{length, sym, ap, subst, arith}
use Rattle.std.proofs.ByRecursion.{All-get_or}
use Rattle.build.specs.Pairs.{pairs, pair_of, products}
use Rattle.build.specs.Tails.{written}
use Rattle.build.proofs.Exploring.{pair_read, length_pairs, long_grown, closed_more, closed_all}
use Rattle.build.proofs.input.Inputs.close.Goals as goal

pub close_at-requires-clause-reachable : goal.close_at-requires-clause-reachable
close_at-requires-clause-reachable g c =
    let t = written c.loop-pair.pairs in
    let found = c.in-Some.ensures.lookup in
    let State = (products g.A.Alphabet.labels c.args.self.now.left c.args.self.now.right).State in
    let pair = pair_read t c.written.result.now c.loop-pair.i c.in-Some.field-0.now c.written.ensures.reads found.3.0 found.1 in
    subst State (sym pair.1) (All-get_or State (pairs t) c.loop-pair.i (0, 0) (omega (arith, pair.0, length_pairs t)) c.loop-pair.invariant.0.0.0.reached)

pub loop-pair-preserved : goal.loop-pair-preserved
loop-pair-preserved g c =
    let found = c.in-Some.ensures.lookup in
    let t = c.loop-pair.pairs in
    let u = c.close_at.new.pairs in
    let i = c.loop-pair.i in
    let new = c.in_ok-close_at.ensures in
    let pair = pair_read (written t) c.written.result.now i c.in-Some.field-0.now c.written.ensures.reads found.3.0 found.1 in (
      closed_more g.A.Alphabet.labels c.args.self.now.left c.args.self.now.right c.args.pairs.now t u i (pair_of c.in-Some.field-0.now) pair.0 pair.1 c.loop-pair.invariant.0 new.closes new.same_rows,
      omega (arith, pair.0, long_grown (written t) (written u) new.closes.1),
    )

pub returns-clause-closes : goal.returns-clause-closes
returns-clause-closes g c =
    closed_all g.A.Alphabet.labels c.args.self.now.left c.args.self.now.right c.args.pairs.now c.loop-pair.pairs c.loop-pair.i (omega (arith, c.in_default.ensures.lookup.3, ap length c.written.ensures.reads)) c.loop-pair.invariant.0.0
