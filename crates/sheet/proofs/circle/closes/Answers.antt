use Rattle.std.proofs.Common.{arith}
use Rattle.sheet.proofs.Circles.{found_first, found_more, found_all, settle_fewer}
use Rattle.sheet.proofs.circle.closes.Goals as goal

pub loop-next-init : goal.loop-next-init
loop-next-init c = rw (c.insert-2.ensures.inserts, c.insert.ensures.inserts, c.new-below.ensures.is_empty) (found_first c.args.joins.now c.args.join c.requires.left_known c.requires.right_known)

pub loop-next-preserved : goal.loop-next-preserved
loop-next-preserved c =
    let found = c.in-Some.ensures.finds in
    rw (c.insert-in-Some-2.ensures.inserts, c.insert-in-Some.ensures.inserts) (found_more c.args.joins.now c.args.join c.loop-next.below c.in-Some.next c.requires.known c.loop-next.invariant found.0 found.1)

pub loop-next-smaller : goal.loop-next-smaller
loop-next-smaller c =
    let found = c.in-Some.ensures.finds in
    let parts = c.requires.known c.in-Some.next found.0 in
    let long = c.loop-next.invariant.long in
    rw (c.insert-in-Some-2.ensures.inserts, c.insert-in-Some.ensures.inserts) (settle_fewer c.loop-next.below c.in-Some.next (omega (arith, parts.1, long)) (omega (arith, parts.2, long)) found.1 found.2)

pub returns : goal.returns
returns c =
    let found = c.loop-next.invariant in
    record { decides = rw c.contains.ensures.tells (found.only c.args.join.whole, found_all c.args.joins.now c.args.join c.loop-next.below found c.in_default.ensures.finds c.args.join.whole) }
