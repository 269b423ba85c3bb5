use Rattle.std.proofs.Common.{ℕ, ◌<◌, ◌≤◌, arith}
use Rattle.sheet.specs.Joins.{Marked}
use Rattle.sheet.proofs.Circles.{settle_fewer}
use Rattle.verdict.proofs.Chains.{rooted}
use Rattle.solve.specs.Report.{Standing}
use Rattle.solve.proofs.Placing.{placing_begin, placing_more, standing_still, still_in_turn, all_marked, all_pieces}
use Rattle.solve.proofs.pieces.place_pieces.Given as given
use Rattle.solve.proofs.pieces.place_pieces.Goals as goal
use Rattle.solve.proofs.pieces.place_pieces.Goals.{In-Some}

-- the parts of the join that was found
ends : (g : given.Over) (c : In-Some g) → let j = c.in-Some.join in (j.whole < c.args.plan.now.parts) × (j.left < c.args.plan.now.parts) × (j.right < c.args.plan.now.parts)
ends g c = c.args.plan.now.known c.in-Some.join c.in-Some.ensures.finds.0

-- all automata still stand
standing : (g : given.Over) (c : In-Some g) → Standing c.loop-join.states c.args.arcs.now c.args.used c.args.plan.now.parts c.loop-join.report
standing g c =
    standing_still g.A.Alphabet.labels.admits c.args.states.now c.args.arcs.now c.args.plan.now.joins.now c.args.plan.now.parts c.args.report.now c.args.words.now c.loop-join.placed c.loop-join.states c.loop-join.report
    c.loop-join.invariant c.args.used c.requires.standing

pub loop-join-init : goal.loop-join-init
loop-join-init g c =
    let marks = c.roots-placed.ensures in
    placing_begin g.A.Alphabet.labels.admits c.args.states.now c.args.arcs.now c.args.plan.now.joins.now c.args.plan.now.parts c.args.report.now c.args.words.now c.roots-placed.result
    marks.long marks.all marks.only c.requires.roots_worded

pub loop-join-preserved : goal.loop-join-preserved
loop-join-preserved g c =
    let found = c.in-Some.ensures.finds in
    rw (c.insert-in-Some.ensures.inserts, c.insert.ensures.inserts)
    (placing_more g.A.Alphabet.labels.admits c.args.states.now c.args.arcs.now c.args.plan.now.joins.now c.args.plan.now.parts c.args.report.now c.args.words.now c.loop-join.placed c.loop-join.states c.loop-join.report
    c.loop-join.invariant c.requires.single_use c.args.plan.now.known c.args.plan.now.few_parts (standing g (goal.at.loop-join-preserved g c).In-Some).rows_there c.in-Some.join found.0 found.1 found.2 c.split_join.new.states c.split_join.new.report
    c.split_join.ensures.splits c.split_join.ensures.renumbers)

pub loop-join-smaller : goal.loop-join-smaller
loop-join-smaller g c =
    let inv = c.loop-join.invariant in
    let found = c.in-Some.ensures.finds in
    let parts = ends g (goal.at.loop-join-smaller g c).In-Some in
    let few : c.args.plan.now.parts ≤ 64 = c.args.plan.now.few_parts in
    rw (c.insert-in-Some.ensures.inserts, c.insert.ensures.inserts)
    (settle_fewer c.loop-join.placed c.in-Some.join (omega (arith, parts.1, few, inv.long)) (omega (arith, parts.2, few, inv.long)) found.1 found.2)

pub split_join-requires : goal.split_join-requires
split_join-requires g c =
    let at = (goal.at.split_join-requires g c).In-Some in
    let inv = c.loop-join.invariant in
    let found = c.in-Some.ensures.finds in
    let parts = ends g at in
    let stand = standing g at in
    let j = c.in-Some.join in record {
      has_whole = omega (arith, parts.0, stand.rows_there);
      has_left = omega (arith, parts.1, stand.rows_there);
      has_right = omega (arith, parts.2, stand.rows_there);
      in_use = stand.in_use;
      left_stands = stand.stands j.left parts.1;
      right_stands = stand.stands j.right parts.2;
      within = (inv.worded j.whole found.1).1;
      in_turn = still_in_turn g.A.Alphabet.labels.admits c.args.states.now c.args.arcs.now c.args.plan.now.joins.now c.args.plan.now.parts c.args.report.now c.args.words.now c.loop-join.placed c.loop-join.states c.loop-join.report
          inv j (c.requires.in_turn j found.0) found.1;
    }

pub returns : goal.returns
returns g c =
    let admits = g.A.Alphabet.labels.admits in
    let start = c.args.states.now in
    let arcs = c.args.arcs.now in
    let joins = c.args.plan.now.joins.now in
    let given = c.args.report.now in
    let words = c.args.words.now in
    let inv = c.loop-join.invariant in
    let settled = c.in_default.ensures.finds in
    let all : (p : ℕ) → p < c.args.plan.now.parts → Marked c.loop-join.placed p =
    λ p low. all_marked admits start arcs joins c.args.plan.now.parts given words c.loop-join.placed c.loop-join.states c.loop-join.report inv settled p (rooted joins c.args.plan.now.parts c.args.plan.now.acyclic c.args.plan.now.known p low) in
    record {
      renumbers = inv.renumbered;
      rewords = inv.reworded;
      keeps_roots = inv.kept;
      pieces = all_pieces admits start arcs joins c.args.plan.now.parts given words c.loop-join.placed c.loop-join.states c.loop-join.report inv settled all c.args.plan.now.known;
      accepts = λ p low. (inv.worded p (all p low)).0;
    }
