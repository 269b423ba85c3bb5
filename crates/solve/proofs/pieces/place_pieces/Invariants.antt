use Rattle.std.proofs.Common.{not, count_by}
use Rattle.solve.proofs.Placing.{Placing}
use Rattle.solve.proofs.pieces.place_pieces.Given as goal

abbrev pub invariant-loop-join : goal.invariant-loop-join
invariant-loop-join g l = Placing g.A.Alphabet.labels.admits l.initial.states l.arcs l.plan.joins.now l.plan.parts l.initial.report l.words l.placed l.states l.report

abbrev pub decreases-loop-join : goal.decreases-loop-join
decreases-loop-join g l = count_by not l.placed
