use Rattle.solve.proofs.Laying.{Laying}
use Rattle.solve.proofs.rooting.place_roots.Given as goal

abbrev pub invariant-loop-part : goal.invariant-loop-part
invariant-loop-part g l = Laying g.A.Alphabet.labels.admits l.plan.joins.now l.plan.parts l.arcs l.part l.initial.states l.states l.initial.report l.report l.initial.words l.words l.end
