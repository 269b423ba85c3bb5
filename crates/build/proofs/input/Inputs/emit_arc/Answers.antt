use Rattle.std.proofs.Common.{length, ap, arith}
use Rattle.build.proofs.Emitting.{rowed}
use Rattle.build.proofs.input.Inputs.emit_arc.Goals as goal

pub returns-clause-writes : goal.returns-clause-writes
returns-clause-writes g c = λ x xlow xis h. rowed g.A.Alphabet.labels c.args.self.now.left c.args.self.now.right c.args.pairs.now c.loop-right.out x c.loop-right.right-index (omega (arith, c.loop-right-test.false, ap length c.arcs-right-items.ensures.reads)) (c.loop-right.invariant.0 x xlow xis h)
