use Rattle.build.proofs.Exploring.{explored}
use Rattle.build.proofs.input.Inputs.explore.Goals as goal

pub returns-clause-explores : goal.returns-clause-explores
returns-clause-explores g c =
    explored g.A.Alphabet.labels c.args.self.now.left c.args.self.now.right c.args.pairs.now c.begin.new.pairs c.close.new.pairs c.close.result c.in_ok-begin.ensures.begins c.close.ensures.closes
