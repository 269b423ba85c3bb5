use Rattle.words.proofs.States.{arc_ends}
use Rattle.words.proofs.machine.Machine.down.Goals as goal

pub leads-requires : goal.leads-requires
leads-requires g c = let both = arc_ends _ _ _ c.loop-arc-test.true c.arc-item.is _ c.args.self.now.inside in record { ends_within = both.1 }
