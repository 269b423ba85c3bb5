use Rattle.std.proofs.Common.{false, arith}
use Rattle.std.proofs.lemmas.List.{length-replicate}
use Rattle.std.proofs.lemmas.Bool.{both_ways}
use Rattle.giver.proofs.Running.{none_marked}
use Rattle.solve.proofs.pieces.roots.Goals as goal

pub loop-part-init : goal.loop-part-init
loop-part-init c = rw c.new-roots.ensures.is_empty (record { long = length-replicate 64 false; all = λ p low. absurd (omega arith); only = λ p m. absurd (both_ways _ (none_marked 64 p) m) })
