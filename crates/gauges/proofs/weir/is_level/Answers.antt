use Rattle.std.proofs.Common.{arith, rules}
use Rattle.alphabet.specs.Modem.{marks_from_to}
use Rattle.giver.proofs.Spelling.{chain_sound}
use Rattle.gauges.proofs.weir.is_level.Goals as goal

pub returns : goal.returns
returns c =
    let told = c.takes.ensures.decides (chain_sound marks_from_to _ (search arith)) in
    search (rules, told)
