use Rattle.std.proofs.Common.{rules}
use Rattle.alphabet.specs.Modem.{marked}
use Rattle.alphabet.specs.Marking.{lawful}
use Rattle.alphabet.proofs.Least.{first_once}
use Rattle.alphabet.proofs.modem.ModemAlphabet.first.Goals as goal

pub returns : goal.returns
returns c =
    let l = c.args.label.now in
    record { is_first = first_once (marked l) _ _ (search rules) (lawful.first_least l) }
