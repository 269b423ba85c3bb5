use Rattle.std.proofs.Common.{refl}
use Rattle.giver.proofs.Spelling.{accepts_just}
use Rattle.giver.proofs.fixed.FixedText.new.Goals as goal

pub returns : goal.returns
returns g c = record { holds = refl; accepts_just = accepts_just g.met.A.Alphabet.lawful g.met.A.RangedAlphabet.ranged c.args.letters.now }
