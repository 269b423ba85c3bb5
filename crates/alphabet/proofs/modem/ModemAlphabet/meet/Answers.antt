use Rattle.std.proofs.Common.{rules, refl, ap, ◌≡◌, ◌&&◌, Bool, List, false}
use Rattle.alphabet.specs.Modem.{marked}
use Rattle.alphabet.proofs.Filling.{filled}
use Rattle.alphabet.proofs.modem.ModemAlphabet.meet.Goals as goal

pub returns : goal.returns
returns c =
    let l = c.args.a.now in
    let r = c.args.b.now in
    record { is_meet = ap (λ (m : List Bool). record { marks = m }) (filled _ (λ f. (f.0.now ≡ l) × (f.1.now ≡ r)) (λ k. marked l k && marked r k) 128 (λ f g k b low kept called. (search rules, search rules)) false _ _ (refl, refl) c.from_fn.ensures.items) }
