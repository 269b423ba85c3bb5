use Rattle.std.proofs.Common.{rules, refl, ap, ◌≡◌, Bool, List, false}
use Rattle.alphabet.specs.Labels.{from_to}
use Rattle.alphabet.proofs.Filling.{filled}
use Rattle.alphabet.proofs.modem.ModemRangedAlphabet.range.Goals as goal

pub returns : goal.returns
returns c =
    let lo = c.args.lo in
    let hi = c.args.hi in
    record { is_range = ap (λ (m : List Bool). record { marks = m }) (filled _ (λ f. (f.0.now ≡ lo) × (f.1.now ≡ hi)) (from_to 128 lo hi) 128 (λ f g k b low kept called. (search rules, search rules)) false _ _ (refl, refl) c.from_fn.ensures.items) }
