-- The weir's wait accepts a digit and then anything, and nothing else.
use Rattle.std.proofs.Common.{◌≡◌, ℕ, zero, suc, ◌<◌, true, false, ltb, leb, ◌⊎◌, ◌↔◌, [], ◌∷◌, get_or, sym, refl, ap, ◌∙◌, subst, inl, inr, ⊎_elim, arith, lit<, lit≤}
use Rattle.std.specs.List.{ContainsAt as Has, AllByRecursion as All}
use Rattle.std.proofs.lemmas.Bool.{and_parts, and_from, lt-ltb, leb-true, le-leb, both_ways}
use Rattle.alphabet.specs.Modem.{modem, marks_from_to}
use Rattle.alphabet.specs.declared.modem.ModemLabel.{ModemLabel}
use Rattle.alphabet.specs.Marking.{lawful, ranged}
use Rattle.automaton.specs.declared.Arc.{Arc}
use Rattle.automaton.specs.Automaton.{Automaton, Word, Walk, stay, step, Accepts, of_rows, initial, accepting}
use Rattle.giver.specs.Told.{Sound}
use Rattle.gauges.specs.Replies.{Awaited, wait_states, wait_arcs}

abbrev digit : Arc ModemLabel
digit = record { from = 0; label = marks_from_to 48 57; to = 1 }

abbrev anything : Arc ModemLabel
anything = record { from = 1; label = modem.full; to = 1 }

abbrev pub wait : Automaton ModemLabel
wait = of_rows wait_states wait_arcs

zero_one : ◌≡◌ {A = ℕ} 0 1 → ⊥
zero_one e = omega arith

two : {X : Type 0} (x y b : X) → Has (x ∷ y ∷ []) b → (x ≡ b) ⊎ (y ≡ b)
two {X} x y b h = go h.0 h.1 h.2
  where
    go : (k : ℕ) → k < 2 → ((d : X) → get_or (x ∷ y ∷ []) k d ≡ b) → (x ≡ b) ⊎ (y ≡ b)
    go zero low at = inl (at x)
    go (suc zero) low at = inr (at x)
    go (suc (suc k)) low at = absurd (omega arith)

starts_at : (q : ℕ) → initial wait q ≡ true → q ≡ 0
starts_at zero h = refl
starts_at (suc zero) h = absurd (both_ways false refl h)
starts_at (suc (suc q)) h = absurd (both_ways false refl h)

-- from the second state on anything goes, and nowhere else
from_one : {p q : ℕ} {w : Word} → Walk modem.admits wait_arcs p w q → p ≡ 1 → All (λ x. x < 128) w
from_one stay e = tt
from_one (step {c} b has from yes' h) e =
    ⊎_elim (λ is. absurd (zero_one (ap (λ x. x.from) is ∙ from ∙ e)))
    (λ is. (lawful.within b.label c yes', from_one h (sym (ap (λ x. x.to) is)))) (two digit anything b has)

from_zero : {p q : ℕ} {w : Word} → Walk modem.admits wait_arcs p w q → p ≡ 0 → accepting wait q ≡ true → Awaited w
from_zero stay e end = absurd (both_ways false refl (ap (accepting wait) (sym e) ∙ end))
from_zero (step {c} b has from yes' h) e end =
    ⊎_elim
    (λ is.
    let admitted = sym (ranged.range_means 48 57 c) ∙ ap (λ x. modem.admits x.label c) is ∙ yes' in
    let ends = and_parts (leb 48 c) (leb c 57) (and_parts (ltb c 128) _ admitted).1 in
    (leb-true 48 c ends.0, leb-true c 57 ends.1, from_one h (sym (ap (λ x. x.to) is))))
    (λ is. absurd (zero_one (sym (ap (λ x. x.from) is ∙ from ∙ e)))) (two digit anything b has)

loop : (w : Word) → All (λ x. x < 128) w → Walk modem.admits wait_arcs 1 w 1
loop [] all = stay
loop (c ∷ w) all = step anything (1, lit< tt, λ d. refl) refl (lawful.full_all c all.0) (loop w all.1)

accepted : (w : Word) → Awaited w → Accepts modem.admits wait w
accepted [] h = absurd h
accepted (c ∷ w) h = record {
  start = 0;
  end = 1;
  starts = refl;
  ends = refl;
  walk = step digit (0, lit< tt, λ d. refl) refl (ranged.range_means 48 57 c ∙ and_from _ _ (lt-ltb c 128 (omega (arith, h.1))) (and_from _ _ (le-leb 48 c h.0) (le-leb c 57 h.1))) (loop w h.2);
}

pub exact : (w : Word) → Accepts modem.admits wait w ↔ Awaited w
exact w = (λ x. from_zero x.walk (starts_at x.start x.starts) x.ends, accepted w)

pub sound : Sound wait
sound = ((lit≤ tt, lit≤ tt), λ b has. ⊎_elim (λ is. subst (λ (x : Arc ModemLabel). (x.from < 2) × (x.to < 2)) is (lit< tt, lit< tt)) (λ is. subst (λ (x : Arc ModemLabel). (x.from < 2) × (x.to < 2)) is (lit< tt, lit< tt)) (two digit anything b has))
