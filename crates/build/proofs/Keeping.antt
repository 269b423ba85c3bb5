-- What rows that are kept still say.
use Rattle.std.proofs.Common.{◌≡◌, ℕ, ◌+◌, ◌≤◌, List, take, drop, set, sym, refl, ap, ◌∙◌}
use Rattle.std.proofs.lemmas.List.{length-set, take-take, take-set-le, drop-take}
use Rattle.build.specs.Tables.{part, Kept}

module _ {X : Type 0} where
  pub kept_none : (n : ℕ) (xs : List X) → Kept n xs xs
  kept_none n xs = record { long = refl; front = refl }

  pub kept_more : (n : ℕ) (xs ys zs : List X) → Kept n xs ys → Kept n ys zs → Kept n xs zs
  kept_more n xs ys zs h k = record { long = k.long ∙ h.long; front = k.front ∙ h.front }

  pub kept_less : (n m : ℕ) (xs ys : List X) → m ≤ n → Kept n xs ys → Kept m xs ys
  kept_less n m xs ys low h = record { long = h.long; front = sym (take-take m n ys low) ∙ ap (take m) h.front ∙ take-take m n xs low }

  pub kept_set : (n i : ℕ) (xs : List X) (x : X) → n ≤ i → Kept n xs (set xs i x)
  kept_set n i xs x low = record { long = length-set xs i x; front = take-set-le n xs i x low }

  pub part_kept : (n : ℕ) (xs ys : List X) (first m : ℕ) → Kept n xs ys → first + m ≤ n → part ys first m ≡ part xs first m
  part_kept n xs ys first m kept within =
      let front : (zs : List X) → take (first + m) zs ≡ take (first + m) (take n zs) = λ zs. sym (take-take (first + m) n zs within) in
      sym (drop-take first m ys) ∙ ap (drop first) (front ys ∙ ap (take (first + m)) kept.front ∙ sym (front xs)) ∙ drop-take first m xs
