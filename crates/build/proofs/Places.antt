-- Lists without repeats.
use Rattle.std.proofs.Common.{◌≡◌, ℕ, zero, suc, ◌<◌, List, [], ◌∷◌, ◌++◌, length, get_or, sym, ap, subst, ⊎_elim, arith}
use Rattle.std.specs.List.{ContainsAt as Has}
use Rattle.std.proofs.ByRecursion.{has_get_or, has_push_cases}
use Rattle.build.specs.Pairs.{Distinct}

module _ {X : Type 0} where
  pub distinct_push : (xs : List X) (x : X) → Distinct xs → (Has xs x → ⊥) → Distinct (xs ++ x ∷ [])
  distinct_push [] x d none = ((λ h. omega (arith, h.1)), tt)
  distinct_push (y ∷ xs) x d none = (
    λ h. ⊎_elim d.0 (λ same. none (0, omega arith, λ _. sym same)) (has_push_cases xs x y h),
    distinct_push xs x d.1 (λ h. none (suc h.0, omega (arith, h.1), λ e. h.2 e)),
  )

  -- two places of one element are one place
  pub distinct_places : (xs : List X) (d : X) → Distinct xs → (i j : ℕ) → i < length xs → j < length xs → get_or xs i d ≡ get_or xs j d → i ≡ j
  distinct_places [] d dis i j low high e = absurd (omega arith)
  distinct_places (x ∷ xs) d dis zero zero low high e = omega arith
  distinct_places (x ∷ xs) d dis zero (suc j) low high e = absurd (dis.0 (subst (Has xs) (sym e) (has_get_or xs j d (omega arith))))
  distinct_places (x ∷ xs) d dis (suc i) zero low high e = absurd (dis.0 (subst (Has xs) e (has_get_or xs i d (omega arith))))
  distinct_places (x ∷ xs) d dis (suc i) (suc j) low high e = ap suc (distinct_places xs d dis.1 i j (omega arith) (omega arith) e)
