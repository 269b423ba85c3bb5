-- Uses of parts, and what is asked for the roots below a part.
use Rattle.std.proofs.Common.{◌≡◌, ℕ, zero, suc, ◌+◌, ◌<◌, ◌≤◌, Bool, true, false, List, length, Decides, refl, ◌∙◌, subst, ⊎_elim, add-one, zero-add, arith}
use Rattle.std.specs.Bool.{MatchBool}
use Rattle.std.specs.List.{AllWithin, HoldsAt, range_with_len}
use Rattle.std.proofs.lemmas.List.FromFn.{length-range_with_len, get_or-range_with_len}
use Rattle.std.proofs.lemmas.Bool.{both_ways, cases_lt}
use Rattle.std.proofs.lemmas.Bool.Decides.{nat_tests}
use Rattle.sheet.specs.declared.Join.{Join}
use Rattle.sheet.specs.Joins.{Known, Uses}
use Rattle.verdict.specs.Verdicts.{uses, SingleUse, Root, roots_below}
use Rattle.verdict.proofs.Chains.{cases_root}

-- a part that no join knows has no uses
unknown_root : (js : List Join) (n : ℕ) → Known n js → (p : ℕ) → n ≤ p → Root js p
unknown_root js n known p high =
    ⊎_elim (λ root. root) (λ (u : (x : ℕ) × Uses js x p). let k = known u.1.0 u.1.1 in absurd (⊎_elim (λ is. omega (arith, k.1)) (λ is. omega (arith, k.2)) u.1.3)) (cases_root js p)

-- no part is used twice exactly if none of the first n is
pub cases_single : (js : List Join) (n : ℕ) → Known n js → (r : Bool) →
    MatchBool r (AllWithin (λ p. uses js p ≤ 1) (range_with_len 0 n) 0 (length (range_with_len 0 n))) ((k : ℕ) × (k < length (range_with_len 0 n)) × HoldsAt (λ p. uses js p ≤ 1 → ⊥) (range_with_len 0 n) k) →
    Decides r (SingleUse js)
cases_single js n known true all = (λ _ p. ⊎_elim (single p) (λ high. omega (arith, unknown_root js n known p high)) (cases_lt p n), λ _. refl)
  where
    single : (p : ℕ) → p < n → uses js p ≤ 1
    single p low = subst (λ q. uses js q ≤ 1) (get_or-range_with_len 0 n p 0 low ∙ zero-add p) (all p 0 (omega arith) (omega (arith, low, length-range_with_len 0 n)))
cases_single js n known false (k, low, twice) = (λ e. absurd (both_ways false refl e), λ single. absurd (twice 0 (single _)))

module _ (js : List Join) where
  pub roots_root : (f : ℕ → ℕ) (p : ℕ) → Root js p → roots_below js f (p + 1) ≡ roots_below js f p + f p
  roots_root f p root = rw add-one (grind (arith, nat_tests))

  pub roots_other : (f : ℕ → ℕ) (p : ℕ) → (Root js p → ⊥) → roots_below js f (p + 1) ≡ roots_below js f p
  roots_other f p other = rw add-one (grind (arith, nat_tests))

  -- only what is asked for the roots below counts
  pub roots_less : (f g : ℕ → ℕ) (p : ℕ) → ((q : ℕ) → q < p → Root js q → f q ≤ g q) → roots_below js f p ≤ roots_below js g p
  roots_less f g zero less = omega arith
  roots_less f g (suc p) less =
      let before = roots_less f g p (λ q low. less q (omega arith)) in
      let here : Root js p → f p ≤ g p = less p (omega arith) in
      grind (arith, nat_tests)

  pub roots_same : (f g : ℕ → ℕ) (p : ℕ) → ((q : ℕ) → q < p → f q ≡ g q) → roots_below js f p ≡ roots_below js g p
  roots_same f g p same = omega (arith, roots_less f g p (λ q low _. omega (arith, same q low)), roots_less g f p (λ q low _. omega (arith, same q low)))

  roots_upto : (f : ℕ → ℕ) (p q : ℕ) → p ≤ q → roots_below js f p ≤ roots_below js f q
  roots_upto f p zero low = subst (λ (n : ℕ). roots_below js f n ≤ roots_below js f 0) (let e : 0 ≡ p = omega arith in e) (omega arith)
  roots_upto f p (suc q) low = ⊎_elim
      (λ (high : q < p). subst (λ (n : ℕ). roots_below js f n ≤ roots_below js f (suc q)) (let e : suc q ≡ p = omega arith in e) (omega arith))
      (λ (below : p ≤ q). omega (arith, roots_upto f p q below)) (cases_lt q p)

  -- the place of a root's word ends before the next
  pub roots_before : (f : ℕ → ℕ) (q p : ℕ) → q < p → Root js q → roots_below js f q + f q ≤ roots_below js f p
  roots_before f q p low root = omega (arith, roots_root f q root, roots_upto f (q + 1) p (omega arith))
