-- How often a part stands on right-hand sides, by the places of the joins.
use Rattle.std.proofs.Common.{◌≡◌, ℕ, suc, ◌<◌, ◌≤◌, Bool, true, false, ◌⊎◌, List, length, get_or, set, Decides, sym, refl, ap, subst, inl, inr, ⊎_elim, arith}
use Rattle.std.specs.Bool.{MatchBool}
use Rattle.std.specs.List.{AllWithin, HoldsAt}
use Rattle.std.proofs.lemmas.List.{length-set, get_or-set_other}
use Rattle.std.proofs.lemmas.List.Sums.{sum_by-set, get_or-le-sum_by}
use Rattle.std.proofs.lemmas.Bool.{both_ways}
use Rattle.std.proofs.lemmas.Bool.Decides.{nat_tests}
use Rattle.sheet.specs.declared.Join.{Join}
use Rattle.sheet.specs.Joins.{none}
use Rattle.verdict.specs.Verdicts.{uses_in, SingleUse, Root}
use Rattle.verdict.proofs.Chains.{cases_root}

-- the part is the left or the right
abbrev pub UsedBy : ℕ → Join → Type 0
UsedBy p j = (j.left ≡ p) ⊎ (j.right ≡ p)

pub used_once : (p : ℕ) (j : Join) → UsedBy p j → 1 ≤ uses_in p j
used_once p j (inl same) = grind (arith, nat_tests)
used_once p j (inr same) = grind (arith, nat_tests)

used_twice : (p : ℕ) (j : Join) → j.left ≡ p → j.right ≡ p → 2 ≤ uses_in p j
used_twice p j left right = grind (arith, nat_tests)

pub used_never : (p : ℕ) (j : Join) → (j.left ≡ p → ⊥) → (j.right ≡ p → ⊥) → uses_in p j ≡ 0
used_never p j left right = grind (arith, nat_tests)

module _ (js : List Join) (k : ℕ) (low : k < length js) where
  abbrev j : Join
  j = get_or js k none

  -- a part of a join is no root
  pub not_root : (p : ℕ) → UsedBy p j → Root js p → ⊥
  not_root p by root = omega (arith, used_once p j by, get_or-le-sum_by (uses_in p) js k none low)

  -- where every part is used once, the two parts of a join differ
  pub parts_differ : SingleUse js → j.left ≡ j.right → ⊥
  parts_differ single same = omega (arith, used_twice j.right j same refl, get_or-le-sum_by (uses_in j.right) js k none low, single j.right)

  -- and no other join has one of them
  pub no_other : SingleUse js → (i : ℕ) → i < length js → (i ≡ k → ⊥) → (p : ℕ) → UsedBy p j → UsedBy p (get_or js i none) → ⊥
  no_other single i low' other p by by' =
      let unused : Join = record { whole = 0; left = suc p; right = suc p } in
      let rest = set js k unused in
      let still : get_or rest i none ≡ get_or js i none = get_or-set_other js k i unused none other in
      let here = get_or-le-sum_by (uses_in p) rest i none (rw length-set low') in
      omega (
        arith,
        used_once p j by,
        used_once p (get_or js i none) by',
        ap (uses_in p) still,
        here,
        sum_by-set (uses_in p) js k unused none low,
        used_never p unused (λ e. omega arith) (λ e. omega arith),
        single p,
      )

-- a part is a root exactly if no join has it on its right-hand side
pub cases_used : (js : List Join) (p : ℕ) (r : Bool) → MatchBool r (AllWithin (λ j. UsedBy p j → ⊥) js 0 (length js)) ((k : ℕ) × (k < length js) × HoldsAt (UsedBy p) js k) → Decides r (Root js p)
cases_used js p true unused =
    (λ _. ⊎_elim (λ root. root) (λ u. let has = u.1.1 in absurd (unused has.0 none (omega arith) has.1 (subst (UsedBy p) (sym (has.2 none)) u.1.3))) (cases_root js p), λ _. refl)
cases_used js p false (k, low, used) = (λ e. absurd (both_ways false refl e), λ root. absurd (not_root js k low p (used none) root))
