-- Counts of things of a kind: there is one count, and more than so many are more.
use Rattle.std.proofs.Common.{◌≡◌, ℕ, zero, suc, ◌<◌, ◌≤◌, ◌⊎◌, List, length, get_or, sym, refl, ap, ◌∙◌, inl, inr, ⊎_elim, arith}
use Rattle.std.specs.List.{ContainsAt as Has, AllByRecursion as All}
use Rattle.std.proofs.ByRecursion.{All-get_or}
use Rattle.std.proofs.lemmas.Bool.{cases_lt, cases_eq}
use Rattle.automaton.specs.Numbers.{Numbers, MoreThan}

-- v in the place of t
swapped : (v t x : ℕ) → (y : ℕ) × (((x ≡ t) × (y ≡ v)) ⊎ ((x ≡ t → ⊥) × (y ≡ x)))
swapped v t x = ⊎_elim (λ same. (v, inl (same, refl))) (λ other. (x, inr (other, refl))) (cases_eq x t)

pub pigeonhole : (n m : ℕ) (h : ℕ → ℕ) → ((i : ℕ) → i < n → h i < m) → ((i j : ℕ) → i < n → j < n → h i ≡ h j → i ≡ j) → n ≤ m
pigeonhole zero m h low once = omega arith
pigeonhole (suc n) zero h low once = absurd (omega (arith, low n (omega arith)))
pigeonhole (suc n) (suc m) h low once =
    let last = low n (omega arith) in
    let g : ℕ → ℕ = λ i. (swapped (h n) m (h i)).0 in
    let other : (i : ℕ) → i < n → h i ≡ h n → ⊥ = λ i lt e. omega (arith, once i n (omega arith) (omega arith) e) in
    let rest = pigeonhole n m g (λ i lt. let s = (swapped (h n) m (h i)).1 in omega (arith, low i (omega arith), other i lt))
    (λ i j lt lt' e. once i j (omega arith) (omega arith) (let s = (swapped (h n) m (h i)).1 in let s' = (swapped (h n) m (h j)).1 in omega (arith, other i lt, other j lt'))) in
    omega arith

-- a function that finds for each number below n what there is for it
pub chosen : {m : ℕ} {R : ℕ → ℕ → Type 0} (n : ℕ) → ((i : ℕ) → i < n → (j : ℕ) × (j < m) × R i j) → (h : ℕ → ℕ) × ((i : ℕ) → i < n → (h i < m) × R i (h i))
chosen {m} {R} n all = (λ i. at i (cases_lt i n), λ i low. fits i low (cases_lt i n))
  where
    at : (i : ℕ) → (i < n) ⊎ (n ≤ i) → ℕ
    at i (inl low) = (all i low).0
    at i (inr past) = 0

    fits : (i : ℕ) → i < n → (s : (i < n) ⊎ (n ≤ i)) → (at i s < m) × R i (at i s)
    fits i low (inl low') = ((all i low').1, (all i low').2)
    fits i low (inr past) = absurd (omega arith)

module _ {X : Type 0} {P : X → Type 0} {n : ℕ} {f : ℕ → X} (all : Numbers P n f) where
  -- no more things of the kind, each once, than there are
  pub at_most : (m : ℕ) (g : ℕ → X) → ((i : ℕ) → i < m → P (g i)) → ((i j : ℕ) → i < m → j < m → g i ≡ g j → i ≡ j) → m ≤ n
  at_most m g each once =
      let h = chosen {m = n} {R = λ i j. f j ≡ g i} m (λ i low. all.every (g i) (each i low)) in
      pigeonhole m n h.0 (λ i low. (h.1 i low).0) (λ i j low low' e. once i j low low' (sym (h.1 i low).1 ∙ ap f e ∙ (h.1 j low').1))

  pub more_than : {k : ℕ} {g : ℕ → X} → MoreThan P k g → k < n
  more_than {k} {g} more = at_most (suc k) g (λ i low. more.each i (omega arith)) (λ i j low low'. more.once i j (omega arith) (omega arith))

pub numbers_unique : {X : Type 0} {P : X → Type 0} {n m : ℕ} {f g : ℕ → X} → Numbers P n f → Numbers P m g → n ≡ m
numbers_unique all all' = omega (arith, at_most all _ _ all'.each all'.once, at_most all' _ _ all.each all.once)

-- a list of all things of the kind, each once
pub numbers_list : {X : Type 0} {P : X → Type 0} (xs : List X) (d : X) → All P xs → ((x : X) → P x → Has xs x) → ((i j : ℕ) → i < length xs → j < length xs → get_or xs i d ≡ get_or xs j d → i ≡ j) → Numbers P (length xs) (λ i. get_or xs i d)
numbers_list {P} xs d all every once = record {
  each = λ i low. All-get_or P xs i d low all;
  every = λ x h. let has = every x h in (has.0, has.1, has.2 d);
  once = once;
}
