-- Tests over finite lists and over the numbers below a count, and what they show.
use Rattle.std.proofs.Common.{◌≡◌, ℕ, zero, suc, ◌<◌, Bool, true, false, cond, not, ◌&&◌, ◌||◌, eqb, ◌⊎◌, List, [], ◌∷◌, ◌++◌, length, get_or, Decides, sym, refl, ap, inl, inr, arith}
use Rattle.std.specs.List.{ContainsAt as Has, AllByRecursion as All}
use Rattle.std.proofs.lemmas.Bool.{and_parts, eqb-true, eq-eqb, false≢true, not-true}
use Rattle.std.proofs.lemmas.Bool.Decides.{Decides-and, Decides-like, Decides-by_or, Decides-below_and, Decides-below_or, not_from_Decides}
use Rattle.std.proofs.ByRecursion.{Decides-by_and}
use Rattle.automaton.proofs.Concats.{inl_same, inr_same, inl_inr}
use Rattle.build.specs.Pairs.{Pair, Distinct}

-- a test that is true, as a fact
itself : (b : Bool) → Decides b (b ≡ true)
itself b = (λ h. h, λ h. h)

abbrev pub implies : Bool → Bool → Bool
implies true y = y
implies false y = true

pub implied : (x y : Bool) → implies x y ≡ true → x ≡ true → y ≡ true
implied true y h e = h
implied false y h e = absurd (false≢true e)

pub implies_from : (x y : Bool) → (x ≡ true → y ≡ true) → implies x y ≡ true
implies_from true y h = h refl
implies_from false y h = refl

abbrev pub every : {X : Type 0} → (X → Bool) → List X → Bool
every p [] = true
every p (x ∷ xs) = p x && every p xs

pub every_all : {X : Type 0} (p : X → Bool) (xs : List X) → every p xs ≡ true → All (λ x. p x ≡ true) xs
every_all p xs = (Decides-by_and p (λ x. p x ≡ true) (every p) (λ x. itself (p x)) refl (λ x xs. refl) xs).0

pub all_every : {X : Type 0} (p : X → Bool) (xs : List X) → All (λ x. p x ≡ true) xs → every p xs ≡ true
all_every p xs = (Decides-by_and p (λ x. p x ≡ true) (every p) (λ x. itself (p x)) refl (λ x xs. refl) xs).1

abbrev pub below : (ℕ → Bool) → ℕ → Bool
below p zero = true
below p (suc n) = p n && below p n

pub below_all : (p : ℕ → Bool) (n : ℕ) → below p n ≡ true → (k : ℕ) → k < n → p k ≡ true
below_all p n = (Decides-below_and p (λ k. p k ≡ true) (below p) (λ k. itself (p k)) refl (λ k. refl) n).0

abbrev pub some_below : (ℕ → Bool) → ℕ → Bool
some_below p zero = false
some_below p (suc n) = p n || some_below p n

pub decides_some : (p : ℕ → Bool) (n : ℕ) → Decides (some_below p n) ((k : ℕ) × (k < n) × (p k ≡ true))
decides_some p n = Decides-below_or p (λ k. p k ≡ true) (some_below p) (λ k. itself (p k)) refl (λ k. refl) n

-- what f gives for the numbers below n, in order
abbrev pub collect : {X : Type 0} → (ℕ → List X) → ℕ → List X
collect f zero = []
collect f (suc n) = collect f n ++ f n

abbrev pub same_pair : Pair → Pair → Bool
same_pair x y = eqb x.0 y.0 && eqb x.1 y.1

pub decides_eqb : (x y : ℕ) → Decides (eqb x y) (x ≡ y)
decides_eqb x y = (eqb-true x y, eq-eqb x y)

pub decides_pair : (x y : Pair) → Decides (same_pair x y) (x ≡ y)
decides_pair x y = Decides-like (same_pair x y) (λ h i. (h.0 i, h.1 i)) (λ h. (ap (λ z. z.0) h, ap (λ z. z.1) h)) (Decides-and _ _ (decides_eqb x.0 y.0) (decides_eqb x.1 y.1))

abbrev pub same_sum : {X Y : Type 0} → (X → X → Bool) → (Y → Y → Bool) → X ⊎ Y → X ⊎ Y → Bool
same_sum e f (inl x) (inl y) = e x y
same_sum e f (inl x) (inr y) = false
same_sum e f (inr x) (inl y) = false
same_sum e f (inr x) (inr y) = f x y

pub decides_sum : {X Y : Type 0} (e : X → X → Bool) (f : Y → Y → Bool) → ((x y : X) → Decides (e x y) (x ≡ y)) → ((x y : Y) → Decides (f x y) (x ≡ y)) → (x y : X ⊎ Y) → Decides (same_sum e f x y) (x ≡ y)
decides_sum e f d g (inl x) (inl y) = Decides-like (e x y) (ap inl) inl_same (d x y)
decides_sum e f d g (inl x) (inr y) = (λ h. absurd (false≢true h), λ h. absurd (inl_inr h))
decides_sum e f d g (inr x) (inl y) = (λ h. absurd (false≢true h), λ h. absurd (inl_inr (sym h)))
decides_sum e f d g (inr x) (inr y) = Decides-like (f x y) (ap inr) inr_same (g x y)

module _ {X : Type 0} (same : X → X → Bool) where
  abbrev pub mem : List X → X → Bool
  mem [] x = false
  mem (y ∷ ys) x = same y x || mem ys x

  -- the first place of an element
  abbrev pub place : List X → X → ℕ
  place [] x = 0
  place (y ∷ ys) x = cond (same y x) 0 (suc (place ys x))

  abbrev pub distinct : List X → Bool
  distinct [] = true
  distinct (x ∷ xs) = not (mem xs x) && distinct xs

  -- those that are not there yet, once
  abbrev pub fresh : List X → List X → List X
  fresh seen [] = []
  fresh seen (x ∷ xs) = cond (mem seen x) (fresh seen xs) (x ∷ fresh (x ∷ seen) xs)

  module _ (decides : (x y : X) → Decides (same x y) (x ≡ y)) where
    pub decides_mem : (xs : List X) (x : X) → Decides (mem xs x) (Has xs x)
    decides_mem xs x = Decides-by_or (λ y. same y x) (λ y. y ≡ x) (λ l. mem l x) (λ y. decides y x) refl (λ y ys. refl) xs

    pub place_at : (xs : List X) (x d : X) → mem xs x ≡ true → (place xs x < length xs) × (get_or xs (place xs x) d ≡ x)
    place_at [] x d h = absurd (false≢true h)
    place_at (y ∷ ys) x d h = by (same y x) (decides y x) (place_at ys x d) h
      where
        by : (b : Bool) → Decides b (y ≡ x) → (mem ys x ≡ true → (place ys x < length ys) × (get_or ys (place ys x) d ≡ x)) → (b || mem ys x) ≡ true → (cond b 0 (suc (place ys x)) < length (y ∷ ys)) × (get_or (y ∷ ys) (cond b 0 (suc (place ys x))) d ≡ x)
        by true is more h = (omega arith, is.0 refl)
        by false is more h = let rest = more h in (omega (arith, rest.0), rest.1)

    pub distinct_all : (xs : List X) → distinct xs ≡ true → Distinct xs
    distinct_all [] h = tt
    distinct_all (x ∷ xs) h =
        let parts = and_parts (not (mem xs x)) (distinct xs) h in
        (not_from_Decides (mem xs x) (decides_mem xs x) (not-true (mem xs x) parts.0), distinct_all xs parts.1)
