-- Lists that have each thing of a kind once, and nothing else.
use Rattle.std.proofs.Common.{◌≡◌, ℕ, zero, suc, ◌+◌, ◌*◌, ◌<◌, Bool, true, ◌⊎◌, List, [], ◌∷◌, ◌++◌, map, filter, flat_map, length, get_or, take, drop, sym, refl, ap, ◌∙◌, subst, inl, inr, ⊎_elim, length-append, arith}
use Rattle.std.specs.List.{ContainsAt as Has, AllByRecursion as All, range_with_len}
use Rattle.std.proofs.ByRecursion.{All-append, All-map, All-weaker, All-from_get_or, all-has, all_kept_by, all_has_itself, kept_by_passes, has_append_left, has_append_right, has_append_cases}
use Rattle.std.proofs.lemmas.Bool.{cases_Bool, cond-true, cond-false}
use Rattle.std.proofs.lemmas.List.{length-map, get_or-map}
use Rattle.std.proofs.lemmas.List.FromFn.{get_or-range_with_len, length-range_with_len}
use Rattle.std.proofs.Math.Nat.{suc-mul}
use Rattle.automaton.specs.Nfa.{either}
use Rattle.automaton.specs.Numbers.{Numbers}
use Rattle.automaton.proofs.Concats.{inl_same, inr_same, inl_inr}
use Rattle.automaton.proofs.Counting.{numbers_list}
use Rattle.build.specs.Pairs.{Distinct}
use Rattle.build.proofs.Joining.{filter_part}
use Rattle.build.proofs.Places.{distinct_places}

pub record Lists {X : Type 0} (P : X → Type 0) (xs : List X) : Type 0 where
  pub each : All P xs
  pub every : (x : X) → P x → Has xs x
  pub once : Distinct xs

pub lists_numbers : {X : Type 0} {P : X → Type 0} (xs : List X) (d : X) → Lists P xs → Numbers P (length xs) (λ i. get_or xs i d)
lists_numbers xs d h = numbers_list xs d h.each h.every (distinct_places xs d h.once)

pub lists_like : {X : Type 0} {P Q : X → Type 0} (xs : List X) → Lists P xs → ((x : X) → P x → Q x) → ((x : X) → Q x → P x) → Lists Q xs
lists_like {P} {Q} xs h to from = record { each = All-weaker P Q to xs h.each; every = λ x q. h.every x (from x q); once = h.once }

-- elements of lists
module _ {X : Type 0} where
  has_first : (x : X) (xs : List X) → Has (x ∷ xs) x
  has_first x xs = (0, omega arith, λ d. refl)

  all_both : (P Q : X → Type 0) (xs : List X) → All P xs → All Q xs → All (λ x. P x × Q x) xs
  all_both P Q [] p q = tt
  all_both P Q (x ∷ xs) p q = ((p.0, q.0), all_both P Q xs p.1 q.1)

  has_cases : (y : X) (xs : List X) (x : X) → Has (y ∷ xs) x → (y ≡ x) ⊎ Has xs x
  has_cases y xs x has = go has.0 has.1 has.2
    where
      go : (k : ℕ) → k < length (y ∷ xs) → ((d : X) → get_or (y ∷ xs) k d ≡ x) → (y ≡ x) ⊎ Has xs x
      go zero low is = inl (is y)
      go (suc k) low is = inr (k, omega arith, is)

  has_filter : (p : X → Bool) (xs : List X) (x : X) → Has xs x → p x ≡ true → Has (filter p xs) x
  has_filter p xs x has pass =
      let i = has.0 in
      let before = filter p (take i xs) in
      let after = filter p (drop (i + 1) xs) in
      subst (λ l. Has l x) (sym (filter_part p xs i x has.1 (ap p (has.2 x) ∙ pass))) (has_append_right before (get_or xs i x ∷ after) x (subst (λ y. Has (y ∷ after) x) (sym (has.2 x)) (has_first x after)))

  distinct_append : (xs ys : List X) → All (λ x. Has ys x → ⊥) xs → Distinct xs → Distinct ys → Distinct (xs ++ ys)
  distinct_append [] ys apart h k = k
  distinct_append (x ∷ xs) ys apart h k = (λ has. ⊎_elim h.0 apart.0 (has_append_cases xs ys x has), distinct_append xs ys apart.1 h.1 k)

  distinct_filter : (p : X → Bool) (xs : List X) → Distinct xs → Distinct (filter p xs)
  distinct_filter p [] h = tt
  distinct_filter p (x ∷ xs) h =
      let rest = distinct_filter p xs h.1 in
      ⊎_elim
      (λ pass. subst Distinct (sym (cond-true (p x) (x ∷ filter p xs) (filter p xs) pass)) (λ has. h.0 (all-has (Has xs) (filter p xs) x (all_kept_by p (Has xs) xs (all_has_itself xs)) has), rest))
      (λ fail. subst Distinct (sym (cond-false (p x) (x ∷ filter p xs) (filter p xs) fail)) rest)
      (cases_Bool (p x))

module _ {X Y : Type 0} where
  has_map : (f : X → Y) (xs : List X) (x : X) → Has xs x → Has (map f xs) (f x)
  has_map f xs x has = (has.0, omega (arith, has.1, length-map xs f), λ d. get_or-map f xs has.0 x d has.1 ∙ ap f (has.2 x))

  distinct_map : (f : X → Y) → ((x y : X) → f x ≡ f y → x ≡ y) → (xs : List X) → Distinct xs → Distinct (map f xs)
  distinct_map f one [] h = tt
  distinct_map f one (x ∷ xs) h = (
    λ has. all-has (λ y. y ≡ f x → ⊥) (map f xs) (f x) (All-map (λ y. y ≡ f x → ⊥) f xs (All-weaker (Has xs) (λ z. f z ≡ f x → ⊥) (λ z there same. h.0 (subst (Has xs) (one z x same) there)) xs (all_has_itself xs))) has refl,
    distinct_map f one xs h.1,
  )

  all_flat_map : (P : X → Type 0) (Q : Y → Type 0) (f : X → List Y) → ((x : X) → P x → All Q (f x)) → (xs : List X) → All P xs → All Q (flat_map f xs)
  all_flat_map P Q f each [] h = tt
  all_flat_map P Q f each (x ∷ xs) h = All-append Q (f x) (flat_map f xs) (each x h.0) (all_flat_map P Q f each xs h.1)

-- the numbers from a on
distinct_range : (a n : ℕ) → Distinct (range_with_len a n)
distinct_range a zero = tt
distinct_range a (suc n) = (λ has. omega (arith, has.1, length-range_with_len (a + 1) n, has.2 0, get_or-range_with_len (a + 1) n has.0 0), distinct_range (a + 1) n)

pub lists_range : (n : ℕ) → Lists (λ i. i < n) (range_with_len 0 n)
lists_range n = record {
  each = All-from_get_or (λ i. i < n) (range_with_len 0 n) 0 (λ i low. omega (arith, length-range_with_len 0 n, get_or-range_with_len 0 n i 0));
  every = λ i low. (i, omega (arith, length-range_with_len 0 n), λ d. get_or-range_with_len 0 n i d low ∙ omega arith);
  once = distinct_range 0 n;
}

-- how many pairs there are
pub length_pairs : {X Y : Type 0} (xs : List X) (ys : List Y) → length {A = X × Y} (flat_map (λ x. map (λ y. (x, y)) ys) xs) ≡ length xs * length ys
length_pairs [] ys = omega arith
length_pairs {X} {Y} (x ∷ xs) ys =
    let first : List (X × Y) = map (λ y. (x, y)) ys in
    let pair : Y → X × Y = λ y. (x, y) in
    omega (arith, length-append first (flat_map (λ x. map (λ y. (x, y)) ys) xs), length-map ys pair, length_pairs xs ys, suc-mul (length xs) (length ys))

pub lists_filter : {X : Type 0} {P : X → Type 0} (p : X → Bool) (xs : List X) → Lists P xs → Lists (λ x. P x × (p x ≡ true)) (filter p xs)
lists_filter {P} p xs h = record {
  each = all_both P (λ x. p x ≡ true) (filter p xs) (all_kept_by p P xs h.each) (kept_by_passes p xs);
  every = λ x both. has_filter p xs x (h.every x both.0) both.1;
  once = distinct_filter p xs h.once;
}

-- things of two kinds
module _ {X Y : Type 0} {P : X → Type 0} {Q : Y → Type 0} (xs : List X) (ys : List Y) (one : Lists P xs) (two : Lists Q ys) where
  sum_every : (z : X ⊎ Y) → either P Q z → Has (map inl xs ++ map inr ys) z
  sum_every (inl x) h = has_append_left (map inl xs) (map inr ys) (inl x) (has_map inl xs x (one.every x h))
  sum_every (inr y) h = has_append_right (map inl xs) (map inr ys) (inr y) (has_map inr ys y (two.every y h))

  apart : All (λ z. Has (map inr ys) z → ⊥) (map inl xs)
  apart =
      let other = λ (x : X). All-map (λ (z : X ⊎ Y). z ≡ inl x → ⊥) inr ys (All-weaker Q (λ y. ◌≡◌ {A = X ⊎ Y} (inr y) (inl x) → ⊥) (λ y q same. inl_inr (sym same)) ys two.each) in
      All-map (λ z. Has (map inr ys) z → ⊥) inl xs (All-weaker P (λ x. Has (map inr ys) (inl x) → ⊥) (λ x p has. all-has (λ z. z ≡ inl x → ⊥) (map inr ys) (inl x) (other x) has refl) xs one.each)

  pub lists_sum : Lists (either P Q) (map inl xs ++ map inr ys)
  lists_sum = record {
    each = All-append (either P Q) (map inl xs) (map inr ys) (All-map (either P Q) inl xs one.each) (All-map (either P Q) inr ys two.each);
    every = sum_every;
    once = distinct_append (map inl xs) (map inr ys) apart (distinct_map inl (λ x y. inl_same) xs one.once) (distinct_map inr (λ x y. inr_same) ys two.once);
  }

  -- pairs
  abbrev with_first : (x : X) → List (X × Y)
  with_first x = map (λ y. (x, y)) ys

  pairs_has : (zs : List X) (x : X) (y : Y) → Has zs x → Has ys y → Has (flat_map with_first zs) (x, y)
  pairs_has [] x y has there = absurd (omega (arith, has.1))
  pairs_has (z ∷ zs) x y has there =
      ⊎_elim
      (λ same. has_append_left (with_first z) (flat_map with_first zs) (x, y) (subst (λ w. Has (with_first w) (x, y)) (sym same) (has_map (λ y. (x, y)) ys y there)))
      (λ later. has_append_right (with_first z) (flat_map with_first zs) (x, y) (pairs_has zs x y later there))
      (has_cases z zs x has)

  pairs_once : (zs : List X) → Distinct zs → Distinct (flat_map with_first zs)
  pairs_once [] h = tt
  pairs_once (z ∷ zs) h =
      let first = λ (x : X). All-map (λ (w : X × Y). w.0 ≡ x) (λ y. (x, y)) ys (All-weaker Q (λ y. x ≡ x) (λ y q. refl) ys two.each) in
      let later = all_flat_map (Has zs) (λ w. Has zs w.0) with_first (λ x there. All-weaker (λ w. w.0 ≡ x) (λ w. Has zs w.0) (λ w same. subst (Has zs) (sym same) there) (with_first x) (first x)) zs (all_has_itself zs) in
      distinct_append (with_first z) (flat_map with_first zs)
      (All-weaker (λ w. w.0 ≡ z) (λ w. Has (flat_map with_first zs) w → ⊥) (λ w same has. h.0 (subst (Has zs) same (all-has (λ w. Has zs w.0) (flat_map with_first zs) w later has))) (with_first z) (first z))
      (distinct_map (λ y. (z, y)) (λ x y same. ap (λ w. w.1) same) ys two.once) (pairs_once zs h.1)

  pub lists_pairs : Lists (λ (z : X × Y). P z.0 × Q z.1) (flat_map (λ x. map (λ y. (x, y)) ys) xs)
  lists_pairs = record {
    each = all_flat_map P (λ z. P z.0 × Q z.1) with_first (λ x p. All-map (λ (z : X × Y). P z.0 × Q z.1) (λ y. (x, y)) ys (All-weaker Q (λ y. P x × Q y) (λ y q. (p, q)) ys two.each)) xs one.each;
    every = λ z h. pairs_has xs z.0 z.1 (one.every z.0 h.0) (two.every z.1 h.1);
    once = pairs_once xs one.once;
  }
