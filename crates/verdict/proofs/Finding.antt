-- Laws of what is found for a part.
use Rattle.std.proofs.Common.{◌≡◌, ℕ, zero, suc, Bool, true, false, cond, eqb, ◌⊎◌, List, [], ◌∷◌, ◌++◌, map, is_some, Some, None, Option, sym, refl, ap, ◌∙◌, subst, inl, inr, ⊎_elim, arith}
use Rattle.std.specs.Option.{option_map}
use Rattle.std.specs.List.{ContainsAt as Has}
use Rattle.std.proofs.ByRecursion.{has_append_right}
use Rattle.std.proofs.lemmas.Bool.{both_ways, cases_Bool, cases_eq, cond-true, cond-false, eqb-true, eq-eqb, ne_eqb}
use Rattle.automaton.specs.Automaton.{Automaton}
use Rattle.verdict.specs.Course.{find, Done, Finished, result_or, result_of}

module _ {X : Type 0} where
  pub has_first : (x : X) (xs : List X) → Has (x ∷ xs) x
  has_first x xs = (0, omega arith, λ d. refl)

  pub has_rest : (x : X) (xs : List X) (y : X) → Has xs y → Has (x ∷ xs) y
  has_rest x xs y h = has_append_right (x ∷ []) xs y h

  pub has_none : (y : X) → Has [] y → ⊥
  has_none y h = omega (arith, h.1)

  pub has_cases : (x : X) (xs : List X) (y : X) → Has (x ∷ xs) y → (x ≡ y) ⊎ Has xs y
  has_cases x xs y (zero, low, is) = inl (is x)
  has_cases x xs y (suc k, low, is) = inr (k, omega arith, is)

module _ {X : Type 0} (of : X → ℕ) where
  pub find_push_old : (xs : List X) (y : X) (p : ℕ) → is_some (find of xs p) ≡ true → find of (xs ++ y ∷ []) p ≡ find of xs p
  find_push_old [] y p h = absurd (both_ways _ refl h)
  find_push_old (x ∷ xs) y p h = by (eqb (of x) p) (find_push_old xs y p) h
    where
      by : (b : Bool) → (is_some (find of xs p) ≡ true → find of (xs ++ y ∷ []) p ≡ find of xs p) → is_some (cond b (Some x) (find of xs p)) ≡ true → cond b (Some x) (find of (xs ++ y ∷ []) p) ≡ cond b (Some x) (find of xs p)
      by true rest h = refl
      by false rest h = rest h

  pub find_push_last : (xs : List X) (y : X) (p : ℕ) → is_some (find of xs p) ≡ false → find of (xs ++ y ∷ []) p ≡ cond (eqb (of y) p) (Some y) None
  find_push_last [] y p h = refl
  find_push_last (x ∷ xs) y p h = by (eqb (of x) p) (find_push_last xs y p) h
    where
      by : (b : Bool) → (is_some (find of xs p) ≡ false → find of (xs ++ y ∷ []) p ≡ cond (eqb (of y) p) (Some y) None) → is_some (cond b (Some x) (find of xs p)) ≡ false → cond b (Some x) (find of (xs ++ y ∷ []) p) ≡ cond (eqb (of y) p) (Some y) None
      by true rest h = absurd (both_ways _ h refl)
      by false rest h = rest h

  pub find_push_new : (xs : List X) (y : X) (p : ℕ) → is_some (find of xs p) ≡ false → of y ≡ p → find of (xs ++ y ∷ []) p ≡ Some y
  find_push_new xs y p h is = find_push_last xs y p h ∙ cond-true _ _ _ (eq-eqb (of y) p is)

  pub find_push_other : (xs : List X) (y : X) (p : ℕ) → is_some (find of xs p) ≡ false → (of y ≡ p → ⊥) → find of (xs ++ y ∷ []) p ≡ None
  find_push_other xs y p h other = find_push_last xs y p h ∙ cond-false _ _ _ (ne_eqb (of y) p other)

  -- what is found is there, and is for the part
  pub find_has : (xs : List X) (p : ℕ) (x : X) → find of xs p ≡ Some x → Has xs x × (of x ≡ p)
  find_has [] p x h = absurd (both_ways _ refl (ap is_some h))
  find_has (z ∷ xs) p x h = by (eqb (of z) p) refl (find_has xs p x) h
    where
      by : (b : Bool) → eqb (of z) p ≡ b → (find of xs p ≡ Some x → Has xs x × (of x ≡ p)) → cond b (Some z) (find of xs p) ≡ Some x → Has (z ∷ xs) x × (of x ≡ p)
      by true e rest h = let same : z ≡ x = cc in subst (λ x. Has (z ∷ xs) x × (of x ≡ p)) same (has_first z xs, eqb-true (of z) p e)
      by false e rest h = let r = rest h in (has_rest z xs x r.0, r.1)

  -- for what is there something is found
  pub has_found : (xs : List X) (x : X) → Has xs x → is_some (find of xs (of x)) ≡ true
  has_found [] x h = absurd (has_none x h)
  has_found (z ∷ xs) x h = by (eqb (of z) (of x)) refl (has_found xs x)
    where
      by : (b : Bool) → eqb (of z) (of x) ≡ b → (Has xs x → is_some (find of xs (of x)) ≡ true) → is_some (cond b (Some z) (find of xs (of x))) ≡ true
      by true e rest = refl
      by false e rest = ⊎_elim (λ same. absurd (both_ways _ e (eq-eqb (of z) (of x) (ap of same)))) rest (has_cases z xs x h)

-- what is found among images is the image of what is found
module _ {X Y : Type 0} (of : X → ℕ) (of' : Y → ℕ) (f : X → Y) (same : (x : X) → of' (f x) ≡ of x) where
  pub find_map : (xs : List X) (p : ℕ) → find of' (map f xs) p ≡ option_map f (find of xs p)
  find_map [] p = refl
  find_map (z ∷ xs) p = ap (λ n. cond (eqb n p) (Some (f z)) (find of' (map f xs) p)) (same z) ∙ by (eqb (of z) p) (find_map xs p)
    where
      by : (b : Bool) → find of' (map f xs) p ≡ option_map f (find of xs p) → cond b (Some (f z)) (find of' (map f xs) p) ≡ option_map f (cond b (Some z) (find of xs p))
      by true rest = refl
      by false rest = rest

  pub find_map_some : (xs : List X) (p : ℕ) (x : X) → find of xs p ≡ Some x → find of' (map f xs) p ≡ Some (f x)
  find_map_some xs p x h = find_map xs p ∙ ap (option_map f) h

  pub find_map_none : (xs : List X) (p : ℕ) → find of xs p ≡ None → find of' (map f xs) p ≡ None
  find_map_none xs p h = find_map xs p ∙ ap (option_map f) h

  pub find_map_found : (xs : List X) (p : ℕ) → is_some (find of' (map f xs) p) ≡ is_some (find of xs p)
  find_map_found xs p = ap is_some (find_map xs p) ∙ by (find of xs p)
    where
      by : (o : Option X) → is_some (option_map f o) ≡ is_some o
      by None = refl
      by (Some x) = refl

-- one part more is finished
module _ {L : Type 0} (ds : List (Done L)) (p : ℕ) (m : Automaton L) where
  unfinished_none : (q : ℕ) → (Finished ds q → ⊥) → is_some (find (λ (d : Done L). d.part) ds q) ≡ false
  unfinished_none q not_yet = ⊎_elim (λ yes'. absurd (not_yet yes')) (λ none. none) (cases_Bool (is_some (find (λ (d : Done L). d.part) ds q)))

  pub result_new : (Finished ds p → ⊥) → result_of (ds ++ record { part = p; result = m } ∷ []) p ≡ m
  result_new not_yet = ap result_or (find_push_new (λ d. d.part) ds (record { part = p; result = m }) p (unfinished_none p not_yet) refl)

  pub finished_new : (Finished ds p → ⊥) → Finished (ds ++ record { part = p; result = m } ∷ []) p
  finished_new not_yet = ap is_some (find_push_new (λ d. d.part) ds (record { part = p; result = m }) p (unfinished_none p not_yet) refl)

  pub result_old : (q : ℕ) → Finished ds q → result_of (ds ++ record { part = p; result = m } ∷ []) q ≡ result_of ds q
  result_old q h = ap result_or (find_push_old (λ d. d.part) ds (record { part = p; result = m }) q h)

  pub finished_old : (q : ℕ) → Finished ds q → Finished (ds ++ record { part = p; result = m } ∷ []) q
  finished_old q h = ap is_some (find_push_old (λ d. d.part) ds (record { part = p; result = m }) q h) ∙ h

  pub finished_cases : (q : ℕ) → Finished (ds ++ record { part = p; result = m } ∷ []) q → Finished ds q ⊎ (q ≡ p)
  finished_cases q h = by (is_some (find (λ (d : Done L). d.part) ds q)) refl
    where
      by : (b : Bool) → is_some (find (λ (d : Done L). d.part) ds q) ≡ b → Finished ds q ⊎ (q ≡ p)
      by true e = inl e
      by false e = ⊎_elim (λ same. inr (sym same)) (λ other. absurd (both_ways _ (ap is_some (find_push_other (λ d. d.part) ds (record { part = p; result = m }) q e other)) h)) (cases_eq p q)
