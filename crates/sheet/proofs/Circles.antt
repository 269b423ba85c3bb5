-- When one join more closes a circle.
use Rattle.std.proofs.Common.{◌≡◌, ℕ, ◌<◌, ◌≤◌, Bool, true, false, cond, not, ◌⊎◌, List, [], ◌∷◌, ◌++◌, length, get_or, set, replicate, count_by, sym, refl, ap, ◌∙◌, subst, inl, inr, ⊎_elim, arith}
use Rattle.std.specs.List.{ContainsAt as Has}
use Rattle.std.proofs.lemmas.List.{length-set, get_or-set_same, get_or-set_other}
use Rattle.std.proofs.lemmas.List.Sums.{sum_by-set}
use Rattle.std.proofs.lemmas.Bool.{cases_eq, cases_Bool, both_ways}
use Rattle.std.proofs.ByRecursion.{has_append_left, has_push, has_push_cases}
use Rattle.giver.proofs.Running.{none_marked}
use Rattle.sheet.specs.declared.Join.{Join}
use Rattle.sheet.specs.Joins.{Uses, Below, one, more, Acyclic, Known, AtOrBelow, Closes, Marked, Settled}

module _ (js : List Join) where
  pub below_then : {x y z : ℕ} → Below js x y → Below js y z → Below js x z
  below_then (one u) k = more u k
  below_then (more u b) k = more u (below_then b k)

  pub at_or_then : (x y z : ℕ) → AtOrBelow js x y → AtOrBelow js y z → AtOrBelow js x z
  at_or_then x y z (inl e) k = subst (λ a. AtOrBelow js a z) (sym e) k
  at_or_then x y z (inr b) (inl e) = inr (subst (Below js x) e b)
  at_or_then x y z (inr b) (inr c) = inr (below_then b c)

  pub at_or_more : (x y z : ℕ) → AtOrBelow js x y → Uses js y z → AtOrBelow js x z
  at_or_more x y z h u = at_or_then x y z h (inr (one u))

module _ (js : List Join) (j : Join) where
  abbrev js' : List Join
  js' = js ++ j ∷ []

  uses_cases : (x y : ℕ) → Uses js' x y → Uses js x y ⊎ ((j.whole ≡ x) × ((j.left ≡ y) ⊎ (j.right ≡ y)))
  uses_cases x y u =
      ⊎_elim (λ old. inl (u.0, old, u.2, u.3)) (λ same. inr (subst (λ i. (i.whole ≡ x) × ((i.left ≡ y) ⊎ (i.right ≡ y))) (sym same) (u.2, u.3))) (has_push_cases js j u.0 u.1)

  uses_old : (x y : ℕ) → Uses js x y → Uses js' x y
  uses_old x y u = (u.0, has_append_left js (j ∷ []) u.0 u.1, u.2, u.3)

  below_old : {x y : ℕ} → Below js x y → Below js' x y
  below_old (one u) = one (uses_old _ _ u)
  below_old (more u b) = more (uses_old _ _ u) (below_old b)

  -- a way down is a way of the old joins, or goes through the new one
  split : {x y : ℕ} → Below js' x y → Below js x y ⊎ (AtOrBelow js x j.whole × Closes js j.left j.right y)
  split {x} {y} (one u) =
      ⊎_elim (λ old. inl (one old)) (λ new. inr (inl (sym new.0), ⊎_elim (λ l. inl (inl l)) (λ r. inr (inl r)) new.1)) (uses_cases x y u)
  split {x} {y = z} (more {y = y} u b) = go (split b) (uses_cases x y u)
    where
      go : Below js y z ⊎ (AtOrBelow js y j.whole × Closes js j.left j.right z) → Uses js x y ⊎ ((j.whole ≡ x) × ((j.left ≡ y) ⊎ (j.right ≡ y))) → Below js x z ⊎ (AtOrBelow js x j.whole × Closes js j.left j.right z)
      go (inl r) (inl old) = inl (more old r)
      go (inr r) (inl old) = inr (at_or_then js x y j.whole (inr (one old)) r.0, r.1)
      go (inl r) (inr new) = inr (inl (sym new.0), ⊎_elim (λ l. inl (subst (λ a. AtOrBelow js a z) (sym l) (inr r))) (λ q. inr (subst (λ a. AtOrBelow js a z) (sym q) (inr r))) new.1)
      go (inr r) (inr new) = inr (inl (sym new.0), r.1)

  pub no_circle : Acyclic js → (Closes js j.left j.right j.whole → ⊥) → Acyclic js'
  no_circle ok not p b =
      ⊎_elim (ok p) (λ r. not (⊎_elim (λ l. inl (at_or_then js j.left p j.whole l r.0)) (λ q. inr (at_or_then js j.right p j.whole q r.0)) r.1)) (split b)

  pub known_and : (n : ℕ) → Known n js → j.whole < n → j.left < n → j.right < n → Known n js'
  known_and n known whole left right i has =
      ⊎_elim (known i) (λ same. subst (λ i. (i.whole < n) × (i.left < n) × (i.right < n)) same (whole, left, right)) (has_push_cases js j i has)

  new_left : Uses js' j.whole j.left
  new_left = (j, has_push js j, refl, inl refl)

  new_right : Uses js' j.whole j.right
  new_right = (j, has_push js j, refl, inr refl)

  down : (y : ℕ) → Uses js' j.whole y → AtOrBelow js y j.whole → Below js' j.whole j.whole
  down y u (inl e) = one (subst (Uses js' j.whole) e u)
  down y u (inr b) = more u (below_old b)

  pub circle : Closes js j.left j.right j.whole → Acyclic js' → ⊥
  circle h ok = ok j.whole (⊎_elim (down j.left new_left) (down j.right new_right) h)

-- marks that are settled hold whatever is at or below a marked part
pub settled_all : (js : List Join) (marks : List Bool) → ((j : Join) → Has js j → Settled marks j) → {x y : ℕ} → Below js x y → Marked marks x → Marked marks y
settled_all js marks ok (one u) m = ⊎_elim (λ l. subst (Marked marks) l both.0) (λ r. subst (Marked marks) r both.1) u.3
  where
    both : Marked marks u.0.left × Marked marks u.0.right
    both = ok u.0 u.1 (subst (Marked marks) (sym u.2) m)
settled_all js marks ok (more {y = y} u b) m = settled_all js marks ok b next
  where
    both : Marked marks u.0.left × Marked marks u.0.right
    both = ok u.0 u.1 (subst (Marked marks) (sym u.2) m)

    next : Marked marks y
    next = ⊎_elim (λ l. subst (Marked marks) l both.0) (λ r. subst (Marked marks) r both.1) u.3

-- an open place
abbrev open_place : Bool → ℕ
open_place b = cond (not b) 1 0

-- a mark more is one open place fewer
pub mark_fewer : (marks : List Bool) (i : ℕ) → i < length marks → get_or marks i false ≡ false → count_by not (set marks i true) < count_by not marks
mark_fewer marks i low e = omega (arith, sum_by-set open_place marks i true false low, ap open_place e)

pub mark_less : (marks : List Bool) (i : ℕ) → i < length marks → count_by not (set marks i true) ≤ count_by not marks
mark_less marks i low =
    ⊎_elim (λ e. omega (arith, sum_by-set open_place marks i true false low, ap open_place e)) (λ e. let h = mark_fewer marks i low e in omega arith) (cases_Bool (get_or marks i false))

pub mark_keeps : (marks : List Bool) (i p : ℕ) → i < length marks → Marked marks p → Marked (set marks i true) p
mark_keeps marks i p low m = ⊎_elim (λ same. ap (λ q. get_or (set marks i true) q false) same ∙ get_or-set_same marks i true false low) (λ other. get_or-set_other marks i p true false other ∙ m) (cases_eq p i)

pub mark_cases : (marks : List Bool) (i p : ℕ) → Marked (set marks i true) p → Marked marks p ⊎ (i ≡ p)
mark_cases marks i p m = ⊎_elim (λ same. inr (sym same)) (λ other. inl (sym (get_or-set_other marks i p true false other) ∙ m)) (cases_eq p i)

-- an unsettled join has an open place
pub settle_fewer : (marks : List Bool) (j : Join) → j.left < length marks → j.right < length marks → Marked marks j.whole → (Settled marks j → ⊥) → count_by not (set (set marks j.left true) j.right true) < count_by not marks
settle_fewer marks j low low' whole not_yet =
    let m₁ = set marks j.left true in
    let low'' : j.right < length m₁ = rw length-set low' in
    ⊎_elim
    (λ left.
    ⊎_elim
    (λ right. absurd (not_yet (λ _. (left, right))))
    (λ right.
    let other : j.right ≡ j.left → ⊥ = λ same. both_ways (get_or marks j.right false) right (ap (λ q. get_or marks q false) same ∙ left) in
    let still = get_or-set_other marks j.left j.right true false other ∙ right in
    omega (arith, mark_fewer m₁ j.right low'' still, mark_less marks j.left low))
    (cases_Bool (get_or marks j.right false)))
    (λ left. omega (arith, mark_less m₁ j.right low'', mark_fewer marks j.left low left)) (cases_Bool (get_or marks j.left false))

pub closes_more : (js : List Join) (l r x y : ℕ) → Closes js l r x → Uses js x y → Closes js l r y
closes_more js l r x y (inl h) u = inl (at_or_more js l x y h u)
closes_more js l r x y (inr h) u = inr (at_or_more js r x y h u)

abbrev pub with_parts : Join → List Bool → List Bool
with_parts j marks = set (set marks j.left true) j.right true

-- a search from the two parts of j downwards has marked them, and only parts at or below them
pub record FoundBelow (js : List Join) (j : Join) (marks : List Bool) : Type 0 where
  pub long : length marks ≡ 64
  pub left : Marked marks j.left
  pub right : Marked marks j.right
  pub only : (p : ℕ) → Marked marks p → Closes js j.left j.right p

module _ (js : List Join) (j : Join) where
  pub found_first : j.left < 64 → j.right < 64 → FoundBelow js j (with_parts j (replicate 64 false))
  found_first low low' =
      let m₀ = replicate 64 false in
      let m₁ = set m₀ j.left true in record {
        long = length-set m₁ j.right true ∙ length-set m₀ j.left true;
        left = mark_keeps m₁ j.right j.left (rw length-set low') (get_or-set_same m₀ j.left true false low);
        right = get_or-set_same m₁ j.right true false (rw length-set low');
        only = λ p m. ⊎_elim (λ was. ⊎_elim (λ none'. absurd (both_ways _ (none_marked 64 p) none')) (λ l. inl (inl l)) (mark_cases m₀ j.left p was)) (λ r. inr (inl r)) (mark_cases m₁ j.right p m);
      }

  pub found_more : (marks : List Bool) (i : Join) → Known 64 js → FoundBelow js j marks → Has js i → Marked marks i.whole → FoundBelow js j (with_parts i marks)
  found_more marks i known found has whole =
      let m₁ = set marks i.left true in
      let parts = known i has in
      let low : i.left < length marks = omega (arith, parts.1, found.long) in
      let low' : i.right < length m₁ = omega (arith, parts.2, found.long, length-set marks i.left true) in
      let from = found.only i.whole whole in record {
        long = length-set m₁ i.right true ∙ length-set marks i.left true ∙ found.long;
        left = mark_keeps m₁ i.right j.left low' (mark_keeps marks i.left j.left low found.left);
        right = mark_keeps m₁ i.right j.right low' (mark_keeps marks i.left j.right low found.right);
        only = λ p m.
            ⊎_elim
            (λ was. ⊎_elim (found.only p) (λ l. closes_more js j.left j.right i.whole p from (i, has, refl, inl l)) (mark_cases marks i.left p was))
            (λ r. closes_more js j.left j.right i.whole p from (i, has, refl, inr r)) (mark_cases m₁ i.right p m);
      }

  pub found_all : (marks : List Bool) → FoundBelow js j marks → ((i : Join) → Has js i → Settled marks i) → (x : ℕ) → Closes js j.left j.right x → Marked marks x
  found_all marks found settled x =
      ⊎_elim
      (⊎_elim (λ e. subst (Marked marks) e found.left) (λ b. settled_all js marks settled b found.left))
      (⊎_elim (λ e. subst (Marked marks) e found.right) (λ b. settled_all js marks settled b found.right))
