-- Joins without a circle: where no part is due all are finished, and every part is a root or below one.
use Rattle.std.proofs.Common.{◌≡◌, ℕ, zero, suc, ◌<◌, ◌≤◌, eqb, ◌⊎◌, List, [], ◌∷◌, is_some, sym, refl, ap, ◌∙◌, subst, inl, inr, ⊎_elim, arith}
use Rattle.std.specs.List.{ContainsAt as Has}
use Rattle.std.proofs.lemmas.List.Sums.{sum_by-cons}
use Rattle.std.proofs.lemmas.Bool.{both_ways, cases_Bool, cases_eq, cases_lt, cond-false, ne_eqb}
use Rattle.automaton.proofs.Counting.{pigeonhole}
use Rattle.sheet.specs.declared.Join.{Join}
use Rattle.sheet.specs.Joins.{Uses, Below, one, Acyclic, Known, AtOrBelow}
use Rattle.sheet.proofs.Circles.{below_then}
use Rattle.verdict.specs.Course.{Done, find, Finished, Due}
use Rattle.verdict.specs.Problem.{Problem}
use Rattle.verdict.specs.Verdicts.{uses_in, Root}
use Rattle.verdict.proofs.Finding.{has_none, has_first, has_rest, has_cases}

-- Steps between numbers below n end, where they go along a transitive relation in which no number stands to itself:
-- from every number one that stops is reached.
module _ (n : ℕ) (R : ℕ → ℕ → Type 0) (then' : (x y z : ℕ) → R x y → R y z → R x z) (never : (x : ℕ) → R x x → ⊥) (P Stops : ℕ → Type 0) (low : (x : ℕ) → P x → x < n) (step : (x : ℕ) → P x → Stops x ⊎ ((y : ℕ) × R x y × P y)) where
  -- a number that stops is reached from x
  abbrev Reaches : ℕ → Type 0
  Reaches x = (y : ℕ) × P y × Stops y × ((x ≡ y) ⊎ R x y)

  -- k steps from x
  pub record Chain (k x : ℕ) : Type 0 where
    pub at : ℕ → ℕ
    pub first : at 0 ≡ x
    pub each : (i : ℕ) → i ≤ k → P (at i)
    pub on : (i j : ℕ) → i < j → j ≤ k → R (at i) (at j)

  abbrev before : ℕ → (ℕ → ℕ) → ℕ → ℕ
  before x at zero = x
  before x at (suc i) = at i

  longer : (k x y : ℕ) → P x → R x y → Chain k y → Chain (suc k) x
  longer k x y p r c = record { at = before x c.at; first = refl; each = each; on = on }
    where
      each : (i : ℕ) → i ≤ suc k → P (before x c.at i)
      each zero le = p
      each (suc i) le = c.each i (omega arith)

      from_first : (j : ℕ) → j ≤ k → R x (c.at j)
      from_first zero le = subst (R x) (sym c.first) r
      from_first (suc j) le = then' x (c.at 0) (c.at (suc j)) (subst (R x) (sym c.first) r) (c.on 0 (suc j) (omega arith) le)

      on : (i j : ℕ) → i < j → j ≤ suc k → R (before x c.at i) (before x c.at j)
      on i zero lt le = absurd (omega arith)
      on zero (suc j) lt le = from_first j (omega arith)
      on (suc i) (suc j) lt le = c.on i j (omega arith) (omega arith)

  climb : (k x : ℕ) → P x → Reaches x ⊎ Chain k x
  climb zero x p = inr (record { at = λ _. x; first = refl; each = λ _ _. p; on = λ i j lt le. absurd (omega arith) })
  climb (suc k) x p = by (step x p) (climb k)
    where
      by : Stops x ⊎ ((y : ℕ) × R x y × P y) → ((y : ℕ) → P y → Reaches y ⊎ Chain k y) → Reaches x ⊎ Chain (suc k) x
      by (inl stops) rest = inl (x, p, stops, inl refl)
      by (inr (y, r, q)) rest = ⊎_elim
          (λ h. inl (h.0, h.1, h.2, inr (⊎_elim (λ same. subst (R x) same r) (λ more. then' x y h.0 r more) h.3)))
          (λ c. inr (longer k x y p r c))
          (rest y q)

  pub reaches : (x : ℕ) → P x → (y : ℕ) × P y × Stops y × ((x ≡ y) ⊎ R x y)
  reaches x p = ⊎_elim (λ h. h) (λ c. absurd (too_long c)) (climb n x p)
    where
      too_long : Chain n x → ⊥
      too_long c = omega (arith, pigeonhole (suc n) n c.at (λ i lt. low (c.at i) (c.each i (omega arith))) once)
        where
          once : (i j : ℕ) → i < suc n → j < suc n → c.at i ≡ c.at j → i ≡ j
          once i j lt lt' e = ⊎_elim
              (λ less. absurd (never (c.at j) (subst (λ y. R y (c.at j)) e (c.on i j less (omega arith)))))
              (λ le. ⊎_elim (λ same. same) (λ other. absurd (never (c.at i) (subst (λ y. R y (c.at i)) (sym e) (c.on j i (omega (arith, le, other)) (omega arith))))) (cases_eq i j))
              (cases_lt i j)

uses_rest : (j : Join) (js : List Join) (x y : ℕ) → Uses js x y → Uses (j ∷ js) x y
uses_rest j js x y u = (u.0, has_rest j js u.0 u.1, u.2, u.3)

module _ {L : Type 0} (ds : List (Done L)) where
  pub cases_finished : (p : ℕ) → Finished ds p ⊎ (Finished ds p → ⊥)
  cases_finished p = ⊎_elim inl (λ no. inr (both_ways _ no)) (cases_Bool (is_some (find (λ d. d.part) ds p)))

  -- some right-hand part of p is not finished, or all are
  pub cases_right_hand : (js : List Join) (p : ℕ) → ((y : ℕ) × Uses js p y × (Finished ds y → ⊥)) ⊎ ((j : Join) → Has js j → j.whole ≡ p → Finished ds j.left × Finished ds j.right)
  cases_right_hand [] p = inr (λ j has. absurd (has_none j has))
  cases_right_hand (j ∷ js) p = by (cases_right_hand js p) (cases_eq j.whole p) (cases_finished j.left) (cases_finished j.right)
    where
      by : ((y : ℕ) × Uses js p y × (Finished ds y → ⊥)) ⊎ ((i : Join) → Has js i → i.whole ≡ p → Finished ds i.left × Finished ds i.right) → (j.whole ≡ p) ⊎ (j.whole ≡ p → ⊥) →
          Finished ds j.left ⊎ (Finished ds j.left → ⊥) → Finished ds j.right ⊎ (Finished ds j.right → ⊥) →
          ((y : ℕ) × Uses (j ∷ js) p y × (Finished ds y → ⊥)) ⊎ ((i : Join) → Has (j ∷ js) i → i.whole ≡ p → Finished ds i.left × Finished ds i.right)
      by (inl h) w l r = inl (h.0, uses_rest j js p h.0 h.1, h.2)
      by (inr all) (inr other) l r = inr (λ i has is. ⊎_elim (λ same. absurd (other (ap (λ k. k.whole) same ∙ is))) (λ old. all i old is) (has_cases j js i has))
      by (inr all) (inl is) (inr left) r = inl (j.left, (j, has_first j js, is, inl refl), left)
      by (inr all) (inl is) (inl left) (inr right) = inl (j.right, (j, has_first j js, is, inr refl), right)
      by (inr all) (inl is) (inl left) (inl right) = inr (λ i has is. ⊎_elim (λ same. subst (λ k. Finished ds k.left × Finished ds k.right) same (left, right)) (λ old. all i old is) (has_cases j js i has))

-- where no part is due, all are finished
pub none_due : {L : Type 0} (s : Problem L) → Acyclic s.joins → Known s.parts s.joins → (ds : List (Done L)) → ((p : ℕ) → Due s ds p → ⊥) → (p : ℕ) → p < s.parts → Finished ds p
none_due s acyclic known ds none p low =
    ⊎_elim (λ done. done) (λ not_yet. absurd (reaches s.parts (Below s.joins) (λ x y z. below_then s.joins) acyclic (λ x. (x < s.parts) × (Finished ds x → ⊥)) (λ x. ⊥) (λ x h. h.0) step p (low, not_yet)).2) (cases_finished ds p)
  where
    right_low : (x y : ℕ) → Uses s.joins x y → y < s.parts
    right_low x y u =
        let k = known u.0 u.1 in
        ⊎_elim (λ is. subst (λ y. y < s.parts) is k.1) (λ is. subst (λ y. y < s.parts) is k.2) u.3

    step : (x : ℕ) → (x < s.parts) × (Finished ds x → ⊥) → ⊥ ⊎ ((y : ℕ) × Below s.joins x y × ((y < s.parts) × (Finished ds y → ⊥)))
    step x h = ⊎_elim
        (λ u. inr (u.0, one u.1, (right_low x u.0 u.1, u.2)))
        (λ all. absurd (none x (record { part = h.0; unfinished = h.1; right_hand = all })))
        (cases_right_hand ds s.joins x)

-- a part stands on no right-hand side, or a join uses it
pub cases_root : (js : List Join) (p : ℕ) → Root js p ⊎ ((x : ℕ) × Uses js x p)
cases_root [] p = inl refl
cases_root (j ∷ js) p = by (cases_root js p) (cases_eq j.left p) (cases_eq j.right p)
  where
    by : Root js p ⊎ ((x : ℕ) × Uses js x p) → (j.left ≡ p) ⊎ (j.left ≡ p → ⊥) → (j.right ≡ p) ⊎ (j.right ≡ p → ⊥) → Root (j ∷ js) p ⊎ ((x : ℕ) × Uses (j ∷ js) x p)
    by (inr u) l r = inr (u.0, uses_rest j js u.0 p u.1)
    by (inl root) (inl l) r = inr (j.whole, (j, has_first j js, refl, inl l))
    by (inl root) (inr l) (inl r) = inr (j.whole, (j, has_first j js, refl, inr r))
    by (inl root) (inr l) (inr r) = inl (omega (arith, sum_by-cons (uses_in p) j js, root, cond-false {A = ℕ} (eqb j.left p) 1 0 (ne_eqb j.left p l), cond-false {A = ℕ} (eqb j.right p) 1 0 (ne_eqb j.right p r)))

-- every part is a root, or below one
pub rooted : (js : List Join) (n : ℕ) → Acyclic js → Known n js → (p : ℕ) → p < n → (r : ℕ) × (r < n) × Root js r × AtOrBelow js r p
rooted js n acyclic known p low =
    let top = reaches n (λ x y. Below js y x) (λ x y z b c. below_then js c b) acyclic (λ x. x < n) (Root js) (λ x h. h) step p low in
    (top.0, top.1, top.2, ⊎_elim (λ same. inl (sym same)) inr top.3)
  where
    step : (x : ℕ) → x < n → Root js x ⊎ ((y : ℕ) × Below js y x × (y < n))
    step x h = ⊎_elim inl (λ u. inr (u.0, one u.1, subst (λ y. y < n) u.1.2 (known u.1.0 u.1.1).0)) (cases_root js x)
