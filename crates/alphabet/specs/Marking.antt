-- What marks mean: the laws of the modem alphabet.
use Rattle.std.specs.Prelude.{◌≡◌, ℕ, zero, suc, ◌+◌, ◌<◌, ◌≤◌, Bool, true, false, cond, ◌&&◌, List, length, Some, None, Option, MatchOption, nat_lt, slice_index_or, refl}
use Rattle.std.proofs.Common.{sym, ap, ◌∙◌, ⊎_elim, zero-add, arith, lit≤}
use Rattle.std.proofs.lemmas.List.FromFn.{get_or-map-range_with_len, fill_by_all}
use Rattle.std.proofs.lemmas.Bool.{and_parts, and_left, ltb-true, lt-ltb, le-ltb, both_ways, cases_lt, cases_Bool, cases_eq}
use Rattle.alphabet.specs.Labels.{Set, Empty, Least, Lawful, Ranged, from_to}
use Rattle.alphabet.specs.Modem.{marking, marked, search_from, modem, marks_from_to}
use Rattle.alphabet.specs.declared.modem.ModemLabel.{ModemLabel}

pub marked_below : (l : ModemLabel) (c : ℕ) → marked l c ≡ true → c < 128
marked_below l c h = ltb-true c 128 (and_parts (nat_lt c 128) (slice_index_or l.marks c false) h).0

-- the label of a set means its letters below 128
pub marked_marking : (s : Set) (c : ℕ) → marked (marking s) c ≡ (nat_lt c 128 && s c)
marked_marking s c =
    ⊎_elim (λ h. ap (λ b. nat_lt c 128 && b) (get_or-map-range_with_len s 0 128 c c false h (zero-add c)))
    (λ h. let no = le-ltb c 128 h in and_left _ _ no ∙ sym (and_left _ _ no)) (cases_lt c 128)

-- of a set that lies below 128, just its letters
pub marked_marking_below : (s : Set) → ((c : ℕ) → s c ≡ true → c < 128) → (c : ℕ) → marked (marking s) c ≡ s c
marked_marking_below s below c = marked_marking s c ∙ go (s c) refl
  where
    go : (b : Bool) → s c ≡ b → (nat_lt c 128 && s c) ≡ s c
    go true e = ap (λ t. t && s c) (lt-ltb c 128 (below c e))
    go false e = ap (λ t. nat_lt c 128 && t) e ∙ ⊎_elim (λ h. ap (λ t. t && false) h) (λ h. ap (λ t. t && false) h) (cases_Bool (nat_lt c 128)) ∙ sym e

-- m is the smallest letter of the set from c on
Found : Set → ℕ → ℕ → Type 0
Found s c m = (s m ≡ true) × ((k : ℕ) → c ≤ k → s k ≡ true → m ≤ k)

finds : (s : Set) (c n : ℕ) → MatchOption (search_from s c n) ((k : ℕ) → c ≤ k → k < c + n → s k ≡ false) (Found s c)
unfolding Found search_from
finds s c zero = λ k low high. absurd (omega arith)
finds s c (suc n) = go (search_from s (suc c) n) (finds s (suc c) n) (s c) refl
  where
    go : (o : Option ℕ) → MatchOption o ((k : ℕ) → suc c ≤ k → k < suc c + n → s k ≡ false) (Found s (suc c)) → (b : Bool) → s c ≡ b →
        MatchOption (cond b (Some c) o) ((k : ℕ) → c ≤ k → k < c + suc n → s k ≡ false) (Found s c)
    go o h true e = (e, λ k low yes'. low)
    go None h false e = λ k low high. ⊎_elim (λ same. ap s (sym same) ∙ e) (λ other. h k (omega arith) (omega arith)) (cases_eq c k)
    go (Some m) h false e = (h.0, λ k low yes'. ⊎_elim (λ same. absurd (both_ways (s k) (ap s (sym same) ∙ e) yes')) (λ other. h.1 k (omega arith) yes') (cases_eq c k))

pub first_marked : (l : ModemLabel) → MatchOption (search_from (marked l) 0 128) (Empty (marked l)) (Least (marked l))
unfolding Found
first_marked l = go (search_from (marked l) 0 128) (finds (marked l) 0 128)
  where
    go : (o : Option ℕ) → MatchOption o ((k : ℕ) → 0 ≤ k → k < 0 + 128 → marked l k ≡ false) (Found (marked l) 0) → MatchOption o (Empty (marked l)) (Least (marked l))
    go None h = λ c. ⊎_elim (λ low. h c (omega arith) low) (λ high. and_left _ _ (le-ltb c 128 high)) (cases_lt c 128)
    go (Some m) h = record { inside = h.0; smallest = λ c yes'. h.1 c (omega arith) yes' }

from_to_below : (n lo hi c : ℕ) → from_to n lo hi c ≡ true → c < n
from_to_below n lo hi c h = ltb-true c n (and_parts (nat_lt c n) _ h).0

pub lawful : Lawful modem
lawful = record {
  some_letter = lit≤ tt;
  at_most = lit≤ tt;
  within = marked_below;
  full_all = λ c h. marked_marking (λ _. true) c ∙ ap (λ b. b && true) (lt-ltb c 128 h);
  meet_both = λ l k. marked_marking_below (λ c. marked l c && marked k c) (λ c h. marked_below l c (and_parts (marked l c) (marked k c) h).0);
  first_least = first_marked;
}

pub ranged : Ranged modem marks_from_to
ranged = record { range_means = λ lo hi. marked_marking_below (from_to 128 lo hi) (from_to_below 128 lo hi) }

-- a loop over the letters that marks those of a set makes the label of the set
pub marking_all : (s : Set) (marks : List Bool) → length marks ≡ 128 → ((c : ℕ) → c < 128 → slice_index_or marks c false ≡ s c) → record { marks = marks } ≡ marking s
marking_all s marks long at = ap (λ (m : List Bool). record { marks = m }) (fill_by_all s marks 128 false long at)
