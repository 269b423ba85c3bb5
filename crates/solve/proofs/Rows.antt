-- Writing the rows of the report.
use Rattle.std.proofs.Common.{◌≡◌, ℕ, ◌+◌, ◌-◌, ◌<◌, ◌≤◌, List, length, drop, set, sym, ap, ◌∙◌, subst, arith}
use Rattle.std.proofs.lemmas.List.{length-set, get_or-set_same, get_or-set_other, drop-drop, drop-set-lt}
use Rattle.std.proofs.lemmas.Grind.{drop_more_same}
use borrow.Author.Count.{below_more}
use Rattle.sheet.specs.declared.Held.{Held}
use Rattle.solve.specs.declared.Row.{Row}
use Rattle.solve.specs.Report.{blank, row, no_word, place_of, Listed, Reworded}

-- what is kept from a place on is kept from a later place on
pub drop_same_later : {X : Type 0} (xs ys : List X) (m n : ℕ) → m ≤ n → drop m xs ≡ drop m ys → drop n xs ≡ drop n ys
drop_same_later xs ys m n low same =
    let d = n - m in
    let e : m + d ≡ n = omega arith in
    subst (λ (k : ℕ). drop k xs ≡ drop k ys) e (sym (drop-drop d m xs) ∙ ap (drop d) same ∙ drop-drop d m ys)

pub drop_set_more : {X : Type 0} (xs ys : List X) (i : ℕ) (x : X) → drop i xs ≡ drop i ys → drop (i + 1) (set xs i x) ≡ drop (i + 1) ys
drop_set_more xs ys i x same = drop-set-lt (i + 1) xs i x (omega arith) ∙ drop_more_same xs ys i same

-- where the rows behind are as they were, those further behind are
pub reworded_later : {p : ℕ} {before after : List Row} → Reworded p before after → Reworded (p + 1) before after
reworded_later {p} {before} {after} h = record { long = h.long; automata = h.automata; rest = drop_more_same after before p h.rest }

pub listed_more : (hs : List Held) (p : ℕ) (before after : List Row) (r : Row) → p < length after → r ≡ record { automaton = place_of hs p; word = no_word } →
    Listed hs p before after → Listed hs (p + 1) before (set after p r)
listed_more hs p before after r low is listed = record {
  long = length-set after p r ∙ listed.long;
  rows = below_more (λ q. row (set after p r) q ≡ record { automaton = place_of hs q; word = no_word }) p
      (λ q below. get_or-set_other after p q r blank (λ same. omega arith) ∙ listed.rows q below)
      (get_or-set_same after p r blank low ∙ is);
  rest = drop_set_more after before p r listed.rest;
}
