-- Rows of a part of a table.
use Rattle.std.proofs.Common.{◌≡◌, ℕ, ◌+◌, ◌<◌, ◌≤◌, List, [], ◌∷◌, ◌++◌, length, get_or, take, drop, set, ap, ◌∙◌, arith}
use Rattle.std.proofs.lemmas.List.{length-take, length-drop, get_or-take, get_or-drop, get_or_default, drop-set-add, take_more_set}
use Rattle.build.specs.Tables.{part}

module _ {X : Type 0} (xs : List X) (first n : ℕ) (fits : first + n ≤ length xs) where
  pub length_part : length (part xs first n) ≡ n
  length_part = simp (length-take, length-drop) (omega arith)

  pub get_d_part : (k : ℕ) (d e : X) → k < n → get_or (part xs first n) k d ≡ get_or xs (first + k) e
  get_d_part k d e low = get_or-take n (drop first xs) k d low ∙ get_or-drop first xs k d ∙ get_or_default xs (first + k) d e (omega arith)

-- one row more
pub part_more : {X : Type 0} (xs : List X) (first n : ℕ) (x : X) → first + n < length xs → part (set xs (first + n) x) first (n + 1) ≡ part xs first n ++ x ∷ []
part_more xs first n x low = ap (take (n + 1)) (drop-set-add first xs n x) ∙ take_more_set (drop first xs) n x (rw length-drop (omega arith))
