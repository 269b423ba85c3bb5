-- A set has one smallest letter, or none where it is empty.
use Rattle.std.proofs.Common.{◌≡◌, ℕ, Some, None, Option, refl, ap, arith, MatchOption}
use Rattle.std.proofs.lemmas.Bool.{both_ways}
use Rattle.alphabet.specs.Labels.{Set, Empty, Least}

-- two tests for the smallest letter answer the same
pub first_once : (s : Set) (o o' : Option ℕ) → MatchOption o (Empty s) (Least s) → MatchOption o' (Empty s) (Least s) → o ≡ o'
first_once s None None h k = refl
first_once s None (Some n) h k = absurd (both_ways _ (h n) k.inside)
first_once s (Some m) None h k = absurd (both_ways _ (k m) h.inside)
first_once s (Some m) (Some n) h k = ap Some (omega (arith, h.smallest n k.inside, k.smallest m h.inside))
