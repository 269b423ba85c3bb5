-- What is found among the finished parts.
use Rattle.std.proofs.Common.{◌≡◌, ℕ, true, cond, eqb, List, is_some, [], ◌∷◌, Some, None, Option, Bor, refl, ap}
use Rattle.std.specs.List.{find}
use Rattle.std.specs.Option.{option_copied, option_map}
use Rattle.std.specs.List.{ContainsAt as Has}
use Rattle.std.proofs.lemmas.Bool.{false≢true}
use Rattle.build.specs.declared.Place.{Place}
use Rattle.sheet.specs.declared.Held.{Held}
use Rattle.verdict.specs.Course.{find as find_part}
use Rattle.verdict.proofs.Finding.{find_has}
use Rattle.solve.specs.Parts.{Among}
use Rattle.solve.specs.Report.{place_or, place_of}

pub find_is : {X : Type 0} (of : X → ℕ) (xs : List X) (p : ℕ) → find_part of xs p ≡ find (λ x. eqb (of x) p) xs
find_is of [] p = refl
find_is of (x ∷ xs) p = ap (cond (eqb (of x) p) (Some x)) (find_is of xs p)

pub copied_is : {X : Type 0} (o : Option (Bor X)) → option_copied o ≡ option_map (λ x. x.now) o
copied_is None = refl
copied_is (Some x) = refl

-- what holds at the places of all finished parts holds at the place of each
pub found_place : (hs : List Held) (p : ℕ) (P : Place → Type 0) → ((h : Held) → Has hs h → P h.place) → Among hs p → P (place_of hs p)
found_place hs p P all among = by (find_part (λ h. h.part) hs p) refl among
  where
    by : (o : Option Held) → find_part (λ h. h.part) hs p ≡ o → is_some o ≡ true → P (place_or o)
    by None e some = absurd (false≢true some)
    by (Some h) e some = all h (find_has (λ h. h.part) hs p h e).0
