-- What a search for an unsettled join finds.
use Rattle.std.proofs.Common.{◌≡◌, ℕ, ◌<◌, Bool, List, Option, Some, None, MatchOption, length, subst, Bor, arith}
use Rattle.std.specs.List.{ContainsAt as Has, AllWithin, HoldsAt}
use Rattle.std.specs.Option.{option_copied}
use Rattle.sheet.specs.declared.Join.{Join}
use Rattle.sheet.specs.Joins.{Marked, Settled}

-- the whole is marked, and a part is not
abbrev pub Unsettled : List Bool → Join → Type 0
Unsettled marks j = Marked marks j.whole × (Settled marks j → ⊥)

pub copied_found : (marks : List Bool) (joins : List Join) (r : Option (Bor Join)) →
    MatchOption r (AllWithin (Settled marks) joins 0 (length joins)) (λ x. Unsettled marks x.now × (i : ℕ) × (i < length joins) × HoldsAt (λ j. j ≡ x.now) joins i × AllWithin (Settled marks) joins 0 i) →
    MatchOption (option_copied r) ((j : Join) → Has joins j → Settled marks j) (λ j. Has joins j × Marked marks j.whole × (Settled marks j → ⊥))
copied_found marks joins None none = λ j has. subst (Settled marks) (has.2 j) (none has.0 j (omega arith) has.1)
copied_found marks joins (Some x) found = ((found.1, found.2, found.3), found.0.0, found.0.1)
