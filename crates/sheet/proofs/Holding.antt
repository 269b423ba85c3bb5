-- Held patterns, one more of them, and whether the tables have their rows.
use Rattle.std.proofs.Common.{◌≡◌, ℕ, ◌+◌, ◌<◌, ◌≤◌, Bool, true, false, Decides, List, [], ◌∷◌, ◌++◌, length, get_or, refl, ◌∙◌, subst, ⊎_elim, arith}
use Rattle.std.specs.Bool.{MatchBool}
use Rattle.std.specs.List.{ContainsAt as Has, AllWithin, HoldsAt}
use Rattle.std.proofs.ByRecursion.{has_get_or, has_push_cases}
use Rattle.std.proofs.lemmas.Bool.{false≢true}
use Rattle.std.proofs.lemmas.List.{ext_get_or}
use Rattle.automaton.specs.declared.Arc.{Arc}
use Rattle.automaton.specs.declared.State.{State}
use Rattle.build.specs.declared.Rows.{Rows}
use Rattle.build.specs.Tables.{part, InUse, Stands}
use Rattle.build.proofs.Parts.{length_part}
use Rattle.sheet.specs.declared.Held.{Held}
use Rattle.sheet.specs.Patterns.{Among, ForParts, Whole, nowhere}

-- what holds of all that are held and of one more
every_and : {X : Type 0} (P : X → Type 0) (xs : List X) (x : X) → ((y : X) → Has xs y → P y) → P x → (y : X) → Has (xs ++ x ∷ []) y → P y
every_and P xs x all px y has = ⊎_elim (all y) (λ same. subst P same px) (has_push_cases xs x y has)

pub for_parts_and : (n : ℕ) (hs : List Held) (h : Held) → ForParts n hs → h.part < n → ForParts n (hs ++ h ∷ [])
for_parts_and n = every_and (λ h. h.part < n)

-- a pattern behind the held rows, which then are more
pub among_and : (held : Rows) (hs : List Held) (part s a : ℕ) → Among held hs → Among (record { states = held.states + s; arcs = held.arcs + a }) (hs ++ record { part = part; place = record { first = held; count = record { states = s; arcs = a } } } ∷ [])
among_and held hs part s a among =
    every_and (λ h. (h.place.first.states + h.place.count.states ≤ held.states + s) × (h.place.first.arcs + h.place.count.arcs ≤ held.arcs + a)) hs (record { part = part; place = record { first = held; count = record { states = s; arcs = a } } }) (λ h has. let old = among h has in (omega (arith, old.0), omega (arith, old.1))) (omega arith, omega arith)

module _ {L : Type 0} (states : List State) (arcs : List (Arc L)) (held : Rows) (hs : List Held) where
  abbrev pub StandsHeld : Held → Type 0
  StandsHeld h = Stands states arcs held h.place

  abbrev pub LostHeld : Held → Type 0
  LostHeld h = InUse states arcs held × StandsHeld h → ⊥

  -- whether every pattern stands, where the tables have the held rows
  pub whole_decides : (b : Bool) → held.states ≤ 65536 → held.arcs ≤ 1048576 → held.states ≤ length states → held.arcs ≤ length arcs → Among held hs →
      MatchBool b (AllWithin StandsHeld hs 0 (length hs)) ((k : ℕ) × (k < length hs) × HoldsAt LostHeld hs k) → Decides b (Whole hs held states arcs)
  whole_decides true few few' there there' among all =
      (λ _. record { states_there = there; arcs_there = there'; inside = λ h has. (subst StandsHeld (has.2 h) (all has.0 h (omega arith) has.1)).inside }, λ _. refl)
  whole_decides false few few' there there' among lost =
      let has = has_get_or hs lost.0 nowhere lost.1 in
      let lies = among (get_or hs lost.0 nowhere) has in (
        λ e. absurd (false≢true e),
        λ w. absurd (lost.2 nowhere (record { states_fit = omega arith; arcs_fit = omega arith }, record { lies = record { states = lies.0; arcs = lies.1 }; inside = w.inside _ has })),
      )

-- rows that are those of a list, each by its number
pub rows_are : {X : Type 0} (rows ys : List X) (at n : ℕ) (d : X) → n ≡ length ys → at + n ≤ length rows → ((k : ℕ) → k < n → get_or (part rows at n) k d ≡ get_or ys k d) → part rows at n ≡ ys
rows_are rows ys at n d long fits told = let mine = length_part rows at n fits in ext_get_or d (part rows at n) ys (mine ∙ long) (λ k low. told k (omega (arith, mine)))
