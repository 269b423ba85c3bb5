-- Finished parts, by the places of their final results.
use Rattle.std.specs.Prelude.{◌≡◌, ℕ, true, List, map, is_some}
use Rattle.std.specs.List.{ContainsAt as Has}
use Rattle.automaton.specs.declared.Arc.{Arc}
use Rattle.automaton.specs.declared.State.{State}
use Rattle.build.specs.Tables.{at}
use Rattle.sheet.specs.declared.Held.{Held}
use Rattle.sheet.specs.declared.Join.{Join}
use Rattle.verdict.specs.Course.{Done, find}

-- a part is finished
abbrev pub Among : List Held → ℕ → Type 0
Among hs p = is_some (find (λ h. h.part) hs p) ≡ true

-- not finished, and all its right-hand parts are
pub record Open (js : List Join) (hs : List Held) (p : ℕ) : Type 0 where
  pub unfinished : Among hs p → ⊥
  pub right_hand : (j : Join) → Has js j → j.whole ≡ p → Among hs j.left × Among hs j.right

-- a finished part, read from the tables
abbrev pub done : {L : Type 0} → List State → List (Arc L) → Held → Done L
done states arcs h = record { part = h.part; result = at states arcs h.place }

abbrev pub dones : {L : Type 0} → List State → List (Arc L) → List Held → List (Done L)
dones states arcs hs = map (done states arcs) hs
