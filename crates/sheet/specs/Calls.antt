-- What a sheet holds, and what each call answers and leaves.
use Rattle.std.specs.Prelude.{◌≡◌, ℕ, ◌+◌, ◌<◌, List, [], ◌∷◌, ◌++◌, map, length, drop, Ok, Err, Result}
use Rattle.automaton.specs.declared.Arc.{Arc}
use Rattle.automaton.specs.declared.State.{State}
use Rattle.automaton.specs.Automaton.{Automaton, Inside, plain}
use Rattle.build.specs.declared.Rows.{Rows}
use Rattle.build.specs.Tables.{part, Kept}
use Rattle.giver.specs.Told.{Small}
use Rattle.sheet.specs.declared.Counts.{Counts}
use Rattle.sheet.specs.declared.Held.{Held}
use Rattle.sheet.specs.declared.Join.{Join}
use Rattle.sheet.specs.declared.Refusal.{Refusal}
use Rattle.sheet.specs.declared.Refusal.TheVariants.{UnknownPart, Full, TooLarge, ArcOutside, RowsLost, NoRoom, Circle, ShortReport}
use Rattle.sheet.specs.declared.Sheet.{Sheet}
use Rattle.sheet.specs.Checks.{Check, check, AllHold, FirstFails}
use Rattle.sheet.specs.Joins.{Acyclic}
use Rattle.sheet.specs.Patterns.{Whole, RoomFor}

-- the parts are the numbers below a count; patterns and joins are in the order in which they were accepted
pub record View : Type 0 where
  pub parts : ℕ
  pub patterns : List Held
  pub joins : List Join
  pub held : Rows

abbrev pub view : Sheet → View
view s = record {
  parts = s.parts;
  patterns = s.patterns.items;
  joins = s.joins.items;
  held = s.held;
}

-- how much a sheet holds
abbrev pub counts_of : View → Counts
counts_of s = record { parts = s.parts; patterns = length s.patterns; joins = length s.joins; held = s.held }

-- the number of each refusal
abbrev pub number : Refusal → ℕ
number UnknownPart = 1
number Full = 2
number TooLarge = 3
number ArcOutside = 4
number RowsLost = 5
number NoRoom = 6
number Circle = 7
number ShortReport = 8

abbrev pub rows : ℕ → ℕ → Rows
rows s a = record { states = s; arcs = a }

abbrev pub empty : View
empty = record { parts = 0; patterns = []; joins = []; held = rows 0 0 }

-- the next part
abbrev pub part_checks : View → List Check
part_checks s = check 2 (s.parts < 64) ∷ []

abbrev pub with_part : View → View
with_part s = record { parts = s.parts + 1; patterns = s.patterns; joins = s.joins; held = s.held }

abbrev pub PartAnswer : View → View → Result ℕ Refusal → Type 0
PartAnswer s t (Ok n) = AllHold (part_checks s) × (n ≡ s.parts) × (t ≡ with_part s)
PartAnswer s t (Err e) = FirstFails (part_checks s) (number e) × (t ≡ s)

-- a join
abbrev pub Names : View → Join → Type 0
Names s j = (j.whole < s.parts) × (j.left < s.parts) × (j.right < s.parts)

abbrev pub join_checks : View → Join → List Check
join_checks s j = check 1 (Names s j) ∷ check 2 (length s.joins < 64) ∷ check 7 (Acyclic (s.joins ++ j ∷ [])) ∷ []

abbrev pub with_join : View → Join → View
with_join s j = record { parts = s.parts; patterns = s.patterns; joins = s.joins ++ j ∷ []; held = s.held }

abbrev pub JoinAnswer : View → Join → View → Result (Unit {0}) Refusal → Type 0
JoinAnswer s j t (Ok u) = AllHold (join_checks s j) × (t ≡ with_join s j)
JoinAnswer s j t (Err e) = FirstFails (join_checks s j) (number e) × (t ≡ s)

-- a pattern: the automaton m for a part
abbrev pub pattern_checks : {L : Type 0} → View → List State → List (Arc L) → ℕ → Automaton L → List Check
pattern_checks s states arcs p m =
    check 1 (p < s.parts) ∷ check 2 (length s.patterns < 128) ∷ check 3 (Small m) ∷ check 4 (Inside m) ∷ check 5 (Whole s.patterns s.held states arcs) ∷ check 6 (RoomFor m s.held states arcs) ∷ []

abbrev pub with_pattern : {L : Type 0} → View → ℕ → Automaton L → View
with_pattern s p m = record {
  parts = s.parts;
  patterns = s.patterns ++ record { part = p; place = record { first = s.held; count = rows (length m.states) (length m.arcs) } } ∷ [];
  joins = s.joins;
  held = rows (s.held.states + length m.states) (s.held.arcs + length m.arcs);
}

-- the held rows stay, the rows of m come behind them, and the rows behind those are as they were
pub record Copied {L : Type 0} (held : Rows) (m : Automaton L) (states states' : List State) (arcs arcs' : List (Arc L)) : Type 0 where
  pub states_kept : Kept held.states states states'
  pub arcs_kept : Kept held.arcs arcs arcs'
  pub states_are : part states' held.states (length m.states) ≡ map plain m.states
  pub arcs_are : part arcs' held.arcs (length m.arcs) ≡ m.arcs
  pub states_behind : drop (held.states + length m.states) states' ≡ drop (held.states + length m.states) states
  pub arcs_behind : drop (held.arcs + length m.arcs) arcs' ≡ drop (held.arcs + length m.arcs) arcs

abbrev pub PatternAnswer : {L : Type 0} → View → List State → List (Arc L) → ℕ → Automaton L → View → List State → List (Arc L) → Result (Unit {0}) Refusal → Type 0
PatternAnswer s states arcs p m t states' arcs' (Ok u) = AllHold (pattern_checks s states arcs p m) × (t ≡ with_pattern s p m) × Copied s.held m states states' arcs arcs'
PatternAnswer s states arcs p m t states' arcs' (Err e) = FirstFails (pattern_checks s states arcs p m) (number e) × (t ≡ s) × (states' ≡ states) × (arcs' ≡ arcs)
