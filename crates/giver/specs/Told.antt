-- What a pattern giver tells of its automaton, and when an automaton is refused.
use Rattle.std.specs.Prelude.{◌≡◌, ℕ, ◌≤◌, ◌⊎◌, length, Ok, Err, Result, slice_index_or}
use Rattle.automaton.specs.declared.Marks.{Marks}
use Rattle.automaton.specs.Automaton.{Automaton, Inside, unmarked}
use Rattle.giver.specs.declared.Refusal.{Refusal}
use Rattle.giver.specs.declared.Refusal.TheVariants.{TooLarge, ArcOutside}

-- past the last state no mark is told
abbrev pub marks_at : {L : Type 0} → Automaton L → ℕ → Marks
marks_at m q = slice_index_or m.states q unmarked

-- at most 256 states and 4,096 arcs
abbrev pub Small : {L : Type 0} → Automaton L → Type 0
Small m = (length m.states ≤ 256) × (length m.arcs ≤ 4096)

-- the number of each refusal
abbrev pub number : Refusal → ℕ
number TooLarge = 3
number ArcOutside = 4

-- the cause of a refusal, by its number: size is looked at first
abbrev pub Cause : {L : Type 0} → Automaton L → ℕ → Type 0
Cause m n = ((n ≡ 3) × (Small m → ⊥)) ⊎ ((n ≡ 4) × Small m × (Inside m → ⊥))

-- an automaton that is not refused
abbrev pub Sound : {L : Type 0} → Automaton L → Type 0
Sound m = Small m × Inside m

-- what a check of an automaton answers, and what an answer x says where it is not refused
abbrev pub Checked : {L X : Type 0} → Automaton L → (X → Type 0) → Result X Refusal → Type 0
Checked m P (Ok x) = Sound m × P x
Checked m P (Err e) = Cause m (number e)
