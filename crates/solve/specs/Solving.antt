-- What solving a sheet answers and leaves.
use Rattle.std.specs.Prelude.{◌≡◌, ℕ, ◌<◌, ◌≤◌, ◌↔◌, List, [], ◌∷◌, length, drop, Ok, Err, Result}
use Rattle.std.specs.List.{ContainsAt as Has, AllByRecursion}
use Rattle.alphabet.specs.Labels.{Labels}
use Rattle.automaton.specs.declared.Arc.{Arc}
use Rattle.automaton.specs.declared.State.{State}
use Rattle.automaton.specs.Automaton.{Word, Accepts}
use Rattle.build.specs.declared.Rows.{Rows}
use Rattle.build.specs.Concats.{InTurn}
use Rattle.build.specs.Tables.{Stands}
use Rattle.sheet.specs.declared.Join.{Join}
use Rattle.sheet.specs.declared.Refusal.{Refusal}
use Rattle.sheet.specs.Calls.{View, number}
use Rattle.sheet.specs.Checks.{Check, check, AllHold, FirstFails}
use Rattle.sheet.specs.Patterns.{Whole}
use Rattle.verdict.specs.declared.Solved.{Solved}
use Rattle.verdict.specs.declared.Verdict.{Verdict}
use Rattle.verdict.specs.declared.Verdict.TheVariants.{OutOfRoom, Impossible, Unknown, Possible}
use Rattle.verdict.specs.Course.{Done, result_of, complete, Course}
use Rattle.verdict.specs.Problem.{Problem, Pattern, Satisfies, problem}
use Rattle.verdict.specs.Verdicts.{Given}
use Rattle.solve.specs.declared.Row.{Row}
use Rattle.solve.specs.Builds.{room}
use Rattle.solve.specs.Report.{row, no_word, word_at, automaton_of, RootsLaid, AllPieces}

-- the checks: the held rows are whole, and the report has a row for each part
abbrev pub solve_checks : {L : Type 0} → View → List State → List (Arc L) → ℕ → List Check
solve_checks v states arcs report = check 5 (Whole v.patterns v.held states arcs) ∷ check 8 (v.parts ≤ report) ∷ []

-- the verdict that the rules give, or the number of the first check that fails
abbrev pub SolveAnswer : {L : Type 0} → Labels L → View → List State → List (Arc L) → ℕ → ℕ → Result Solved Refusal → Type 0
SolveAnswer a v states arcs report words (Ok x) = AllHold (solve_checks v states arcs report) × Given a (room states arcs) words (problem v states arcs) x
SolveAnswer a v states arcs report words (Err e) = FirstFails (solve_checks v states arcs report) (number e)

-- what is said of a verdict
abbrev pub Told : Result Solved Refusal → (Verdict → Type 0) → Type 0
Told (Ok x) P = P x.verdict
Told (Err e) P = Unit {0}

-- no other verdict is given by the rules
abbrev pub OnlyAnswer : {L : Type 0} → Labels L → View → List State → List (Arc L) → ℕ → Result Solved Refusal → Type 0
OnlyAnswer a v states arcs words (Ok x) = (y : Solved) → Given a (room states arcs) words (problem v states arcs) y → y ≡ x
OnlyAnswer a v states arcs words (Err e) = Unit {0}

-- what is said where the report is written, and where words are
abbrev pub Reported : Verdict → Type 0 → Type 0
Reported Unknown P = P
Reported Possible P = P
Reported (OutOfRoom t p) P = Unit {0}
Reported (Impossible p) P = Unit {0}

abbrev pub WhenPossible : Verdict → Type 0 → Type 0
WhenPossible Possible P = P
WhenPossible Unknown P = Unit {0}
WhenPossible (OutOfRoom t p) P = Unit {0}
WhenPossible (Impossible p) P = Unit {0}

abbrev pub WhenUnknown : Verdict → Type 0 → Type 0
WhenUnknown Unknown P = P
WhenUnknown Possible P = Unit {0}
WhenUnknown (OutOfRoom t p) P = Unit {0}
WhenUnknown (Impossible p) P = Unit {0}

abbrev pub WhenImpossible : Verdict → Type 0 → Type 0
WhenImpossible (Impossible p) P = P
WhenImpossible Unknown P = Unit {0}
WhenImpossible Possible P = Unit {0}
WhenImpossible (OutOfRoom t p) P = Unit {0}

-- the rows of the report past the parts are as they were
pub record RestKept (parts : ℕ) (before after : List Row) : Type 0 where
  pub long : length after ≡ length before
  pub rest : drop parts after ≡ drop parts before

-- what a verdict leaves of the report and the words
abbrev pub Leaves : ℕ → List Row → List Row → List ℕ → List ℕ → Verdict → Type 0
Leaves parts report report' words words' Unknown = RestKept parts report report' × (words' ≡ words)
Leaves parts report report' words words' Possible = RestKept parts report report' × (length words' ≡ length words)
Leaves parts report report' words words' (OutOfRoom t p) = (report' ≡ report) × (words' ≡ words)
Leaves parts report report' words words' (Impossible p) = (report' ≡ report) × (words' ≡ words)

-- a refusal leaves everything as it was
abbrev pub LeavesAll : {L : Type 0} → ℕ → List State → List State → List (Arc L) → List (Arc L) → List Row → List Row → List ℕ → List ℕ → Result Solved Refusal → Type 0
LeavesAll parts states states' arcs arcs' report report' words words' (Ok x) = Leaves parts report report' words words' x.verdict
LeavesAll parts states states' arcs arcs' report report' words words' (Err e) = (states' ≡ states) × (arcs' ≡ arcs) × (report' ≡ report) × (words' ≡ words)

-- the row of each part names its final result, by a course of the rules
pub record Reports {L : Type 0} (a : Labels L) (v : View) (states : List State) (arcs : List (Arc L)) (states' : List State) (arcs' : List (Arc L)) (report : List Row) : Type 0 where
  pub finished : List (Done L)
  pub used : Rows
  pub course : Course a (room states arcs) (problem v states arcs) [] v.held (complete finished used)
  pub results : (p : ℕ) → p < v.parts → automaton_of states' arcs' report p ≡ result_of finished p
  pub there : (p : ℕ) → p < v.parts → Stands states' arcs' used (row report p).automaton

-- a word of letters that all patterns of the part accept and that, for each of its joins, splits into a word that
-- the automaton of the left part's row accepts and one that the right part's accepts
pub record RowAllows {L : Type 0} (a : Labels L) (s : Problem L) (states : List State) (arcs : List (Arc L)) (report : List Row) (p : ℕ) (w : Word) : Type 0 where
  pub letters : AllByRecursion (λ c. c < a.letters) w
  pub patterns : (h : Pattern L) → Has s.patterns h → h.part ≡ p → Accepts a.admits h.automaton w
  pub joins : (j : Join) → Has s.joins j → j.whole ≡ p → InTurn a.admits (automaton_of states arcs report j.left) (automaton_of states arcs report j.right) w

abbrev pub ReportsExactly : {L : Type 0} → Labels L → Problem L → List State → List (Arc L) → List Row → Type 0
ReportsExactly a s states arcs report = (p : ℕ) → p < s.parts → (w : Word) → Accepts a.admits (automaton_of states arcs report p) w ↔ RowAllows a s states arcs report p w

-- the words that a report places
abbrev pub placed : List Row → List ℕ → ℕ → Word
placed report words p = word_at words (row report p).word

-- root words one behind another, pieces of them for the other parts
pub record Lays {L : Type 0} (s : Problem L) (report : List Row) (before after : List ℕ) : Type 0 where
  pub roots : RootsLaid s.joins s.parts report before after
  pub pieces : AllPieces s.joins report

abbrev pub NoWords : ℕ → List Row → Type 0
NoWords parts report = (p : ℕ) → p < parts → (row report p).word ≡ no_word

-- where no part is used twice and there is room: possible exactly if some words satisfy the sheet
abbrev pub Satisfiable : {L : Type 0} → Labels L → Problem L → Type 0
Satisfiable a s = (words : ℕ → Word) × Satisfies a s words

abbrev pub Decided : {L : Type 0} → Labels L → Problem L → Verdict → Type 0
Decided a s Possible = Satisfiable a s
Decided a s (Impossible p) = Satisfiable a s → ⊥
Decided a s Unknown = ⊥
Decided a s (OutOfRoom t p) = Unit {0}
