-- What a course and a verdict mean for the words of the parts.
use Rattle.std.specs.Prelude.{◌≡◌, ℕ, ◌<◌, ◌↔◌, List, []}
use Rattle.std.specs.List.{ContainsAt as Has, AllByRecursion}
use Rattle.alphabet.specs.Labels.{Labels}
use Rattle.automaton.specs.Automaton.{Word, Accepts}
use Rattle.build.specs.declared.Rows.{Rows}
use Rattle.build.specs.Concats.{InTurn}
use Rattle.sheet.specs.declared.Join.{Join}
use Rattle.verdict.specs.Course.{Done, Finished, result_of, Outcome, finished_in, Course}
use Rattle.verdict.specs.Problem.{Problem, Pattern, Satisfies}

-- a word of letters that all patterns of the part accept and that, for each of its joins, splits into a word
-- that the left part's result accepts and one that the right part's accepts
pub record Allowed {L : Type 0} (a : Labels L) (s : Problem L) (ds : List (Done L)) (p : ℕ) (w : Word) : Type 0 where
  pub letters : AllByRecursion (λ c. c < a.letters) w
  pub patterns : (h : Pattern L) → Has s.patterns h → h.part ≡ p → Accepts a.admits h.automaton w
  pub joins : (j : Join) → Has s.joins j → j.whole ≡ p → InTurn a.admits (result_of ds j.left) (result_of ds j.right) w

-- the result of every finished part accepts exactly those words
abbrev pub Exact : {L : Type 0} → Labels L → Problem L → List (Done L) → Type 0
Exact a s ds = (p : ℕ) → Finished ds p → (w : Word) → Accepts a.admits (result_of ds p) w ↔ Allowed a s ds p w

-- whatever the course, the parts that it finished have exact results
abbrev pub CoursesExact : {L : Type 0} → Labels L → Rows → Problem L → Type 0
CoursesExact {L} a room s = (o : Outcome L) → Course a room s [] s.held o → Exact a s (finished_in o)

-- no words satisfy the problem
abbrev pub Unsatisfiable : {L : Type 0} → Labels L → Problem L → Type 0
Unsatisfiable a s = (words : ℕ → Word) → Satisfies a s words → ⊥
