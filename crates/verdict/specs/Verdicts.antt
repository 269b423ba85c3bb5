-- The verdict on a problem.
use Rattle.std.specs.Prelude.{◌≡◌, ℕ, zero, suc, ◌+◌, ◌-◌, ◌<◌, ◌≤◌, cond, ◌⊎◌, List, [], length, sum_by, ◌==◌}
use Rattle.alphabet.specs.Labels.{Labels}
use Rattle.build.specs.declared.Rows.{Rows}
use Rattle.sheet.specs.declared.Join.{Join}
use Rattle.verdict.specs.declared.Solved.{Solved}
use Rattle.verdict.specs.declared.Table.TheVariants.{Words}
use Rattle.verdict.specs.declared.Verdict.{Verdict}
use Rattle.verdict.specs.declared.Verdict.TheVariants.{OutOfRoom, Impossible, Unknown, Possible}
use Rattle.verdict.specs.Course.{Done, result_of, Outcome, complete, no_room, no_word, Course}
use Rattle.verdict.specs.Problem.{Problem}

-- how often a part stands on the right-hand side of a join, and of all joins together
abbrev pub uses_in : ℕ → Join → ℕ
uses_in p j = cond (j.left == p) 1 0 + cond (j.right == p) 1 0

abbrev pub uses : List Join → ℕ → ℕ
uses js p = sum_by (uses_in p) js

abbrev pub SingleUse : List Join → Type 0
SingleUse js = (p : ℕ) → uses js p ≤ 1

-- a root stands on no right-hand side
abbrev pub Root : List Join → ℕ → Type 0
Root js p = uses js p ≡ 0

-- what is asked for each root below p, together
abbrev pub roots_below : List Join → (ℕ → ℕ) → ℕ → ℕ
roots_below js f zero = 0
roots_below js f (suc p) = roots_below js f p + cond (uses js p == 0) (f p) 0

-- the bound of a root's word: one less than its final result has states
abbrev pub bound : {L : Type 0} → List (Done L) → ℕ → ℕ
bound ds p = length (result_of ds p).states - 1

abbrev pub bounds_below : {L : Type 0} → Problem L → List (Done L) → ℕ → ℕ
bounds_below s ds p = roots_below s.joins (bound ds) p

-- the words table suffices for all roots
abbrev pub WordsFit : {L : Type 0} → Problem L → List (Done L) → ℕ → Type 0
WordsFit s ds words = bounds_below s ds s.parts ≤ words

-- it suffices for the roots before p, and not for p
pub record WordsPass {L : Type 0} (s : Problem L) (ds : List (Done L)) (words p : ℕ) : Type 0 where
  pub part : p < s.parts
  pub root : Root s.joins p
  pub before : bounds_below s ds p ≤ words
  pub passes : words < bounds_below s ds p + bound ds p

-- the rows of all builds: those in use without those that were held
abbrev pub totals : Rows → Rows → Rows
totals held used = record { states = used.states - held.states; arcs = used.arcs - held.arcs }

abbrev pub solved : {L : Type 0} → Problem L → Verdict → Rows → Solved
solved s v used = record { verdict = v; totals = totals s.held used }

-- the verdict when an outcome is reached, with a words table of so many letters
abbrev pub Judged : {L : Type 0} → Problem L → ℕ → Outcome L → Solved → Type 0
Judged s words (no_room t p ds used) v = v ≡ solved s (OutOfRoom t p) used
Judged s words (no_word p ds used) v = v ≡ solved s (Impossible p) used
Judged s words (complete ds used) v =
    ((SingleUse s.joins → ⊥) × (v ≡ solved s Unknown used))
    ⊎ (SingleUse s.joins × WordsFit s ds words × (v ≡ solved s Possible used))
    ⊎ (SingleUse s.joins × ((p : ℕ) × WordsPass s ds words p × (v ≡ solved s (OutOfRoom Words p) used)))

-- the rules give the verdict
pub record Given {L : Type 0} (a : Labels L) (room : Rows) (words : ℕ) (s : Problem L) (v : Solved) : Type 0 where
  pub outcome : Outcome L
  pub course : Course a room s [] s.held outcome
  pub judged : Judged s words outcome v
