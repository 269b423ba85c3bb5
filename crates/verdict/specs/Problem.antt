-- What is asked of the words of a sheet's parts. A sheet with its tables is a problem.
use Rattle.std.specs.Prelude.{◌≡◌, ℕ, ◌<◌, List, ◌++◌, map}
use Rattle.std.specs.List.{ContainsAt as Has, AllByRecursion}
use Rattle.alphabet.specs.Labels.{Labels}
use Rattle.automaton.specs.declared.Arc.{Arc}
use Rattle.automaton.specs.declared.State.{State}
use Rattle.automaton.specs.Automaton.{Automaton, Word, Accepts}
use Rattle.build.specs.declared.Rows.{Rows}
use Rattle.build.specs.Tables.{at}
use Rattle.sheet.specs.declared.Held.{Held}
use Rattle.sheet.specs.declared.Join.{Join}
use Rattle.sheet.specs.Calls.{View}

-- a pattern: the part, and the automaton that has to accept its word
pub record Pattern (L : Type 0) : Type 0 where
  pub part : ℕ
  pub automaton : Automaton L

-- parts are the numbers below a count; patterns and joins are in the order in which they were accepted
pub record Problem (L : Type 0) : Type 0 where
  pub parts : ℕ
  pub patterns : List (Pattern L)
  pub joins : List Join
  pub held : Rows

-- a held pattern, read from the tables
abbrev pub read : {L : Type 0} → List State → List (Arc L) → Held → Pattern L
read states arcs h = record { part = h.part; automaton = at states arcs h.place }

abbrev pub problem : {L : Type 0} → View → List State → List (Arc L) → Problem L
problem s states arcs = record { parts = s.parts; patterns = map (read states arcs) s.patterns; joins = s.joins; held = s.held }

-- one word for each part, of letters of the alphabet: every pattern accepts its part's word, and in every join
-- the word of the whole is that of the left followed by that of the right
pub record Satisfies {L : Type 0} (a : Labels L) (s : Problem L) (words : ℕ → Word) : Type 0 where
  pub letters : (p : ℕ) → p < s.parts → AllByRecursion (λ c. c < a.letters) (words p)
  pub patterns : (h : Pattern L) → Has s.patterns h → Accepts a.admits h.automaton (words h.part)
  pub joins : (j : Join) → Has s.joins j → words j.whole ≡ words j.left ++ words j.right
