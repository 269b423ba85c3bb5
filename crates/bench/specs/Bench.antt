-- Sheets over text, and the verdict that the rules give for each.
use Rattle.std.specs.Prelude.{ℕ, true, false, List, [], ◌∷◌, length, sum_by}
use Rattle.alphabet.specs.declared.text.TextLabel.{TextLabel}
use Rattle.alphabet.specs.Text.{text, ends}
use Rattle.automaton.specs.Automaton.{Automaton, Word}
use Rattle.build.specs.declared.Rows.{Rows}
use Rattle.giver.specs.Fixed.{chain}
use Rattle.sheet.specs.declared.Join.{Join}
use Rattle.sheet.specs.Calls.{rows}
use Rattle.verdict.specs.declared.Solved.{Solved}
use Rattle.verdict.specs.declared.Table.TheVariants.{States}
use Rattle.verdict.specs.declared.Verdict.{Verdict}
use Rattle.verdict.specs.declared.Verdict.TheVariants.{OutOfRoom, Impossible, Unknown, Possible}
use Rattle.verdict.specs.Problem.{Problem, Pattern}
use Rattle.verdict.specs.Verdicts.{Given}

-- the automaton of a fixed text
abbrev pub fixed : Word → Automaton TextLabel
fixed w = chain ends w

-- one letter from lo to hi
abbrev pub letter : ℕ → ℕ → Automaton TextLabel
letter lo hi = record {
  states = record { initial = true; accepting = false } ∷ record { initial = false; accepting = true } ∷ [];
  arcs = record { from = 0; label = ends lo hi; to = 1 } ∷ [];
}

-- the word of a part has to be accepted
abbrev pub asks : ℕ → Automaton TextLabel → Pattern TextLabel
asks p m = record { part = p; automaton = m }

-- the word of the whole is the left's followed by the right's
abbrev pub joins : ℕ → ℕ → ℕ → Join
joins x y z = record { whole = x; left = y; right = z }

-- so many parts, with patterns and joins; the rows of the patterns are held
abbrev pub sheet : ℕ → List (Pattern TextLabel) → List Join → Problem TextLabel
sheet n hs js = record {
  parts = n;
  patterns = hs;
  joins = js;
  held = rows (sum_by (λ h. length h.automaton.states) hs) (sum_by (λ h. length h.automaton.arcs) hs);
}

-- a verdict with the states and arcs of all builds
abbrev pub answer : Verdict → ℕ → ℕ → Solved
answer v s a = record { verdict = v; totals = rows s a }

-- the tables of most sheets
abbrev pub wide : Rows
wide = rows 65536 1048576

-- no part
abbrev pub none : Problem TextLabel
none = sheet 0 [] []

-- one part
abbrev pub one : Problem TextLabel
one = sheet 1 [] []

-- one part, the text A
abbrev pub one_text : Problem TextLabel
one_text = sheet 1 (asks 0 (fixed (65 ∷ [])) ∷ []) []

-- one part, the texts A and B
abbrev pub two_texts : Problem TextLabel
two_texts = sheet 1 (asks 0 (fixed (65 ∷ [])) ∷ asks 0 (fixed (66 ∷ [])) ∷ []) []

-- the empty text followed by 7 is 7
abbrev pub empty_first : Problem TextLabel
empty_first = sheet 3 (asks 0 (fixed []) ∷ asks 1 (fixed (55 ∷ [])) ∷ asks 2 (fixed (55 ∷ [])) ∷ []) (joins 2 0 1 ∷ [])

-- y followed by y is AB, where y is A or B
abbrev pub twice_either : Problem TextLabel
twice_either = sheet 2 (asks 0 (letter 65 66) ∷ asks 1 (fixed (65 ∷ 66 ∷ [])) ∷ []) (joins 1 0 0 ∷ [])

-- y followed by y is AB, where y is A
abbrev pub twice_same : Problem TextLabel
twice_same = sheet 2 (asks 0 (fixed (65 ∷ [])) ∷ asks 1 (fixed (65 ∷ 66 ∷ [])) ∷ []) (joins 1 0 0 ∷ [])

-- a join that stands twice
abbrev pub join_twice : Problem TextLabel
join_twice = sheet 3 [] (joins 2 0 1 ∷ joins 2 0 1 ∷ [])

-- the verdict on each, with the tables and the words that it is given
abbrev pub BenchStands : Type 0
BenchStands =
    Given text wide 16 none (answer Possible 0 0)
    × Given text wide 16 one (answer Possible 1 1)
    × Given text wide 16 one_text (answer Possible 3 2)
    × Given text wide 16 two_texts (answer (Impossible 0) 4 2)
    × Given text (rows 19 9) 2 empty_first (answer Possible 14 7)
    × Given text (rows 18 9) 2 empty_first (answer (OutOfRoom States 2) 11 6)
    × Given text wide 16 twice_either (answer Unknown 15 11)
    × Given text wide 16 twice_same (answer (Impossible 1) 14 10)
    × Given text wide 16 join_twice (answer Unknown 13 21)
