-- The report, a row for each part, and the words that it places.
use Rattle.std.specs.Prelude.{◌≡◌, ℕ, ◌+◌, ◌<◌, ◌≤◌, List, length, drop, Some, None, Option, slice_index_or}
use Rattle.std.specs.List.{ContainsAt as Has}
use Rattle.alphabet.specs.Labels.{Set}
use Rattle.automaton.specs.declared.Arc.{Arc}
use Rattle.automaton.specs.declared.State.{State}
use Rattle.automaton.specs.Automaton.{Automaton, Word, Accepts}
use Rattle.build.specs.declared.Place.{Place}
use Rattle.build.specs.declared.Rows.{Rows}
use Rattle.build.specs.Tables.{part, at, InUse, Stands}
use Rattle.sheet.specs.declared.Held.{Held}
use Rattle.sheet.specs.declared.Join.{Join}
use Rattle.sheet.specs.Patterns.{nowhere}
use Rattle.verdict.specs.Course.{find}
use Rattle.verdict.specs.Verdicts.{Root, roots_below}
use Rattle.solve.specs.declared.Row.{Row}
use Rattle.solve.specs.declared.Span.{Span}

abbrev pub no_word : Span
no_word = record { first = 0; len = 0 }

abbrev pub blank : Row
blank = record { automaton = nowhere.place; word = no_word }

-- the row of a part
abbrev pub row : List Row → ℕ → Row
row report p = slice_index_or report p blank

abbrev pub place_or : Option Held → Place
place_or None = nowhere.place
place_or (Some h) = h.place

-- the place of the final result of a part
abbrev pub place_of : List Held → ℕ → Place
place_of hs p = place_or (find (λ h. h.part) hs p)

-- the word at a span of the words table
abbrev pub word_at : List ℕ → Span → Word
word_at words s = part words s.first s.len

abbrev pub word_len : List Row → ℕ → ℕ
word_len report p = (row report p).word.len

-- a row with its word at another span
abbrev pub with_word : Row → ℕ → ℕ → Row
with_word r first len = record { automaton = r.automaton; word = record { first = first; len = len } }

-- the automaton of a part's row
abbrev pub automaton_of : {L : Type 0} → List State → List (Arc L) → List Row → ℕ → Automaton L
automaton_of states arcs report p = at states arcs (row report p).automaton

-- every part has its row, without a word; the rows behind are as they were
pub record Listed (hs : List Held) (parts : ℕ) (before after : List Row) : Type 0 where
  pub long : length after ≡ length before
  pub rows : (p : ℕ) → p < parts → row after p ≡ record { automaton = place_of hs p; word = no_word }
  pub rest : drop parts after ≡ drop parts before

-- only the words of the parts differ
pub record Reworded (parts : ℕ) (before after : List Row) : Type 0 where
  pub long : length after ≡ length before
  pub automata : (p : ℕ) → (row after p).automaton ≡ (row before p).automaton
  pub rest : drop parts after ≡ drop parts before

-- the automata of all parts stand among the rows in use
pub record Standing {L : Type 0} (states : List State) (arcs : List (Arc L)) (used : Rows) (parts : ℕ) (report : List Row) : Type 0 where
  pub in_use : InUse states arcs used
  pub rows_there : parts ≤ length report
  pub stands : (p : ℕ) → p < parts → Stands states arcs used (row report p).automaton

-- the automaton of a part accepts its word
abbrev pub Worded : {L : Type 0} → (L → Set) → List State → List (Arc L) → List Row → List ℕ → ℕ → Type 0
Worded admits states arcs report words p = Accepts admits (automaton_of states arcs report p) (word_at words (row report p).word)

-- the word of a part lies in the table
abbrev pub Within : List Row → List ℕ → ℕ → Type 0
Within report words p = (row report p).word.first + (row report p).word.len ≤ length words

-- the words of the roots lie one behind another from the start of the table, each shorter than its automaton has
-- states; the letters behind them are as they were
pub record RootsLaid (js : List Join) (parts : ℕ) (report : List Row) (before after : List ℕ) : Type 0 where
  pub first : (p : ℕ) → p < parts → Root js p → (row report p).word.first ≡ roots_below js (word_len report) p
  pub short : (p : ℕ) → p < parts → Root js p → word_len report p < (row report p).automaton.count.states
  pub long : length after ≡ length before
  pub within : roots_below js (word_len report) parts ≤ length before
  pub rest : drop (roots_below js (word_len report) parts) after ≡ drop (roots_below js (word_len report) parts) before

-- the word of the whole is the left's piece and then the right's
pub record Pieces (report : List Row) (j : Join) : Type 0 where
  pub left_first : (row report j.left).word.first ≡ (row report j.whole).word.first
  pub right_after : (row report j.right).word.first ≡ (row report j.left).word.first + word_len report j.left
  pub together : word_len report j.whole ≡ word_len report j.left + word_len report j.right

abbrev pub AllPieces : List Join → List Row → Type 0
AllPieces js report = (j : Join) → Has js j → Pieces report j
