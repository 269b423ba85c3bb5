-- Pieces of the whole's word for the two parts of a join.
use Rattle.std.specs.Prelude.{◌≡◌, ℕ, ◌+◌, ◌-◌, ◌≤◌, List, take, drop, slice_set}
use Rattle.alphabet.specs.Labels.{Set}
use Rattle.automaton.specs.declared.Arc.{Arc}
use Rattle.automaton.specs.declared.State.{State}
use Rattle.automaton.specs.Automaton.{Accepts}
use Rattle.sheet.specs.declared.Join.{Join}
use Rattle.solve.specs.declared.Row.{Row}
use Rattle.solve.specs.Report.{row, word_at, word_len, automaton_of, with_word}

-- the left has the first i letters of the whole's word
abbrev pub left_piece : List Row → Join → ℕ → List Row
left_piece report j i = slice_set report j.left (with_word (row report j.left) (row report j.whole).word.first i)

-- and the right has the rest
abbrev pub right_piece : List Row → List Row → Join → ℕ → List Row
right_piece report mid j i = slice_set mid j.right (with_word (row mid j.right) ((row report j.whole).word.first + i) (word_len report j.whole - i))

-- the word of the whole is split into a word of the left and one of the right
pub record SplitUp {L : Type 0} (admits : L → Set) (states : List State) (arcs : List (Arc L)) (words : List ℕ) (j : Join) (before after : List Row) : Type 0 where
  pub place : ℕ
  pub within : place ≤ word_len before j.whole
  pub rows : after ≡ right_piece before (left_piece before j place) j place
  pub left : Accepts admits (automaton_of states arcs before j.left) (take place (word_at words (row before j.whole).word))
  pub right : Accepts admits (automaton_of states arcs before j.right) (drop place (word_at words (row before j.whole).word))
