-- The modem alphabet: 128 letters, a label is a mark for each letter.
use Rattle.std.specs.Prelude.{ℕ, zero, suc, true, false, cond, ◌&&◌, map, Some, None, Option, nat_lt, slice_index_or}
use Rattle.std.specs.List.{range_with_len}
use Rattle.alphabet.specs.Labels.{Labels, Set, from_to}
use Rattle.alphabet.specs.declared.modem.ModemLabel.{ModemLabel}

-- the label that marks the letters of a set
abbrev pub marking : Set → ModemLabel
marking s = record { marks = map s (range_with_len 0 128) }

abbrev pub marked : ModemLabel → Set
marked l c = nat_lt c 128 && slice_index_or l.marks c false

-- the smallest of the n letters from c on that is in the set
unfoldable pub search_from : Set → ℕ → ℕ → Option ℕ
search_from s c zero = None
search_from s c (suc n) = cond (s c) (Some c) (search_from s (suc c) n)

abbrev pub modem : Labels ModemLabel
modem = record {
  letters = 128;
  admits = marked;
  full = marking (λ c. true);
  meet = λ l k. marking (λ c. marked l c && marked k c);
  first = λ l. search_from (marked l) 0 128;
}

abbrev pub marks_from_to : ℕ → ℕ → ModemLabel
marks_from_to lo hi = marking (from_to 128 lo hi)
