-- Words written into a table of letters.
use Rattle.std.specs.Prelude.{◌≡◌, ℕ, ◌+◌, List, length, take, drop}

-- n letters were written from a place on, and nothing else
pub record Wrote (at n : ℕ) (before after : List ℕ) : Type 0 where
  pub long : length after ≡ length before
  pub front : take at after ≡ take at before
  pub back : drop (at + n) after ≡ drop (at + n) before
