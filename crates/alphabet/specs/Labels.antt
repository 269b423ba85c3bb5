-- What the labels of an alphabet mean. A letter is a number, a label stands for a set of letters.
use Rattle.std.specs.Prelude.{◌≡◌, ℕ, ◌<◌, ◌≤◌, Bool, true, false, ◌&&◌, Option, MatchOption, nat_le, nat_lt}

-- a set of letters, by its test
abbrev pub Set : Type 0
Set = ℕ → Bool

abbrev pub Empty : Set → Type 0
Empty s = (c : ℕ) → s c ≡ false

pub record Least (s : Set) (m : ℕ) : Type 0 where
  pub inside : s m ≡ true
  pub smallest : (c : ℕ) → s c ≡ true → m ≤ c

-- what an alphabet with labels of type L supplies
pub record Labels (L : Type 0) : Type 0 where
  -- how many letters there are: they are the numbers below it
  pub letters : ℕ
  -- the set that a label means
  pub admits : L → Set
  pub full : L
  pub meet : L → L → L
  pub first : L → Option ℕ

-- what an alphabet shows of them, for every value of the label type
pub record Lawful {L : Type 0} (a : Labels L) : Type 0 where
  pub some_letter : 1 ≤ a.letters
  pub at_most : a.letters ≤ 1114112
  pub within : (l : L) (c : ℕ) → a.admits l c ≡ true → c < a.letters
  pub full_all : (c : ℕ) → c < a.letters → a.admits a.full c ≡ true
  pub meet_both : (l k : L) (c : ℕ) → a.admits (a.meet l k) c ≡ (a.admits l c && a.admits k c)
  pub first_least : (l : L) → MatchOption (a.first l) (Empty (a.admits l)) (Least (a.admits l))

-- the letters below n from lo to hi, both included: none where lo is above hi
abbrev pub from_to : ℕ → ℕ → ℕ → Set
from_to n lo hi c = nat_lt c n && (nat_le lo c && nat_le c hi)

-- range lo hi is the label of the letters from lo to hi
pub record Ranged {L : Type 0} (a : Labels L) (range : ℕ → ℕ → L) : Type 0 where
  pub range_means : (lo hi c : ℕ) → a.admits (range lo hi) c ≡ from_to a.letters lo hi c
