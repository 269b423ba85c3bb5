-- Joins, and what it is for them to have no circle. A join says that the whole's word is the left's followed by the right's.
use Rattle.std.specs.Prelude.{◌≡◌, ℕ, ◌<◌, Bool, true, false, ◌⊎◌, List, slice_index_or}
use Rattle.std.specs.List.{ContainsAt as Has}
use Rattle.sheet.specs.declared.Join.{Join}

-- x is joined from y and another part
abbrev pub Uses : List Join → ℕ → ℕ → Type 0
Uses js x y = (j : Join) × Has js j × (j.whole ≡ x) × ((j.left ≡ y) ⊎ (j.right ≡ y))

-- joins lead from x down to y
pub data Below (js : List Join) : ℕ → ℕ → Type 0 where
  one : {x y : ℕ} → Uses js x y → Below js x y
  more : {x y z : ℕ} → Uses js x y → Below js y z → Below js x z

-- no part is below itself
abbrev pub Acyclic : List Join → Type 0
Acyclic js = (p : ℕ) → Below js p p → ⊥

-- the parts of every join are below n
abbrev pub Known : ℕ → List Join → Type 0
Known n js = (j : Join) → Has js j → (j.whole < n) × (j.left < n) × (j.right < n)

-- y is x, or below it
abbrev pub AtOrBelow : List Join → ℕ → ℕ → Type 0
AtOrBelow js x y = (x ≡ y) ⊎ Below js x y

-- x is at or below the left or the right
abbrev pub Closes : List Join → ℕ → ℕ → ℕ → Type 0
Closes js left right x = AtOrBelow js left x ⊎ AtOrBelow js right x

-- a part is marked
abbrev pub Marked : List Bool → ℕ → Type 0
Marked marks p = slice_index_or marks p false ≡ true

-- the parts of a join whose whole is marked are marked
abbrev pub Settled : List Bool → Join → Type 0
Settled marks j = Marked marks j.whole → Marked marks j.left × Marked marks j.right

abbrev pub none : Join
none = record { whole = 0; left = 0; right = 0 }
