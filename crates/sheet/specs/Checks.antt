-- Checks in their order: each has the number of its refusal, and what must hold.
use Rattle.std.specs.Prelude.{◌≡◌, ℕ, ◌⊎◌, List, [], ◌∷◌}

pub record Check : Type 1 where
  pub refusal : ℕ
  pub Holds : Type 0

abbrev pub check : ℕ → Type 0 → Check
check n P = record { refusal = n; Holds = P }

-- all of them hold
abbrev pub AllHold : List Check → Type 0
AllHold [] = Unit {0}
AllHold (c ∷ cs) = c.Holds × AllHold cs

-- n is the number of the first that does not hold
abbrev pub FirstFails : List Check → ℕ → Type 0
FirstFails [] n = ⊥
FirstFails (c ∷ cs) n = ((n ≡ c.refusal) × (c.Holds → ⊥)) ⊎ (c.Holds × FirstFails cs n)
