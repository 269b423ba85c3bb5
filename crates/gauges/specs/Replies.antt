-- The lines of an input, and the replies that the weir station waits for.
use Rattle.std.specs.Prelude.{◌≡◌, ℕ, ◌<◌, ◌≤◌, true, false, ◌⊎◌, List, [], ◌∷◌, ◌++◌, ◌≢◌}
use Rattle.std.specs.List.{AllByRecursion}
use Rattle.alphabet.specs.Modem.{modem, marks_from_to}
use Rattle.alphabet.specs.declared.modem.ModemLabel.{ModemLabel}
use Rattle.automaton.specs.declared.Arc.{Arc}
use Rattle.automaton.specs.declared.State.{State}
use Rattle.automaton.specs.Automaton.{Word}

-- the rows of the acknowledgement: nothing, or the letter '#'
abbrev pub sign_states : List State
sign_states = record { marks = record { initial = true; accepting = true }; left = 0; right = 0 } ∷ record { marks = record { initial = false; accepting = true }; left = 0; right = 0 } ∷ []

abbrev pub sign_arcs : List (Arc ModemLabel)
sign_arcs = record { from = 0; label = marks_from_to 35 35; to = 1 } ∷ []

-- the rows of the wait: a digit, then anything
abbrev pub wait_states : List State
wait_states = record { marks = record { initial = true; accepting = false }; left = 0; right = 0 } ∷ record { marks = record { initial = false; accepting = true }; left = 0; right = 0 } ∷ []

abbrev pub wait_arcs : List (Arc ModemLabel)
wait_arcs = record { from = 0; label = marks_from_to 48 57; to = 1 } ∷ record { from = 1; label = modem.full; to = 1 } ∷ []

-- what they accept, in words: a digit, then any letters of the modem
abbrev pub Awaited : Word → Type 0
Awaited [] = ⊥
Awaited (c ∷ w) = (48 ≤ c) × (c ≤ 57) × AllByRecursion (λ x. x < 128) w

-- the first line of some bytes, and what follows its line end, if there is one
pub record Cut (bytes line rest : List ℕ) : Type 0 where
  pub plain : AllByRecursion (λ b. b ≢ 10) line
  pub whole : (bytes ≡ line ++ 10 ∷ rest) ⊎ ((bytes ≡ line) × (rest ≡ []))
