-- Machines that keep their rows, marks and arcs.
use Rattle.std.proofs.Common.{◌≡◌, ℕ, length, ap₂, ◌∙◌, subst₂}
use Rattle.automaton.specs.Automaton.{Automaton}
use Rattle.words.specs.declared.machine.Machine.{Machine}
use Rattle.words.specs.Machines.{automaton, SameMachine}
use Rattle.words.proofs.States.{length_marks}

module _ {L : Type 0} where
  pub same_more : (x y z : Machine L) → SameMachine x y → SameMachine y z → SameMachine x z
  same_more x y z h k = record { rows = k.rows ∙ h.rows; marks = k.marks ∙ h.marks; arcs = k.arcs ∙ h.arcs }

  -- the automaton is as it was
  pub same_automaton : (x y : Machine L) → SameMachine x y → automaton y ≡ automaton x
  same_automaton x y h = ap₂ (λ s b. record { states = s; arcs = b.now }) h.marks h.arcs

  -- what holds of the later machine held of the earlier one
  pub same_back : (x y : Machine L) → SameMachine x y → (P : Automaton L → ℕ → Type 0) → P (automaton y) (length y.states.now) → P (automaton x) (length x.states.now)
  same_back x y h P p = subst₂ P (same_automaton x y h) (length_marks x.states.now y.states.now h.marks) p
