-- Running an automaton along a word by the set of states that it can be in.
use Rattle.std.specs.Prelude.{◌≡◌, ℕ, Bool, true, false, List, length, Decides, slice_index_or}
use Rattle.std.specs.List.{ContainsAt as Has}
use Rattle.alphabet.specs.Labels.{Set}
use Rattle.automaton.specs.declared.Arc.{Arc}
use Rattle.automaton.specs.Automaton.{Automaton, Word, Walk, initial, accepting}

-- a set of states as a mark for each of 256
abbrev pub In : List Bool → ℕ → Type 0
In set q = slice_index_or set q false ≡ true

-- a walk along the word leads from an initial state to q
abbrev pub Reaches : {L : Type 0} → (L → Set) → Automaton L → Word → ℕ → Type 0
Reaches admits m w q = (p : ℕ) × (initial m p ≡ true) × Walk admits m.arcs p w q

-- the set of exactly the states to which the word leads
pub record Reached {L : Type 0} (admits : L → Set) (m : Automaton L) (w : Word) (set : List Bool) : Type 0 where
  pub long : length set ≡ 256
  pub exact : (q : ℕ) → Decides (slice_index_or set q false) (Reaches admits m w q)

-- an arc on the letter leads from a state of the set to q
abbrev pub Leads : {L : Type 0} → (L → Set) → Automaton L → List Bool → ℕ → ℕ → Type 0
Leads {L} admits m set c q = (a : Arc L) × Has m.arcs a × In set a.from × (admits a.label c ≡ true) × (a.to ≡ q)

-- the set of exactly the states to which the letter leads from a set
pub record Stepped {L : Type 0} (admits : L → Set) (m : Automaton L) (c : ℕ) (before after : List Bool) : Type 0 where
  pub long : length after ≡ 256
  pub exact : (q : ℕ) → Decides (slice_index_or after q false) (Leads admits m before c q)

-- some state of the set accepts
abbrev pub SomeAccepts : {L : Type 0} → Automaton L → List Bool → Type 0
SomeAccepts m set = (q : ℕ) × In set q × (accepting m q ≡ true)
