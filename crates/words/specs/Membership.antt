-- Running an automaton along a word. A set of its states is kept in its own rows: left is 1 for the states of the set,
-- and right for those of the next one.
use Rattle.std.specs.Prelude.{◌≡◌, ℕ, ◌<◌, true, cond, ◌↔◌, List, length}
use Rattle.alphabet.specs.Labels.{Labels, Set}
use Rattle.automaton.specs.declared.State.{State}
use Rattle.automaton.specs.Automaton.{Automaton, Word, Walk, initial, arc_at}
use Rattle.words.specs.States.{row}

-- the next set is empty
abbrev pub Clear : List State → Type 0
Clear states = (q : ℕ) → q < length states → (row states q).right ≡ 0

-- the set of the initial states, and an empty next set
pub record Begun {L : Type 0} (m : Automaton L) (states : List State) : Type 0 where
  pub set : (q : ℕ) → q < length states → (row states q).left ≡ cond (initial m q) 1 0
  pub clear : Clear states

-- one of the first k arcs leads on the letter from a state of the set to q
abbrev pub Fired : {L : Type 0} → Labels L → Automaton L → List State → ℕ → ℕ → ℕ → Type 0
Fired a m states c k q =
    (i : ℕ) × (i < k) × ((row states (arc_at a m i).from).left ≡ 1) × (a.admits (arc_at a m i).label c ≡ true) × ((arc_at a m i).to ≡ q)

-- the next set has exactly the states to which the first k arcs lead on the letter
pub record Followed {L : Type 0} (a : Labels L) (m : Automaton L) (c k : ℕ) (before after : List State) : Type 0 where
  pub set : (q : ℕ) → (row after q).left ≡ (row before q).left
  pub next : (q : ℕ) → q < length before → ((row after q).right ≡ 1) ↔ Fired a m before c k q

-- the next set became the set
pub record Advanced (before after : List State) : Type 0 where
  pub set : (q : ℕ) → q < length before → (row after q).left ≡ (row before q).right
  pub clear : Clear after

-- a walk along the word leads from an initial state to q
abbrev pub Reaches : {L : Type 0} → (L → Set) → Automaton L → Word → ℕ → Type 0
Reaches admits m w q = (o : ℕ) × (initial m o ≡ true) × Walk admits m.arcs o w q

-- the set has exactly the states to which the word leads, and the next set is empty
pub record Reached {L : Type 0} (admits : L → Set) (m : Automaton L) (w : Word) (states : List State) : Type 0 where
  pub exact : (q : ℕ) → q < length states → ((row states q).left ≡ 1) ↔ Reaches admits m w q
  pub clear : Clear states

-- some state of the set accepts
abbrev pub SomeAccepts : List State → Type 0
SomeAccepts states = (q : ℕ) × (q < length states) × ((row states q).left ≡ 1) × ((row states q).marks.accepting ≡ true)
