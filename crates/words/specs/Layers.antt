-- Layers of states: one more than the letters of a word that leads to an accepting state, or 0 where none is known.
use Rattle.std.specs.Prelude.{◌≡◌, ℕ, zero, suc, ◌+◌, ◌<◌, ◌≤◌, min, Bool, true, false, cond, ◌⊎◌, List, is_some}
use Rattle.std.specs.List.{ContainsAt as Has}
use Rattle.alphabet.specs.Labels.{Labels}
use Rattle.automaton.specs.declared.State.{State}
use Rattle.automaton.specs.declared.Arc.{Arc}
use Rattle.automaton.specs.Automaton.{Automaton, initial, accepting}
use Rattle.words.specs.States.{row}

-- the layer of a state stands in the first number of its row
abbrev pub layer : List State → ℕ → ℕ
layer states q = (row states q).left

-- how many of the first n states have a layer
unfoldable pub count : (ℕ → ℕ) → ℕ → ℕ
count f zero = 0
count f (suc n) = count f n + min (f n) 1

-- an arc with a letter leads from q to a state of a layer
abbrev pub Leads : {L : Type 0} → Labels L → (ℕ → ℕ) → ℕ → ℕ → Arc L → Type 0
Leads a f q v b = (b.from ≡ q) × (f b.to ≡ v) × (is_some (a.first b.label) ≡ true)

-- an arc with a letter leads from a state without a layer to a state of a layer
abbrev pub Rises : {L : Type 0} → Labels L → (ℕ → ℕ) → ℕ → Arc L → Type 0
Rises a f top b = (f b.from ≡ 0) × (f b.to ≡ top) × (is_some (a.first b.label) ≡ true)

-- the layers f of an automaton of n states: an accepting state has one, each is accepting or an arc leads one layer
-- down, and none is above the count of states with a layer
pub record Layered {L : Type 0} (a : Labels L) (m : Automaton L) (n : ℕ) (f : ℕ → ℕ) : Type 0 where
  pub based : (q : ℕ) → accepting m q ≡ true → 0 < f q
  pub each : (q : ℕ) → q < n → (f q ≡ 0) ⊎ (((f q ≡ 1) × (accepting m q ≡ true)) ⊎ ((b : Arc L) × Has m.arcs b × (0 < f b.to) × Leads a f q (f b.to) b × (f q ≡ f b.to + 1)))
  pub low : (q : ℕ) → q < n → f q ≤ count f n

-- the accepting states are the layer 1, and there is no other
abbrev pub Begun : {L : Type 0} → Automaton L → ℕ → (ℕ → ℕ) → Type 0
Begun m n f = (q : ℕ) → q < n → f q ≡ cond (accepting m q) 1 0

-- arcs with a letter into layers below top come from states with a layer
abbrev pub Settled : {L : Type 0} → Labels L → Automaton L → (ℕ → ℕ) → ℕ → Type 0
Settled {L} a m f top = (b : Arc L) → Has m.arcs b → is_some (a.first b.label) ≡ true → 0 < f b.to → f b.to < top → 0 < f b.from

-- the layers up to top are complete
pub record Upto {L : Type 0} (a : Labels L) (m : Automaton L) (n : ℕ) (f : ℕ → ℕ) (top : ℕ) : Type 0 where
  pub layered : Layered a m n f
  pub deep : (q : ℕ) → q < n → f q ≤ top
  pub settled : Settled a m f top

-- all layers are complete
pub record Complete {L : Type 0} (a : Labels L) (m : Automaton L) (n : ℕ) (f : ℕ → ℕ) : Type 0 where
  pub layered : Layered a m n f
  pub closed : (b : Arc L) → Has m.arcs b → is_some (a.first b.label) ≡ true → 0 < f b.to → 0 < f b.from

-- a round from the layers f to the layers g
abbrev pub Round : {L : Type 0} → Labels L → Automaton L → ℕ → (ℕ → ℕ) → (ℕ → ℕ) → ℕ → Bool → Type 0
Round a m n f g top true = Upto a m n g (top + 1) × (count f n < count g n)
Round a m n f g top false = Complete a m n g

-- an initial state with a layer
pub record Start {L : Type 0} (m : Automaton L) (n : ℕ) (f : ℕ → ℕ) (q : ℕ) : Type 0 where
  pub low : q < n
  pub starts : initial m q ≡ true
  pub layered : 0 < f q
