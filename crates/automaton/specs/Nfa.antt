-- Abstract automata, whose states and arcs may be things of any kind. What a build means is said of these;
-- rows of a table realize one.
use Rattle.std.specs.Prelude.{◌≡◌, ℕ, ◌<◌, true, ◌⊎◌, [], ◌∷◌, length, is_some, Decides}
use Rattle.std.proofs.Common.{inl, inr}
use Rattle.alphabet.specs.Labels.{Labels, Set}
use Rattle.automaton.specs.Automaton.{Automaton, Word, initial, accepting, arc_at}
use Rattle.automaton.specs.Numbers.{Numbers}

pub record Nfa (S E L : Type 0) : Type 1 where
  pub State : S → Type 0
  pub Arrow : E → Type 0
  pub from : E → S
  pub label : E → L
  pub to : E → S
  pub Starts : S → Type 0
  pub Ends : S → Type 0
  -- an initial state is a state
  pub starts_in : (s : S) → Starts s → State s

-- arcs lead from one state to another, and their labels admit the letters of the word in turn
pub data Trace {S E L : Type 0} (admits : L → Set) (n : Nfa S E L) : S → Word → S → Type 0 where
  stop : {q : S} → Trace admits n q [] q
  move : {q r : S} {c : ℕ} {w : Word} (e : E) → n.Arrow e → n.from e ≡ q → admits (n.label e) c ≡ true → Trace admits n (n.to e) w r → Trace admits n q (c ∷ w) r

pub record Recognizes {S E L : Type 0} (admits : L → Set) (n : Nfa S E L) (w : Word) : Type 0 where
  pub start : S
  pub end : S
  pub starts : n.Starts start
  pub ends : n.Ends end
  pub trace : Trace admits n start w end

-- an automaton as an abstract one
abbrev pub rows : {L : Type 0} → Labels L → Automaton L → Nfa ℕ ℕ L
rows a m = record {
  State = λ q. q < length m.states;
  Arrow = λ k. k < length m.arcs;
  from = λ k. (arc_at a m k).from;
  label = λ k. (arc_at a m k).label;
  to = λ k. (arc_at a m k).to;
  Starts = λ q. (q < length m.states) × (initial m q ≡ true);
  Ends = λ q. accepting m q ≡ true;
  starts_in = λ q h. h.0;
}

-- the arc leads from state to state as the abstract one does, on the same label
pub record Follows {S E L : Type 0} (a : Labels L) (n : Nfa S E L) (m : Automaton L) (name : ℕ → S) (k : ℕ) (e : E) : Type 0 where
  pub from_state : (arc_at a m k).from < length m.states
  pub to_state : (arc_at a m k).to < length m.states
  pub from_is : name (arc_at a m k).from ≡ n.from e
  pub to_is : name (arc_at a m k).to ≡ n.to e
  pub label_is : (arc_at a m k).label ≡ n.label e

-- m is n with its states and arcs numbered, in whatever order
pub record Realizes {S E L : Type 0} (a : Labels L) (n : Nfa S E L) (m : Automaton L) : Type 0 where
  pub name : ℕ → S
  pub states : Numbers n.State (length m.states) name
  pub starts : (q : ℕ) → q < length m.states → Decides (initial m q) (n.Starts (name q))
  pub ends : (q : ℕ) → q < length m.states → Decides (accepting m q) (n.Ends (name q))
  pub arrow : ℕ → E
  pub arcs : Numbers n.Arrow (length m.arcs) arrow
  pub follows : (k : ℕ) → k < length m.arcs → Follows a n m name k (arrow k)

-- the meet of the two labels has a first letter
abbrev pub Meets : {L : Type 0} → Labels L → L → L → Type 0
Meets a l k = is_some (a.first (a.meet l k)) ≡ true

-- pairs of states that pairs of arcs reach from pairs of initial states
pub data Reachable {S E T F L : Type 0} (a : Labels L) (m : Nfa S E L) (k : Nfa T F L) : S → T → Type 0 where
  begin : {p : S} {q : T} → m.Starts p → k.Starts q → Reachable a m k p q
  go : {p r : S} {q s : T} (e : E) (f : F) → Reachable a m k p q → m.Arrow e → k.Arrow f → m.from e ≡ p → k.from f ≡ q → Meets a (m.label e) (k.label f) → m.to e ≡ r → k.to f ≡ s → Reachable a m k r s

-- the product: reachable pairs of states, and the pairs of arcs that leave them and whose labels meet
abbrev pub product : {S E T F L : Type 0} → Labels L → Nfa S E L → Nfa T F L → Nfa (S × T) (E × F) L
product a m k = record {
  State = λ x. Reachable a m k x.0 x.1;
  Arrow = λ x. m.Arrow x.0 × k.Arrow x.1 × Reachable a m k (m.from x.0) (k.from x.1) × Meets a (m.label x.0) (k.label x.1);
  from = λ x. (m.from x.0, k.from x.1);
  label = λ x. a.meet (m.label x.0) (k.label x.1);
  to = λ x. (m.to x.0, k.to x.1);
  Starts = λ x. m.Starts x.0 × k.Starts x.1;
  Ends = λ x. m.Ends x.0 × k.Ends x.1;
  starts_in = λ x h. begin h.0 h.1;
}

-- some state is both initial and accepting
abbrev pub Nullable : {S E L : Type 0} → Nfa S E L → Type 0
Nullable {S} m = (p : S) × m.Starts p × m.Ends p

-- what is of the first kind, and what is of the second
abbrev pub either : {S T : Type 0} → (S → Type 0) → (T → Type 0) → S ⊎ T → Type 0
either P Q (inl p) = P p
either P Q (inr q) = Q q

abbrev pub choose : {S T X : Type 0} → (S → X) → (T → X) → S ⊎ T → X
choose f g (inl p) = f p
choose f g (inr q) = g q

-- the concatenation: both, and for each arc of the first into an accepting state one arc, on the same label,
-- to each initial state of the second
abbrev pub concat : {S E T F L : Type 0} → Nfa S E L → Nfa T F L → Nfa (S ⊎ T) (E ⊎ (F ⊎ (E × T))) L
concat m k = record {
  State = either m.State k.State;
  Arrow = either m.Arrow (either k.Arrow (λ x. m.Arrow x.0 × m.Ends (m.to x.0) × k.Starts x.1));
  from = choose (λ e. inl (m.from e)) (choose (λ f. inr (k.from f)) (λ x. inl (m.from x.0)));
  label = choose m.label (choose k.label (λ x. m.label x.0));
  to = choose (λ e. inl (m.to e)) (choose (λ f. inr (k.to f)) (λ x. inr x.1));
  Starts = either m.Starts (λ q. Nullable m × k.Starts q);
  Ends = either (λ p. ⊥) k.Ends;
  starts_in = elim [ inl p ↦ m.starts_in p | inr q ↦ λ h. k.starts_in q h.1 ];
}

-- all words: one state, initial and accepting, and one arc to itself on the full label
abbrev pub all_words : {L : Type 0} → Labels L → Nfa (Unit {0}) (Unit {0}) L
all_words a = record {
  State = λ _. Unit {0};
  Arrow = λ _. Unit {0};
  from = λ _. tt;
  label = λ _. a.full;
  to = λ _. tt;
  Starts = λ _. Unit {0};
  Ends = λ _. Unit {0};
  starts_in = λ _ _. tt;
}
