-- What a build answers.
use Rattle.std.specs.Prelude.{◌≡◌, ℕ, ◌+◌, ◌-◌, ◌≤◌, ◌⊎◌, List, Ok, Err, Result}
use Rattle.alphabet.specs.Labels.{Labels}
use Rattle.automaton.specs.declared.State.{State}
use Rattle.automaton.specs.declared.Arc.{Arc}
use Rattle.automaton.specs.Nfa.{Nfa, Realizes}
use Rattle.automaton.specs.Numbers.{Numbers, MoreThan}
use Rattle.build.specs.declared.Rows.{Rows}
use Rattle.build.specs.declared.Place.{Place}
use Rattle.build.specs.declared.Stop.{Stop}
use Rattle.build.specs.declared.Stop.TheVariants.{StatesFull, ArcsFull, Outside}
use Rattle.build.specs.Tables.{state_room, arc_room, at}

-- the automaton lies right behind the rows in use, and realizes n
pub record Built {S E L : Type 0} (a : Labels L) (n : Nfa S E L) (used : Rows) (states : List State) (arcs : List (Arc L)) (p : Place) : Type 0 where
  pub behind : p.first ≡ used
  pub states_fit : used.states + p.count.states ≤ state_room states
  pub arcs_fit : used.arcs + p.count.arcs ≤ arc_room arcs
  pub realizes : Realizes a n (at states arcs p)

-- how many states and arcs the abstract automaton has
pub record Sizes {S E L : Type 0} (n : Nfa S E L) (count : Rows) : Type 0 where
  pub state : ℕ → S
  pub states : Numbers n.State count.states state
  pub arrow : ℕ → E
  pub arcs : Numbers n.Arrow count.arcs arrow

-- the states do not fit
pub record NoStates {S E L : Type 0} (n : Nfa S E L) (used : Rows) (states : List State) : Type 0 where
  pub state : ℕ → S
  pub too_many : MoreThan n.State (state_room states - used.states) state

-- the states fit, and the arcs do not
pub record NoArcs {S E L : Type 0} (n : Nfa S E L) (used : Rows) (states : List State) (arcs : List (Arc L)) : Type 0 where
  pub count : ℕ
  pub state : ℕ → S
  pub counted : Numbers n.State count state
  pub states_fit : used.states + count ≤ state_room states
  pub arrow : ℕ → E
  pub too_many : MoreThan n.Arrow (arc_room arcs - used.arcs) arrow

-- what each answer to a build of n says of the tables after it
abbrev pub Outcome : {S E L : Type 0} → Labels L → Nfa S E L → Rows → List State → List (Arc L) → Result Place Stop → Type 0
Outcome a n used states arcs (Ok p) = Built a n used states arcs p
Outcome a n used states arcs (Err StatesFull) = NoStates n used states
Outcome a n used states arcs (Err ArcsFull) = NoArcs n used states arcs
Outcome a n used states arcs (Err Outside) = ⊥

-- a build whose operands do not stand is refused; of any other the answer is its outcome
abbrev pub Answer : {S E L : Type 0} → Type 0 → Labels L → Nfa S E L → Rows → List State → List (Arc L) → Result Place Stop → Type 0
Answer Ready a n used states arcs r = (Ready × Outcome a n used states arcs r) ⊎ ((Ready → ⊥) × (r ≡ Err Outside))

-- what is said of an automaton that was built
abbrev pub Meant : Result Place Stop → (Place → Type 0) → Type 0
Meant (Ok p) P = P p
Meant (Err e) P = Unit {0}
