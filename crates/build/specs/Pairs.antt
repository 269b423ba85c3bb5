-- The pairs of states that lie in built rows.
use Rattle.std.specs.Prelude.{◌≡◌, ℕ, ◌<◌, true, ◌&&◌, List, [], ◌∷◌, ◌++◌, map, length, Ok, Err, Result, slice_index_or}
use Rattle.std.specs.List.{ContainsAt as Has, AllByRecursion}
use Rattle.alphabet.specs.Labels.{Labels}
use Rattle.automaton.specs.declared.Marks.{Marks}
use Rattle.automaton.specs.declared.State.{State}
use Rattle.automaton.specs.declared.Arc.{Arc}
use Rattle.automaton.specs.Automaton.{Automaton, initial, arc_at, unmarked}
use Rattle.automaton.specs.Nfa.{Nfa, Meets, rows, product}
use Rattle.automaton.specs.Numbers.{MoreThan}
use Rattle.build.specs.declared.Operands.{Operands}
use Rattle.build.specs.declared.tail.Full.{Full}
use Rattle.build.specs.declared.tail.Tail.{Tail}
use Rattle.build.specs.Tables.{at, InUse, Stands}
use Rattle.build.specs.Tails.{written, room}

abbrev pub Pair : Type 0
Pair = ℕ × ℕ

-- no element stands twice
abbrev pub Distinct : {X : Type 0} → List X → Type 0
Distinct [] = Unit {0}
Distinct (x ∷ xs) = (Has xs x → ⊥) × Distinct xs

abbrev pub pair_of : State → Pair
pair_of s = (s.left, s.right)

-- the pairs of built rows
abbrev pub pairs : List State → List Pair
pairs rows = map pair_of rows

abbrev pub left_of : {L : Type 0} → Operands → List State → List (Arc L) → Automaton L
left_of job states arcs = at states arcs job.left

abbrev pub right_of : {L : Type 0} → Operands → List State → List (Arc L) → Automaton L
right_of job states arcs = at states arcs job.right

abbrev pub products : {L : Type 0} → Labels L → Automaton L → Automaton L → Nfa Pair Pair L
products a m k = product a (rows a m) (rows a k)

-- the product of the two operands
abbrev pub product_of : {L : Type 0} → Labels L → Operands → List State → List (Arc L) → Nfa Pair Pair L
product_of a job states arcs = products a (left_of job states arcs) (right_of job states arcs)

-- the rows in use lie in the tables, and both operands stand among them
pub record Ready {L : Type 0} (job : Operands) (states : List State) (arcs : List (Arc L)) : Type 0 where
  pub in_use : InUse states arcs job.used
  pub left : Stands states arcs job.used job.left
  pub right : Stands states arcs job.used job.right

-- a pair of states has the marks that both have
abbrev pub both : Marks → Marks → Marks
both s t = record { initial = s.initial && t.initial; accepting = s.accepting && t.accepting }

-- the row of a pair
abbrev pub row_of : {L : Type 0} → Automaton L → Automaton L → ℕ → ℕ → State
row_of m k p q = record { marks = both (slice_index_or m.states p unmarked) (slice_index_or k.states q unmarked); left = p; right = q }

-- rows are built for pairs that are reachable, no two the same
pub record Sofar {L : Type 0} (a : Labels L) (m k : Automaton L) (rows : List State) : Type 0 where
  pub reached : AllByRecursion (products a m k).State (pairs rows)
  pub once : Distinct (pairs rows)
  pub marked : AllByRecursion (λ s. s ≡ row_of m k s.left s.right) rows

-- rows were added behind those that were built
pub record Grown (before after : List State) : Type 0 where
  pub added : List State
  pub more : after ≡ before ++ added

-- rows were added until what is asked of the pairs holds, or there are more reachable pairs than room
abbrev pub Extended : {L : Type 0} → Labels L → Automaton L → Automaton L → Tail State → Tail State → (List Pair → Type 0) → Result (Unit {0}) Full → Type 0
Extended a m k before after P (Ok u) = Sofar a m k (written after) × Grown (written before) (written after) × P (pairs (written after))
Extended a m k before after P (Err e) = (f : ℕ → Pair) × MoreThan (products a m k).State (room after) f

-- the pairs of p with an initial state of the second are there
abbrev pub BegunAt : {L : Type 0} → Automaton L → ℕ → List Pair → Type 0
BegunAt k p ps = (q : ℕ) → q < length k.states → initial k q ≡ true → Has ps (p, q)

-- the pairs of initial states are there
abbrev pub Begun : {L : Type 0} → Automaton L → Automaton L → List Pair → Type 0
Begun m k ps = (p : ℕ) → p < length m.states → initial m p ≡ true → BegunAt k p ps

-- the pairs that the arc b of the first reaches, with arcs from q whose labels meet its label, are there
abbrev pub ClosedAlong : {L : Type 0} → Labels L → Automaton L → Arc L → ℕ → List Pair → Type 0
ClosedAlong a k b q ps = (y : ℕ) → y < length k.arcs → (arc_at a k y).from ≡ q → Meets a b.label (arc_at a k y).label → Has ps (b.to, (arc_at a k y).to)

-- the pairs that the arc x reaches, with arcs from q whose labels meet its label, are there
abbrev pub ClosedBy : {L : Type 0} → Labels L → Automaton L → Automaton L → ℕ → ℕ → List Pair → Type 0
ClosedBy a m k x q ps = (y : ℕ) → y < length k.arcs → (arc_at a k y).from ≡ q → Meets a (arc_at a m x).label (arc_at a k y).label → Has ps ((arc_at a m x).to, (arc_at a k y).to)

-- the pairs that pairs of arcs reach from (p, q) are there
abbrev pub ClosedAt : {L : Type 0} → Labels L → Automaton L → Automaton L → Pair → List Pair → Type 0
ClosedAt a m k x ps = (e : ℕ) → e < length m.arcs → (arc_at a m e).from ≡ x.0 → ClosedBy a m k e x.1 ps

-- nothing leads out of the pairs
abbrev pub Closed : {L : Type 0} → Labels L → Automaton L → Automaton L → List Pair → Type 0
Closed a m k ps = AllByRecursion (λ x. ClosedAt a m k x ps) ps
