-- Arc rows that were built, with the arcs of an abstract automaton that they stand for.
use Rattle.std.specs.Prelude.{◌≡◌, ℕ, ◌<◌, ◌≤◌, ◌⊎◌, List, length, take, drop, Ok, Err, Result, slice_index_or}
use Rattle.std.specs.List.{ContainsAt as Has, AllByRecursion}
use Rattle.alphabet.specs.Labels.{Labels}
use Rattle.automaton.specs.declared.State.{State}
use Rattle.automaton.specs.declared.Arc.{Arc}
use Rattle.automaton.specs.Automaton.{Automaton, of_rows}
use Rattle.automaton.specs.Nfa.{Nfa, Realizes}
use Rattle.automaton.specs.Numbers.{Numbers, MoreThan}
use Rattle.build.specs.declared.Rows.{Rows}
use Rattle.build.specs.declared.Stop.{Stop}
use Rattle.build.specs.declared.Stop.TheVariants.{StatesFull, ArcsFull, Outside}
use Rattle.build.specs.declared.tail.Full.{Full}
use Rattle.build.specs.declared.tail.Tail.{Tail}
use Rattle.build.specs.Pairs.{Pair, Distinct, pairs, products}
use Rattle.build.specs.Tails.{written, room}

-- the row leads from state to state as the arrow e does, on the same label, where states below n have names
pub record StandsFor {S X L : Type 0} (nfa : Nfa S X L) (name : ℕ → S) (n : ℕ) (b : Arc L) (e : X) : Type 0 where
  pub from_state : b.from < n
  pub to_state : b.to < n
  pub from_is : name b.from ≡ nfa.from e
  pub to_is : name b.to ≡ nfa.to e
  pub label_is : b.label ≡ nfa.label e

-- each row stands for one arrow, no two for the same
pub record Emitted {S X L : Type 0} (nfa : Nfa S X L) (name : ℕ → S) (n : ℕ) (rows : List (Arc L)) (sources : List X) : Type 0 where
  pub long : length rows ≡ length sources
  pub stands : (k : ℕ) (d : Arc L) (x : X) → k < length sources → StandsFor nfa name n (slice_index_or rows k d) (slice_index_or sources k x)
  pub arrows : AllByRecursion nfa.Arrow sources
  pub once : Distinct sources

-- rows are written for arrows, for those that were looked at
pub record Written {S X L : Type 0} (nfa : Nfa S X L) (name : ℕ → S) (n : ℕ) (rows : List (Arc L)) (Looked : X → Type 0) : Type 0 where
  pub sources : List X
  pub emitted : Emitted nfa name n rows sources
  pub looked : (z : X) → Has sources z → Looked z
  pub complete : (z : X) → nfa.Arrow z → Looked z → Has sources z

-- rows were written for what was looked at, or there are more arrows than room
abbrev pub Wrote : {S X L : Type 0} → Nfa S X L → (ℕ → S) → ℕ → Tail (Arc L) → (X → Type 0) → Result (Unit {0}) Full → Type 0
Wrote nfa name n after Looked (Ok u) = Written nfa name n (written after) Looked
Wrote {X = X} nfa name n after Looked (Err e) = (f : ℕ → X) × MoreThan nfa.Arrow (room after) f

-- in the order of two loops: left arcs below x with all right arcs, and x with the right arcs below y
abbrev pub Before : ℕ → ℕ → Pair → Type 0
Before x y z = (z.0 < x) ⊎ ((z.0 ≡ x) × (z.1 < y))

-- the pair of a built state
abbrev pub name_of : List State → ℕ → Pair
name_of rows i = slice_index_or (pairs rows) i (0, 0)

-- the reachable pairs are numbered by built rows
abbrev pub Paired : {L : Type 0} → Labels L → Automaton L → Automaton L → List State → Type 0
Paired a m k rows = Numbers (products a m k).State (length rows) (name_of rows)

-- the arcs of a product: what was written for the pairs of arcs before x and y, and what comes of writing on
abbrev pub PairsWritten : {L : Type 0} → Labels L → Automaton L → Automaton L → List State → Tail (Arc L) → ℕ → ℕ → Type 0
PairsWritten a m k rows out x y = Written (products a m k) (name_of rows) (length rows) (written out) (Before x y)

abbrev pub PairsWrote : {L : Type 0} → Labels L → Automaton L → Automaton L → List State → Tail (Arc L) → ℕ → ℕ → Result (Unit {0}) Full → Type 0
PairsWrote a m k rows out x y r = Wrote (products a m k) (name_of rows) (length rows) out (Before x y) r

-- the free rows after a build: so many of the first realize n, or there are too few
abbrev pub Fits : {S E L : Type 0} → Labels L → Nfa S E L → List State → List (Arc L) → Result Rows Stop → Type 0
Fits a n states arcs (Ok count) = (count.states ≤ length states) × (count.arcs ≤ length arcs) × Realizes a n (of_rows (take count.states states) (take count.arcs arcs))
Fits {S} a n states arcs (Err StatesFull) = (f : ℕ → S) × MoreThan n.State (length states) f
Fits {S} {E} a n states arcs (Err ArcsFull) = ((count : ℕ) × (name : ℕ → S) × (count ≤ length states) × Numbers n.State count name) × ((f : ℕ → E) × MoreThan n.Arrow (length arcs) f)
Fits a n states arcs (Err Outside) = ⊥

-- a build in tables all of whose rows count: its rows stand behind the rows in use, or its operands do not stand
abbrev pub FitsBehind : {S E L : Type 0} → Type 0 → Labels L → Nfa S E L → Rows → List State → List (Arc L) → Result Rows Stop → Type 0
FitsBehind Ready a n used states arcs r = (Ready × Fits a n (drop used.states states) (drop used.arcs arcs) r) ⊎ ((Ready → ⊥) × (r ≡ Err Outside))
