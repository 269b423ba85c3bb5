-- The concatenation of two automata in built rows: the states of the first, then those of the second.
use Rattle.std.specs.Prelude.{◌≡◌, ℕ, ◌+◌, ◌-◌, ◌*◌, Bool, true, false, cond, ◌&&◌, ◌⊎◌, List, ◌++◌, map, length, count_by, filter, flat_map, nat_lt}
use Rattle.std.specs.List.{range_with_len, list_any}
use Rattle.std.proofs.Common.{inl, inr}
use Rattle.alphabet.specs.Labels.{Labels, Set}
use Rattle.automaton.specs.declared.Arc.{Arc}
use Rattle.automaton.specs.declared.Marks.{Marks}
use Rattle.automaton.specs.declared.State.{State}
use Rattle.automaton.specs.Automaton.{Automaton, Accepts, Word, initial, accepting, unmarked, plain}
use Rattle.automaton.specs.Nfa.{Nfa, concat, rows}
use Rattle.build.specs.declared.Operands.{Operands}
use Rattle.build.specs.declared.Rows.{Rows}
use Rattle.build.specs.Pairs.{Pair, both, left_of, right_of}

-- a state of the first or of the second
abbrev pub Side : Type 0
Side = ℕ ⊎ ℕ

-- an arc of the first, an arc of the second, or an arc of the first led on to a state of the second
abbrev pub Link : Type 0
Link = ℕ ⊎ (ℕ ⊎ Pair)

abbrev pub concats : {L : Type 0} → Labels L → Automaton L → Automaton L → Nfa Side Link L
concats a m k = concat (rows a m) (rows a k)

abbrev pub concat_of : {L : Type 0} → Labels L → Operands → List State → List (Arc L) → Nfa Side Link L
concat_of a job states arcs = concats a (left_of job states arcs) (right_of job states arcs)

-- the words that split into one of the first and one of the second, in order
abbrev pub InTurn : {L : Type 0} → (L → Set) → Automaton L → Automaton L → Word → Type 0
InTurn admits m k w = (u : Word) × (v : Word) × (w ≡ u ++ v) × Accepts admits m u × Accepts admits k v

-- how many arcs enter an accepting state, and how many states are initial
abbrev pub entering : {L : Type 0} → Automaton L → ℕ
entering m = count_by (λ b. accepting m b.to) m.arcs

abbrev pub initials : {L : Type 0} → Automaton L → ℕ
initials m = count_by (λ s. s.initial) m.states

-- both, and one arc more for each arc into an accepting state and each initial state
pub record ConcatSizes {L : Type 0} (m k : Automaton L) (count : Rows) : Type 0 where
  pub states : count.states ≡ length m.states + length k.states
  pub arcs : count.arcs ≡ length m.arcs + length k.arcs + entering m * initials k

-- the state at a place, where the first has n states
abbrev pub side_of : ℕ → ℕ → Side
side_of n i = cond (nat_lt i n) (inl i) (inr (i - n))

abbrev pub blank : State
blank = record { marks = unmarked; left = 0; right = 0 }

-- the first loses its accepting marks; the second keeps its initial ones if the first accepts the empty word
abbrev pub first_marks : Marks → Marks
first_marks s = record { initial = s.initial; accepting = false }

abbrev pub second_marks : Bool → Marks → Marks
second_marks nullable s = record { initial = nullable && s.initial; accepting = s.accepting }

-- some state is both initial and accepting
abbrev pub nullable : {L : Type 0} → Automaton L → Bool
nullable m = list_any (λ s. s.initial && s.accepting) m.states

-- a row with the marks that the state and others both have
abbrev pub kept_row : Marks → Marks → State
kept_row keep s = plain (both keep s)

-- an arc whose ends lie n states further on
abbrev pub moved : {L : Type 0} → ℕ → Arc L → Arc L
moved n b = record { from = n + b.from; label = b.label; to = n + b.to }

-- the states from n on that stand for the initial ones
abbrev pub begun : {L : Type 0} → Automaton L → List ℕ
begun k = filter (initial k) (range_with_len 0 (length k.states))

-- an arc led on to each of some states, which are counted from n
abbrev pub led_to : {L : Type 0} → ℕ → List ℕ → Arc L → List (Arc L)
led_to n qs b = map (λ q. record { from = b.from; label = b.label; to = n + q }) qs

-- the arcs of the first into accepting states, led on to the initial states of the second
abbrev pub led_on : {L : Type 0} → Automaton L → Automaton L → List (Arc L)
led_on m k = flat_map (led_to (length m.states) (begun k)) (filter (λ b. accepting m b.to) m.arcs)

-- the rows of the concatenation
abbrev pub state_rows : {L : Type 0} → Automaton L → Automaton L → List State
state_rows m k = map (kept_row (record { initial = true; accepting = false })) m.states ++ map (kept_row (record { initial = nullable m; accepting = true })) k.states

abbrev pub arc_rows : {L : Type 0} → Automaton L → Automaton L → List (Arc L)
arc_rows m k = m.arcs ++ (map (moved (length m.states)) k.arcs ++ led_on m k)
