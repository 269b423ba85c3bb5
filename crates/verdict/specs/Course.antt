-- What is built for a problem: part by part, build by build, until all parts are finished or a build ends it.
use Rattle.std.specs.Prelude.{◌≡◌, ℕ, ◌+◌, ◌-◌, ◌<◌, ◌≤◌, true, false, cond, List, [], ◌∷◌, ◌++◌, map, length, is_some, Some, None, filter, Option, ◌==◌, nat_eq}
use Rattle.std.specs.List.{ContainsAt as Has}
use Rattle.alphabet.specs.Labels.{Labels}
use Rattle.automaton.specs.Automaton.{Automaton, accepting}
use Rattle.automaton.specs.Nfa.{Nfa, Realizes, all_words}
use Rattle.automaton.specs.Numbers.{Numbers, MoreThan}
use Rattle.build.specs.declared.Rows.{Rows}
use Rattle.build.specs.Concats.{concats}
use Rattle.build.specs.Pairs.{products}
use Rattle.sheet.specs.declared.Join.{Join}
use Rattle.verdict.specs.declared.Table.{Table}
use Rattle.verdict.specs.declared.Table.TheVariants.{States, Arcs, Words}
use Rattle.verdict.specs.Problem.{Problem, Pattern}

-- the first thing that is kept for a part
abbrev pub find : {X : Type 0} → (X → ℕ) → List X → ℕ → Option X
find of [] p = None
find of (x ∷ xs) p = cond (of x == p) (Some x) (find of xs p)

-- a finished part, and its final result
pub record Done (L : Type 0) : Type 0 where
  pub part : ℕ
  pub result : Automaton L

abbrev pub Finished : {L : Type 0} → List (Done L) → ℕ → Type 0
Finished ds p = is_some (find (λ d. d.part) ds p) ≡ true

abbrev pub result_or : {L : Type 0} → Option (Done L) → Automaton L
result_or None = record { states = []; arcs = [] }
result_or (Some d) = d.result

-- the final result of a finished part
abbrev pub result_of : {L : Type 0} → List (Done L) → ℕ → Automaton L
result_of ds p = result_or (find (λ d. d.part) ds p)

-- not finished yet, and all its right-hand parts are
pub record Due {L : Type 0} (s : Problem L) (ds : List (Done L)) (p : ℕ) : Type 0 where
  pub part : p < s.parts
  pub unfinished : Finished ds p → ⊥
  pub right_hand : (j : Join) → Has s.joins j → j.whole ≡ p → Finished ds j.left × Finished ds j.right

-- the lowest-numbered such part is the next
pub record Next {L : Type 0} (s : Problem L) (ds : List (Done L)) (p : ℕ) : Type 0 where
  pub due : Due s ds p
  pub lowest : (q : ℕ) → Due s ds q → p ≤ q

-- what a running result is met with: the automaton of a pattern, or the concatenation of two final results
pub data Operand (L : Type 0) : Type 0 where
  pattern : Automaton L → Operand L
  join : Automaton L → Automaton L → Operand L

-- the operands of a part: its patterns, then its joins
abbrev pub pattern_operands : {L : Type 0} → List (Pattern L) → ℕ → List (Operand L)
pattern_operands hs p = map (λ h. pattern h.automaton) (filter (λ h. nat_eq h.part p) hs)

abbrev pub join_operands : {L : Type 0} → List (Done L) → List Join → ℕ → List (Operand L)
join_operands ds js p = map (λ j. join (result_of ds j.left) (result_of ds j.right)) (filter (λ j. nat_eq j.whole p) js)

abbrev pub operands : {L : Type 0} → Problem L → List (Done L) → ℕ → List (Operand L)
operands s ds p = pattern_operands s.patterns p ++ join_operands ds s.joins p

-- the rows in use with those of one more build
abbrev pub plus : {L : Type 0} → Rows → Automaton L → Rows
plus used m = record { states = used.states + length m.states; arcs = used.arcs + length m.arcs }

pub record Fits (room used : Rows) : Type 0 where
  pub states : used.states ≤ room.states
  pub arcs : used.arcs ≤ room.arcs

-- a build has more states than are left, or its states fit and it has more arcs than are left
pub record StatesPass {S E L : Type 0} (n : Nfa S E L) (room used : Rows) : Type 0 where
  pub state : ℕ → S
  pub too_many : MoreThan n.State (room.states - used.states) state

pub record ArcsPass {S E L : Type 0} (n : Nfa S E L) (room used : Rows) : Type 0 where
  pub count : ℕ
  pub state : ℕ → S
  pub counted : Numbers n.State count state
  pub states_fit : used.states + count ≤ room.states
  pub arrow : ℕ → E
  pub too_many : MoreThan n.Arrow (room.arcs - used.arcs) arrow

-- a build passes a table: states are named if it passes both
abbrev pub Passes : {S E L : Type 0} → Nfa S E L → Rows → Rows → Table → Type 0
Passes n room used States = StatesPass n room used
Passes n room used Arcs = ArcsPass n room used
Passes n room used Words = ⊥

-- a build in the room that is left: its states and arcs, each once, in whatever order
pub record Makes {S E L : Type 0} (a : Labels L) (n : Nfa S E L) (room used : Rows) (m : Automaton L) : Type 0 where
  pub realizes : Realizes a n m
  pub fits : Fits room (plus used m)

-- some state accepts, or none does
abbrev pub Alive : {L : Type 0} → Automaton L → Type 0
Alive m = (q : ℕ) × (accepting m q ≡ true)

abbrev pub Dead : {L : Type 0} → Automaton L → Type 0
Dead m = (q : ℕ) → accepting m q ≡ false

-- how the builds of a part end: with its final result, at a table that does not suffice, or with no word left;
-- each with the rows in use then
pub data Ending (L : Type 0) : Type 0 where
  final : Automaton L → Rows → Ending L
  full : Table → Rows → Ending L
  empty : Rows → Ending L

-- from a running result on, the operands that are left lead to the ending
pub data Meets {L : Type 0} (a : Labels L) (room : Rows) : List (Operand L) → Automaton L → Rows → Ending L → Type 0 where
  all_met : {m : Automaton L} {used : Rows} → Meets a room [] m used (final m used)
  product_passes : {k m : Automaton L} {os : List (Operand L)} {used : Rows} {t : Table} → Passes (products a m k) room used t → Meets a room (pattern k ∷ os) m used (full t used)
  product_dead : {k m n : Automaton L} {os : List (Operand L)} {used : Rows} → Makes a (products a m k) room used n → Dead n → Meets a room (pattern k ∷ os) m used (empty (plus used n))
  product_met : {k m n : Automaton L} {os : List (Operand L)} {used : Rows} {e : Ending L} → Makes a (products a m k) room used n → Alive n → Meets a room os n (plus used n) e → Meets a room (pattern k ∷ os) m used e
  concat_passes : {y z m : Automaton L} {os : List (Operand L)} {used : Rows} {t : Table} → Passes (concats a y z) room used t → Meets a room (join y z ∷ os) m used (full t used)
  concat_built : {y z m n : Automaton L} {os : List (Operand L)} {used : Rows} {e : Ending L} → Makes a (concats a y z) room used n → Meets a room (pattern n ∷ os) m (plus used n) e → Meets a room (join y z ∷ os) m used e

-- a part begins with all words, and is met with its operands
pub data Builds {L : Type 0} (a : Labels L) (room : Rows) (os : List (Operand L)) (used : Rows) : Ending L → Type 0 where
  all_pass : {t : Table} → Passes (all_words a) room used t → Builds a room os used (full t used)
  all_built : {m : Automaton L} {e : Ending L} → Makes a (all_words a) room used m → Meets a room os m (plus used m) e → Builds a room os used e

-- how it all ends: with every part finished, at a table that does not suffice for a part, or with no word left for a part;
-- each with the parts that are finished, and the rows in use then
pub data Outcome (L : Type 0) : Type 0 where
  complete : List (Done L) → Rows → Outcome L
  no_room : Table → ℕ → List (Done L) → Rows → Outcome L
  no_word : ℕ → List (Done L) → Rows → Outcome L

abbrev pub finished_in : {L : Type 0} → Outcome L → List (Done L)
finished_in (complete ds used) = ds
finished_in (no_room t p ds used) = ds
finished_in (no_word p ds used) = ds

-- from the parts that are finished on, the course leads to the outcome
pub data Course {L : Type 0} (a : Labels L) (room : Rows) (s : Problem L) : List (Done L) → Rows → Outcome L → Type 0 where
  ends : {ds : List (Done L)} {used : Rows} → ((p : ℕ) → p < s.parts → Finished ds p) → Course a room s ds used (complete ds used)
  finishes : {ds : List (Done L)} {used used' : Rows} {p : ℕ} {m : Automaton L} {o : Outcome L} → Next s ds p → Builds a room (operands s ds p) used (final m used') → Course a room s (ds ++ record { part = p; result = m } ∷ []) used' o → Course a room s ds used o
  stops : {ds : List (Done L)} {used used' : Rows} {p : ℕ} {t : Table} → Next s ds p → Builds a room (operands s ds p) used (full t used') → Course a room s ds used (no_room t p ds used')
  empties : {ds : List (Done L)} {used used' : Rows} {p : ℕ} → Next s ds p → Builds a room (operands s ds p) used (empty used') → Course a room s ds used (no_word p ds used')
