-- The builds of a part, in the tables.
use Rattle.std.specs.Prelude.{◌≡◌, ℕ, ◌+◌, ◌≤◌, List, ◌++◌, Ok, Err, Result}
use Rattle.std.specs.List.{ContainsAt as Has}
use Rattle.alphabet.specs.Labels.{Labels}
use Rattle.automaton.specs.declared.Arc.{Arc}
use Rattle.automaton.specs.declared.State.{State}
use Rattle.automaton.specs.Automaton.{Automaton}
use Rattle.build.specs.declared.Rows.{Rows}
use Rattle.build.specs.declared.Stop.{Stop}
use Rattle.build.specs.declared.Stop.TheVariants.{StatesFull, ArcsFull, Outside}
use Rattle.build.specs.Tables.{state_room, arc_room, at, InUse, Stands, Kept}
use Rattle.sheet.specs.declared.Held.{Held}
use Rattle.automaton.specs.Nfa.{Nfa}
use Rattle.build.specs.declared.Place.{Place}
use Rattle.build.specs.Outcome.{Built}
use Rattle.solve.specs.declared.tables.Halt.{Halt}
use Rattle.solve.specs.declared.tables.Halt.TheVariants.{Full, Empty}
use Rattle.verdict.specs.declared.Table.{Table}
use Rattle.verdict.specs.declared.Table.TheVariants.{States, Arcs, Words}
use Rattle.verdict.specs.Course.{Operand, Ending, final, full, empty, Passes, Meets, Builds}

-- the rows that count
abbrev pub room : {L : Type 0} → List State → List (Arc L) → Rows
room states arcs = record { states = state_room states; arcs = arc_room arcs }

-- the rows in use, and the running result among them
pub record Work : Type 0 where
  pub used : Rows
  pub running : Place

-- why builds end early, with the rows in use then: a build passes a table, or has no accepting state
pub data Break : Type 0 where
  full_at : Table → Rows → Break
  empty_at : Rows → Break

abbrev pub break_of : Rows → Halt → Break
break_of used (Full t) = full_at t used
break_of used Empty = empty_at used

-- what the code answers, with the rows in use then
abbrev pub with_rows : Rows → Result Place Halt → Result Work Break
with_rows used (Ok p) = Ok (record { used = used; running = p })
with_rows used (Err x) = Err (break_of used x)

-- the running result stands among the rows in use
pub record Works {L : Type 0} (states : List State) (arcs : List (Arc L)) (w : Work) : Type 0 where
  pub in_use : InUse states arcs w.used
  pub stands : Stands states arcs w.used w.running

-- the table that a build passes; one that cannot be made passes no table of rows
abbrev pub passed : Stop → Table
passed StatesFull = States
passed ArcsFull = Arcs
passed Outside = Words

abbrev pub halted : {L : Type 0} → Break → Ending L
halted (full_at t used) = full t used
halted (empty_at used) = empty used

-- from a running result the operands lead to another, or end the builds
abbrev pub Leads : {L : Type 0} → Labels L → Rows → List (Operand L) → Automaton L → Rows → List State → List (Arc L) → Result Work Break → Type 0
Leads {L} a room os m used states arcs (Ok w) = (rest : List (Operand L)) (e : Ending L) → Meets a room rest (at states arcs w.running) w.used e → Meets a room (os ++ rest) m used e
Leads {L} a room os m used states arcs (Err h) = (rest : List (Operand L)) → Meets a room (os ++ rest) m used (halted h)

-- the rows in use grew
pub record Grown {L : Type 0} (states : List State) (arcs : List (Arc L)) (before : Rows) (w : Work) : Type 0 where
  pub works : Works states arcs w
  pub more_states : before.states ≤ w.used.states
  pub more_arcs : before.arcs ≤ w.used.arcs

-- rows that lay before the running result still do
abbrev pub Behind : Work → Work → Type 0
Behind w v = (n : ℕ) → n ≤ w.running.first.states → n ≤ w.used.states → n ≤ v.running.first.states

abbrev pub OkThen : Result Work Break → (Work → Type 0) → Type 0
OkThen (Ok w) P = P w
OkThen (Err h) P = Unit {0}

-- what the builds for some operands do
pub record Went {L : Type 0} (a : Labels L) (os : List (Operand L)) (w : Work) (states : List State) (arcs : List (Arc L)) (states' : List State) (arcs' : List (Arc L)) (r : Result Work Break) : Type 0 where
  pub leads : Leads a (room states arcs) os (at states arcs w.running) w.used states' arcs' r
  pub grown : OkThen r (Grown states' arcs' w.used)
  pub behind : OkThen r (Behind w)
  pub states_kept : Kept w.used.states states states'
  pub arcs_kept : Kept w.used.arcs arcs arcs'

-- automata that stand among the rows in use
abbrev pub AllStand : {L : Type 0} → List State → List (Arc L) → Rows → List Held → Type 0
AllStand states arcs used hs = (h : Held) → Has hs h → Stands states arcs used h.place

abbrev pub ended : {L : Type 0} → List State → List (Arc L) → Result Work Break → Ending L
ended states arcs (Ok w) = final (at states arcs w.running) w.used
ended states arcs (Err h) = halted h

-- what the builds of a part do
pub record PartBuilt {L : Type 0} (a : Labels L) (os : List (Operand L)) (used : Rows) (states : List State) (arcs : List (Arc L)) (states' : List State) (arcs' : List (Arc L)) (r : Result Work Break) : Type 0 where
  pub builds : Builds a (room states arcs) os used (ended states' arcs' r)
  pub grown : OkThen r (Grown states' arcs' used)
  pub behind : OkThen r (λ w. used.states ≤ w.running.first.states)
  pub states_kept : Kept used.states states states'
  pub arcs_kept : Kept used.arcs arcs arcs'

-- a build of n was made behind the rows in use, and its rows are in use now; or it passes a table
pub record Added {S E L : Type 0} (a : Labels L) (n : Nfa S E L) (used : Rows) (states' : List State) (arcs' : List (Arc L)) (used' : Rows) (p : Place) : Type 0 where
  pub built : Built a n used states' arcs' p
  pub states : used'.states ≡ p.first.states + p.count.states
  pub arcs : used'.arcs ≡ p.first.arcs + p.count.arcs

abbrev pub AddedOr : {S E L : Type 0} → Labels L → Nfa S E L → Rows → Rows → List State → List (Arc L) → Rows → Result Place Table → Type 0
AddedOr a n room used states' arcs' used' (Ok p) = Added a n used states' arcs' used' p
AddedOr a n room used states' arcs' used' (Err t) = Passes n room used t × (used' ≡ used)

pub record Adds {S E L : Type 0} (a : Labels L) (n : Nfa S E L) (states : List State) (arcs : List (Arc L)) (used : Rows) (states' : List State) (arcs' : List (Arc L)) (used' : Rows) (r : Result Place Table) : Type 0 where
  pub answers : AddedOr a n (room states arcs) used states' arcs' used' r
  pub states_kept : Kept used.states states states'
  pub arcs_kept : Kept used.arcs arcs arcs'
