-- What the builds for a sheet leave.
use Rattle.std.specs.Prelude.{◌≡◌, ℕ, ◌<◌, ◌≤◌, List, [], Ok, Err, Result}
use Rattle.std.specs.List.{ContainsAt as Has}
use Rattle.alphabet.specs.Labels.{Labels}
use Rattle.automaton.specs.declared.Arc.{Arc}
use Rattle.automaton.specs.declared.State.{State}
use Rattle.build.specs.declared.Rows.{Rows}
use Rattle.build.specs.Tables.{InUse, Kept}
use Rattle.sheet.specs.declared.Held.{Held}
use Rattle.sheet.specs.Calls.{View}
use Rattle.verdict.specs.Course.{Done, Outcome, complete, no_room, no_word, Course}
use Rattle.verdict.specs.Problem.{problem}
use Rattle.arrayvec.specs.ArrayVec.{ArrayVec}
use Rattle.verdict.specs.declared.Verdict.{Verdict}
use Rattle.verdict.specs.declared.Verdict.TheVariants.{OutOfRoom, Impossible}
use Rattle.solve.specs.declared.tables.Halt.{Halt}
use Rattle.solve.specs.declared.tables.Halt.TheVariants.{Full, Empty}
use Rattle.solve.specs.Builds.{Break, full_at, empty_at, break_of, room, AllStand}
use Rattle.solve.specs.Parts.{Among, dones}

-- the finished parts have their final results among the rows in use, behind the held ones
pub record Built {L : Type 0} (v : View) (states₀ : List State) (arcs₀ : List (Arc L)) (states : List State) (arcs : List (Arc L)) (hs : List Held) (used : Rows) : Type 0 where
  pub in_use : InUse states arcs used
  pub more_states : v.held.states ≤ used.states
  pub more_arcs : v.held.arcs ≤ used.arcs
  pub stand : AllStand states arcs used hs
  pub behind : (h : Held) → Has hs h → v.held.states ≤ h.place.first.states
  pub states_kept : Kept v.held.states states₀ states
  pub arcs_kept : Kept v.held.arcs arcs₀ arcs

-- all parts are finished
pub record Completed {L : Type 0} (a : Labels L) (v : View) (states₀ : List State) (arcs₀ : List (Arc L)) (states : List State) (arcs : List (Arc L)) (hs : List Held) (used : Rows) : Type 0 where
  pub course : Course a (room states₀ arcs₀) (problem v states₀ arcs₀) [] v.held (complete (dones states arcs hs) used)
  pub built : Built v states₀ arcs₀ states arcs hs used
  pub all : (p : ℕ) → p < v.parts → Among hs p

abbrev pub outcome_of : {L : Type 0} → ℕ → Break → List (Done L) → Outcome L
outcome_of p (full_at t used) ds = no_room t p ds used
outcome_of p (empty_at used) ds = no_word p ds used

-- the verdict where the builds of a part end early
abbrev pub stop_verdict : ℕ → Halt → Verdict
stop_verdict p (Full t) = OutOfRoom t p
stop_verdict p Empty = Impossible p

-- the builds ended at a part
pub record Stopped {L : Type 0} (a : Labels L) (v : View) (states₀ : List State) (arcs₀ : List (Arc L)) (states : List State) (arcs : List (Arc L)) (used : Rows) (x : Verdict) : Type 0 where
  pub part : ℕ
  pub halt : Halt
  pub names : x ≡ stop_verdict part halt
  pub finished : List (Done L)
  pub course : Course a (room states₀ arcs₀) (problem v states₀ arcs₀) [] v.held (outcome_of part (break_of used halt) finished)
  pub states_kept : Kept v.held.states states₀ states
  pub arcs_kept : Kept v.held.arcs arcs₀ arcs

abbrev pub Ends : {L : Type 0} → Labels L → View → List State → List (Arc L) → List State → List (Arc L) → Rows → Result (ArrayVec Held) Verdict → Type 0
Ends a v states₀ arcs₀ states arcs used (Ok finished) = Completed a v states₀ arcs₀ states arcs finished.items used
Ends a v states₀ arcs₀ states arcs used (Err x) = Stopped a v states₀ arcs₀ states arcs used x
