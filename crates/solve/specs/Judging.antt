-- What is done when all parts are finished.
use Rattle.std.specs.Prelude.{◌≡◌, ℕ, ◌+◌, ◌<◌, ◌≤◌, List, length}
use Rattle.std.specs.List.{ContainsAt as Has}
use Rattle.alphabet.specs.Labels.{Labels, Set}
use Rattle.automaton.specs.declared.Arc.{Arc}
use Rattle.automaton.specs.declared.State.{State}
use Rattle.automaton.specs.Automaton.{Word, Accepts}
use Rattle.build.specs.declared.Rows.{Rows}
use Rattle.build.specs.Concats.{InTurn}
use Rattle.build.specs.Tables.{at, InUse, Stands}
use Rattle.sheet.specs.declared.Held.{Held}
use Rattle.sheet.specs.declared.Join.{Join}
use Rattle.sheet.specs.Joins.{Acyclic, Known}
use Rattle.verdict.specs.declared.Table.TheVariants.{States, Arcs, Words}
use Rattle.verdict.specs.declared.Verdict.{Verdict}
use Rattle.verdict.specs.declared.Verdict.TheVariants.{OutOfRoom, Impossible, Unknown, Possible}
use Rattle.verdict.specs.Verdicts.{SingleUse, Root, roots_below}
use Rattle.words.specs.Words.{Renumbered}
use Rattle.solve.specs.declared.Row.{Row}
use Rattle.solve.specs.Report.{row, place_of, automaton_of, Listed, Reworded, Worded, RootsLaid, AllPieces}
use Rattle.solve.specs.Roots.{bound_in}

-- joins without a circle between so many parts
pub record Joined (parts : ℕ) (js : List Join) : Type 0 where
  pub few_parts : parts ≤ 64
  pub few_joins : length js ≤ 64
  pub known : Known parts js
  pub acyclic : Acyclic js

-- every part's automaton accepts some word, and every word that it accepts splits at each of its joins
pub record Sound {L : Type 0} (admits : L → Set) (states : List State) (arcs : List (Arc L)) (parts : ℕ) (js : List Join) (report : List Row) : Type 0 where
  pub worded : (p : ℕ) → p < parts → (w : Word) × Accepts admits (automaton_of states arcs report p) w
  pub splits : (j : Join) → Has js j → (w : Word) → Accepts admits (automaton_of states arcs report j.whole) w → InTurn admits (automaton_of states arcs report j.left) (automaton_of states arcs report j.right) w

-- words are placed for all parts
pub record Placed {L : Type 0} (a : Labels L) (parts : ℕ) (js : List Join) (states states' : List State) (arcs : List (Arc L)) (report report' : List Row) (words words' : List ℕ) : Type 0 where
  pub renumbered : (n : ℕ) → ((p : ℕ) → p < parts → n ≤ (row report p).automaton.first.states) → Renumbered n states states'
  pub reworded : Reworded parts report report'
  pub roots : RootsLaid js parts report' words words'
  pub pieces : AllPieces js report'
  pub accepts : (p : ℕ) → p < parts → Worded a.admits states arcs report' words' p

-- the final results of all parts
pub record Ready {L : Type 0} (admits : L → Set) (states : List State) (arcs : List (Arc L)) (used : Rows) (parts : ℕ) (js : List Join) (hs : List Held) : Type 0 where
  pub in_use : InUse states arcs used
  pub stands : (p : ℕ) → p < parts → Stands states arcs used (place_of hs p)
  pub worded : (p : ℕ) → p < parts → (w : Word) × Accepts admits (at states arcs (place_of hs p)) w
  pub splits : (j : Join) → Has js j → (w : Word) → Accepts admits (at states arcs (place_of hs j.whole)) w → InTurn admits (at states arcs (place_of hs j.left)) (at states arcs (place_of hs j.right)) w

pub record NotEnough (js : List Join) (parts : ℕ) (hs : List Held) (words p : ℕ) : Type 0 where
  pub part : p < parts
  pub root : Root js p
  pub before : roots_below js (bound_in hs) p ≤ words
  pub passes : words < roots_below js (bound_in hs) p + bound_in hs p

-- the rows are listed and words placed
pub record Filled {L : Type 0} (a : Labels L) (parts : ℕ) (js : List Join) (hs : List Held) (states states' : List State) (arcs : List (Arc L)) (report report' : List Row) (words words' : List ℕ) : Type 0 where
  pub listed : List Row
  pub lists : Listed hs parts report listed
  pub placed : Placed a parts js states states' arcs listed report' words words'

abbrev pub Judges : {L : Type 0} → Labels L → ℕ → List Join → List Held → List State → List State → List (Arc L) → List Row → List Row → List ℕ → List ℕ → Verdict → Type 0
Judges a parts js hs states states' arcs report report' words words' Unknown = (SingleUse js → ⊥) × Listed hs parts report report' × (states' ≡ states) × (words' ≡ words)
Judges a parts js hs states states' arcs report report' words words' Possible = SingleUse js × (roots_below js (bound_in hs) parts ≤ length words) × Filled a parts js hs states states' arcs report report' words words'
Judges a parts js hs states states' arcs report report' words words' (OutOfRoom Words p) = SingleUse js × NotEnough js parts hs (length words) p × (states' ≡ states) × (report' ≡ report) × (words' ≡ words)
Judges a parts js hs states states' arcs report report' words words' (OutOfRoom States p) = ⊥
Judges a parts js hs states states' arcs report report' words words' (OutOfRoom Arcs p) = ⊥
Judges a parts js hs states states' arcs report report' words words' (Impossible p) = ⊥
