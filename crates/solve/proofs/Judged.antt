-- Reports whose words change, over rows whose numbers change.
use Rattle.std.proofs.Common.{◌≡◌, ℕ, ◌-◌, ◌<◌, ◌≤◌, ◌↔◌, List, length, drop, sym, ap, ◌∙◌, subst, arith}
use Rattle.alphabet.specs.Labels.{Set}
use Rattle.automaton.specs.declared.Arc.{Arc}
use Rattle.automaton.specs.declared.State.{State}
use Rattle.automaton.specs.Automaton.{Automaton, Word, Accepts}
use Rattle.build.specs.declared.Rows.{Rows}
use Rattle.build.specs.Concats.{InTurn}
use Rattle.build.specs.Tables.{at, Stands}
use Rattle.sheet.specs.declared.Held.{Held}
use Rattle.sheet.specs.declared.Join.{Join}
use Rattle.sheet.specs.Joins.{Known}
use Rattle.verdict.specs.Verdicts.{Root, roots_below}
use Rattle.words.specs.Words.{Renumbered}
use Rattle.words.proofs.Renumbering.{at_renumbered, in_use_renumbered, stands_renumbered}
use Rattle.solve.specs.declared.Row.{Row}
use Rattle.solve.specs.Judging.{Sound, Ready}
use Rattle.solve.specs.Report.{row, place_of, word_at, word_len, automaton_of, Listed, Reworded, Standing, RootsLaid, Worded}
use Rattle.solve.specs.Roots.{bound_in}
use Rattle.solve.proofs.Uses.{roots_less, roots_same}

-- a word that splits in two for automata does for equal ones
pub in_turn_same : {L : Type 0} {admits : L → Set} {m m' n n' : Automaton L} (w : Word) → m' ≡ m → n' ≡ n → InTurn admits m n w → InTurn admits m' n' w
in_turn_same {admits = admits} w left right (u, v, is, first, second) = (u, v, is, subst (λ m. Accepts admits m u) (sym left) first, subst (λ m. Accepts admits m v) (sym right) second)

module _ {L : Type 0} {states states' : List State} {n : ℕ} {report report' : List Row} (reworded : Reworded n report report') (h : Renumbered 0 states states') where
  pub automaton_still : (arcs : List (Arc L)) (p : ℕ) → automaton_of states' arcs report' p ≡ automaton_of states arcs report p
  automaton_still arcs p = at_renumbered 0 states states' arcs h (row report' p).automaton ∙ ap (at states arcs) (reworded.automata p)

  pub standing_still : {arcs : List (Arc L)} {used : Rows} {parts : ℕ} → Standing states arcs used parts report → Standing states' arcs used parts report'
  standing_still {arcs} {used} s = record {
    in_use = in_use_renumbered 0 states states' arcs h used s.in_use;
    rows_there = omega (arith, s.rows_there, reworded.long);
    stands = λ p low. stands_renumbered 0 states states' arcs h used (row report' p).automaton (subst (Stands states arcs used) (sym (reworded.automata p)) (s.stands p low));
  }

  pub sound_still : {admits : L → Set} {arcs : List (Arc L)} {parts : ℕ} {js : List Join} → Sound admits states arcs parts js report → Sound admits states' arcs parts js report'
  sound_still {admits} {arcs} s = record {
    worded = λ p low. let w = s.worded p low in (w.0, subst (λ m. Accepts admits m w.0) (sym (automaton_still arcs p)) w.1);
    splits = λ j has w accepts. in_turn_same w (automaton_still arcs j.left) (automaton_still arcs j.right) (s.splits j has w (subst (λ m. Accepts admits m w) (automaton_still arcs j.whole) accepts));
  }

-- an automaton accepts the word of a part exactly if it did
pub worded_renumbered : {L : Type 0} {states states' : List State} (admits : L → Set) (arcs : List (Arc L)) (report : List Row) (words : List ℕ) (p : ℕ) → Renumbered 0 states states' → Worded admits states' arcs report words p ↔ Worded admits states arcs report words p
worded_renumbered {L} {states} {states'} admits arcs report words p h =
    let same = at_renumbered 0 states states' arcs h (row report p).automaton in
    let accepts = λ (m : Automaton L). Accepts admits m (word_at words (row report p).word) in
    (subst accepts same, subst accepts (sym same))

-- the words of the roots lie as they lay
pub laid_still : {js : List Join} {parts : ℕ} {report : List Row} {before after : List ℕ} (report' : List Row) → ((p : ℕ) → p < parts → Root js p → row report' p ≡ row report p) → RootsLaid js parts report before after → RootsLaid js parts report' before after
laid_still {js} {parts} {report} {before} {after} report' same laid =
    let sum : (p : ℕ) → p ≤ parts → roots_below js (word_len report') p ≡ roots_below js (word_len report) p = λ p le.
    omega (arith, roots_less js (word_len report') (word_len report) p (λ q low root. omega (arith, ap (λ r. r.word.len) (same q (omega arith) root))), roots_less js (word_len report) (word_len report') p (λ q low root. omega (arith, ap (λ r. r.word.len) (same q (omega arith) root)))) in
    record {
      first = λ p low root. ap (λ r. r.word.first) (same p low root) ∙ laid.first p low root ∙ sym (sum p (omega arith));
      short = λ p low root. subst (λ r. r.word.len < r.automaton.count.states) (sym (same p low root)) (laid.short p low root);
      long = laid.long;
      within = omega (arith, laid.within, sum parts (omega arith));
      rest = subst (λ n. drop n after ≡ drop n before) (sym (sum parts (omega arith))) laid.rest;
    }

-- rows that were listed stand for the final results
module _ {hs : List Held} {parts : ℕ} {report report' : List Row} (listed : Listed hs parts report report') where
  pub listed_place : (p : ℕ) → p < parts → (row report' p).automaton ≡ place_of hs p
  listed_place p low = ap (λ r. r.automaton) (listed.rows p low)

  pub listed_bounds : (js : List Join) (words : ℕ) → roots_below js (bound_in hs) parts ≤ words → roots_below js (λ p. (row report' p).automaton.count.states - 1) parts ≤ words
  listed_bounds js words fit = omega (arith, fit, roots_same js (λ p. (row report' p).automaton.count.states - 1) (bound_in hs) parts (λ q low. ap (λ pl. pl.count.states - 1) (listed_place q low)))

  module _ {L : Type 0} {admits : L → Set} {states : List State} {arcs : List (Arc L)} {used : Rows} {js : List Join} (r : Ready admits states arcs used parts js hs) where
    listed_automaton : (p : ℕ) → p < parts → automaton_of states arcs report' p ≡ at states arcs (place_of hs p)
    listed_automaton p low = ap (at states arcs) (listed_place p low)

    pub listed_standing : parts ≤ length report → Standing states arcs used parts report'
    listed_standing there = record {
      in_use = r.in_use;
      rows_there = omega (arith, listed.long);
      stands = λ p low. subst (Stands states arcs used) (sym (listed_place p low)) (r.stands p low);
    }

    pub listed_sound : Known parts js → Sound admits states arcs parts js report'
    listed_sound known = record {
      worded = λ p low. let w = r.worded p low in (w.0, subst (λ m. Accepts admits m w.0) (sym (listed_automaton p low)) w.1);
      splits = λ j has w accepts.
          let low = known j has in
          in_turn_same w (listed_automaton j.left low.1) (listed_automaton j.right low.2) (r.splits j has w (subst (λ m. Accepts admits m w) (listed_automaton j.whole low.0) accepts));
    }
