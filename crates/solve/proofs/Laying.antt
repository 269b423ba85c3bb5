-- Laying the words of the roots one behind another.
use Rattle.std.proofs.Common.{◌≡◌, ℕ, ◌+◌, ◌-◌, ◌<◌, ◌≤◌, List, length, drop, set, sym, ap, ◌∙◌, subst, arith}
use Rattle.std.proofs.lemmas.List.{get_or-set_same, get_or-set_other}
use borrow.Author.Count.{below_more}
use Rattle.alphabet.specs.Labels.{Set}
use Rattle.automaton.specs.declared.Arc.{Arc}
use Rattle.automaton.specs.declared.State.{State}
use Rattle.automaton.specs.Automaton.{Automaton, Accepts}
use Rattle.build.specs.declared.Place.{Place}
use Rattle.build.specs.Tables.{part, at}
use Rattle.build.proofs.Keeping.{part_kept}
use Rattle.sheet.specs.declared.Join.{Join}
use Rattle.verdict.specs.Verdicts.{Root, roots_below}
use Rattle.words.specs.Words.{Renumbered}
use Rattle.words.proofs.Renumbering.{renumbered_more, renumbered_less, at_renumbered}
use Rattle.solve.specs.declared.Row.{Row}
use Rattle.solve.specs.Report.{blank, row, word_len, word_at, automaton_of, Reworded, RootsLaid, Worded, with_word}
use Rattle.solve.specs.Roots.{Found}
use Rattle.solve.proofs.Placing.{reworded_set, reworded_more}
use Rattle.solve.proofs.Rows.{drop_same_later, reworded_later}
use Rattle.solve.proofs.Uses.{roots_root, roots_other, roots_same, roots_less, roots_before}

-- the words of the roots below p are laid, and end where the next begins
pub record Laying {L : Type 0} (admits : L → Set) (js : List Join) (parts : ℕ) (arcs : List (Arc L)) (p : ℕ)
    (states₀ states : List State) (report₀ report : List Row) (words₀ words : List ℕ) (end : ℕ) : Type 0 where
  pub renumbered : (n : ℕ) → ((q : ℕ) → q < parts → n ≤ (row report₀ q).automaton.first.states) → Renumbered n states₀ states
  pub reworded : Reworded p report₀ report
  pub laid : RootsLaid js p report words₀ words
  pub ends : end ≡ roots_below js (word_len report) p
  pub accepts : (q : ℕ) → q < p → Root js q → Worded admits states₀ arcs report words q

module _ {L : Type 0} {admits : L → Set} {js : List Join} {parts : ℕ} {arcs : List (Arc L)} {p : ℕ}
    {states₀ states : List State} {report₀ report : List Row} {words₀ words : List ℕ} {end : ℕ}
    (h : Laying admits js parts arcs p states₀ states report₀ report words₀ words end) where
  -- the bounds of the roots before suffice
  pub laying_low : end ≤ roots_below js (λ q. (row report₀ q).automaton.count.states - 1) p
  laying_low =
      let less : (q : ℕ) → q < p → Root js q → word_len report q ≤ (row report₀ q).automaton.count.states - 1 =
      λ q low root. omega (arith, h.laid.short q low root, ap (λ (a : Place). a.count.states) (h.reworded.automata q)) in
      omega (arith, h.ends, roots_less js (word_len report) (λ q. (row report₀ q).automaton.count.states - 1) p less)

  -- there is room for the next word
  pub laying_room : p < parts → Root js p → roots_below js (λ q. (row report₀ q).automaton.count.states - 1) parts ≤ length words₀ → end + (row report p).automaton.count.states ≤ length words + 1
  laying_room low root room =
      let f : ℕ → ℕ = λ q. (row report₀ q).automaton.count.states - 1 in
      let before = roots_before js f p parts low root in
      omega (arith, laying_low, before, ap (λ (a : Place). a.count.states) (h.reworded.automata p), h.laid.long)

  pub laying_same : Renumbered 0 states₀ states
  laying_same = h.renumbered 0 (λ q low. omega arith)

  pub laying_is : {states' : List State} {report' : List Row} {words' : List ℕ} {end' : ℕ} → states' ≡ states → report' ≡ report → words' ≡ words → end' ≡ end →
      Laying admits js parts arcs p states₀ states' report₀ report' words₀ words' end'
  laying_is {states'} {report'} {words'} {end'} is-states is-report is-words is-end =
      subst (λ (s : List State). Laying admits js parts arcs p states₀ s report₀ report' words₀ words' end') (sym is-states)
      (subst (λ (r : List Row). Laying admits js parts arcs p states₀ states report₀ r words₀ words' end') (sym is-report)
      (subst (λ (ws : List ℕ). Laying admits js parts arcs p states₀ states report₀ report words₀ ws end') (sym is-words)
      (subst (λ (e : ℕ). Laying admits js parts arcs p states₀ states report₀ report words₀ words e) (sym is-end) h)))

  -- a part that is no root gets no word
  pub laying_other : (Root js p → ⊥) → Laying admits js parts arcs (p + 1) states₀ states report₀ report words₀ words end
  laying_other other =
      let same = roots_other js (word_len report) p other in
      let before = below_more (λ q. Root js q → q < p) p (λ q low _. low) (λ root. absurd (other root)) in
      record {
        renumbered = h.renumbered;
        reworded = reworded_later h.reworded;
        laid = record {
          first = λ q low root. h.laid.first q (before q low root) root;
          short = λ q low root. h.laid.short q (before q low root) root;
          long = h.laid.long;
          within = omega (arith, same, h.laid.within);
          rest = subst (λ (k : ℕ). drop k words ≡ drop k words₀) (sym same) h.laid.rest;
        };
        ends = h.ends ∙ sym same;
        accepts = λ q low root. h.accepts q (before q low root) root;
      }

  module _ {n : ℕ} {states' : List State} {words' : List ℕ} (root : Root js p) (low : p < parts) (there : p < length report)
      (renumbers : Renumbered (row report p).automaton.first.states states states')
      (found : Found admits (automaton_of states arcs report p) (row report p).automaton.count.states end n words words') where
    abbrev row' : Row
    row' = with_word (row report p) end n

    abbrev report' : List Row
    report' = set report p row'

    here : row report' p ≡ row'
    here = get_or-set_same report p row' blank there

    elsewhere : (q : ℕ) → (q ≡ p → ⊥) → row report' q ≡ row report q
    elsewhere q other = get_or-set_other report p q row' blank other

    -- what is laid before is as it was
    before : (q : ℕ) → q ≤ p → roots_below js (word_len report') q ≡ roots_below js (word_len report) q
    before q low = roots_same js (word_len report') (word_len report) q (λ r less. ap (λ (x : Row). x.word.len) (elsewhere r (λ is. omega arith)))

    total : roots_below js (word_len report') (p + 1) ≡ end + n
    total = omega (arith, roots_root js (word_len report') p root, before p (omega arith), ap (λ (x : Row). x.word.len) here, h.ends)

    -- what holds of the parts below, and of the part
    upto : (P : ℕ → Type 0) → ((q : ℕ) → q < p → Root js q → P q) → P p → (q : ℕ) → q < p + 1 → Root js q → P q
    upto P below this = below_more (λ q. Root js q → P q) p below (λ _. this)

    -- the words before are kept
    accepts_before : (q : ℕ) → q < p → Root js q → Worded admits states₀ arcs report' words' q
    accepts_before q less is =
        let s = (row report q).word in
        let ends_low : s.first + s.len ≤ end = omega (arith, h.ends, h.laid.first q less is, roots_before js (word_len report) q p less is) in
        subst (λ (r : Row). Accepts admits (at states₀ arcs r.automaton) (word_at words' r.word)) (sym (elsewhere q (λ same. omega arith)))
        (subst (Accepts admits (automaton_of states₀ arcs report q)) (sym (part_kept end words words' s.first s.len (record { long = found.wrote.long; front = found.wrote.front }) ends_low)) (h.accepts q less is))

    accepts_here : Worded admits states₀ arcs report' words' p
    accepts_here =
        subst (λ (r : Row). Accepts admits (at states₀ arcs r.automaton) (word_at words' r.word)) (sym here)
        (subst (λ (m : Automaton L). Accepts admits m (part words' end n)) (at_renumbered 0 states₀ states arcs laying_same (row report p).automaton) found.accepted)

    pub laying_root : Laying admits js parts arcs (p + 1) states₀ states' report₀ (set report p (with_word (row report p) end n)) words₀ words' (end + n)
    laying_root =
        record {
          renumbered = λ m low-all.
              let first = (row report p).automaton.first.states in
              let under : m ≤ first = omega (arith, low-all p low, ap (λ (a : Place). a.first.states) (h.reworded.automata p)) in
              renumbered_more m states₀ states states' (h.renumbered m low-all) (renumbered_less first m states states' under renumbers);
          reworded = reworded_more (p + 1) report₀ report report' (reworded_later h.reworded) (reworded_set (p + 1) report p end n (omega arith) there);
          laid = record {
            first = upto (λ q. (row report' q).word.first ≡ roots_below js (word_len report') q)
                (λ q less is. ap (λ (x : Row). x.word.first) (elsewhere q (λ same. omega arith)) ∙ h.laid.first q less is ∙ sym (before q (omega arith)))
                (ap (λ (x : Row). x.word.first) here ∙ h.ends ∙ sym (before p (omega arith)));
            short = upto (λ q. word_len report' q < (row report' q).automaton.count.states)
                (λ q less is. subst (λ (x : Row). x.word.len < x.automaton.count.states) (sym (elsewhere q (λ same. omega arith))) (h.laid.short q less is))
                (subst (λ (x : Row). x.word.len < x.automaton.count.states) (sym here) found.short);
            long = found.wrote.long ∙ h.laid.long;
            within = omega (arith, total, found.fits, h.laid.long);
            rest = subst (λ (k : ℕ). drop k words' ≡ drop k words₀) (sym total)
                (found.wrote.back ∙ drop_same_later words words₀ end (end + n) (omega arith) (subst (λ (k : ℕ). drop k words ≡ drop k words₀) (sym h.ends) h.laid.rest));
          };
          ends = sym total;
          accepts = upto (λ q. Worded admits states₀ arcs report' words' q) accepts_before accepts_here;
        }
