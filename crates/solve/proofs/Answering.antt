-- What each way out of solving promises.
use Rattle.std.proofs.Common.{◌≡◌, ℕ, ◌+◌, ◌-◌, ◌<◌, ◌≤◌, ◌↔◌, List, [], ◌++◌, map, length, get_or, take, drop, Ok, Err, Result, sym, refl, ap, ◌∙◌, subst, inl, inr, arith}
use Rattle.std.specs.List.{ContainsAt as Has}
use Rattle.std.proofs.ByRecursion.{has_get_or}
use Rattle.std.proofs.lemmas.List.{length-map, get_or-map, drop-drop}
use Rattle.std.proofs.Math.Seq.{take-add}
use Rattle.alphabet.specs.Labels.{Labels, Lawful}
use Rattle.automaton.specs.declared.Arc.{Arc}
use Rattle.automaton.specs.declared.State.{State}
use Rattle.automaton.specs.Automaton.{Automaton, Word, Accepts, Inside}
use Rattle.build.specs.declared.Place.{Place}
use Rattle.build.specs.declared.Rows.{Rows}
use Rattle.build.specs.Concats.{InTurn}
use Rattle.build.specs.Tables.{part, at, Stands, Kept}
use Rattle.build.proofs.Keeping.{kept_none, kept_more}
use Rattle.sheet.specs.declared.Held.{Held}
use Rattle.sheet.specs.declared.Join.{Join}
use Rattle.sheet.specs.declared.Refusal.{Refusal}
use Rattle.sheet.specs.Calls.{View, number}
use Rattle.sheet.specs.Checks.{FirstFails}
use Rattle.sheet.specs.Joins.{Known}
use Rattle.sheet.specs.Patterns.{ForParts, Whole, nowhere}
use Rattle.verdict.specs.declared.Solved.{Solved}
use Rattle.verdict.specs.declared.Table.TheVariants.{States, Arcs, Words}
use Rattle.verdict.specs.declared.Verdict.{Verdict}
use Rattle.verdict.specs.declared.Verdict.TheVariants.{OutOfRoom, Impossible, Unknown, Possible}
use Rattle.verdict.specs.Course.{Done, Course, result_of, complete}
use Rattle.verdict.specs.Meaning.{CoursesExact, Unsatisfiable}
use Rattle.verdict.specs.Problem.{Problem, Pattern, Satisfies, read, problem}
use Rattle.verdict.specs.Verdicts.{SingleUse, roots_below, bound, bounds_below, totals, Given}
use Rattle.verdict.proofs.Exactness.{courses_exact, no_word_none, complete_all}
use Rattle.verdict.proofs.Living.{courses_worded}
use Rattle.verdict.proofs.Unique.{given_unique}
use Rattle.words.specs.Words.{Renumbered}
use Rattle.words.proofs.Renumbering.{at_renumbered, length-renumbered, stands_renumbered}
use Rattle.solve.specs.declared.Row.{Row}
use Rattle.solve.specs.declared.tables.Halt.{Halt}
use Rattle.solve.specs.declared.tables.Halt.TheVariants.{Full, Empty}
use Rattle.solve.specs.Builds.{break_of, room}
use Rattle.solve.specs.Finishing.{Completed, Stopped, outcome_of, stop_verdict}
use Rattle.solve.specs.Judging.{Ready, Filled, Judges}
use Rattle.solve.specs.Parts.{dones}
use Rattle.solve.specs.Report.{row, place_of, word_at, automaton_of}
use Rattle.solve.specs.Roots.{bound_in}
use Rattle.solve.specs.Solving.{solve_checks, SolveAnswer, OnlyAnswer, Told, LeavesAll, Reported, WhenPossible, WhenUnknown, WhenImpossible, Leaves, Reports, RowAllows, ReportsExactly, placed, Lays, NoWords, Decided}
use Rattle.solve.proofs.Coursing.{among_finished}
use Rattle.solve.proofs.Finds.{found_place}
use Rattle.solve.proofs.Going.{states_at}
use Rattle.solve.proofs.Judged.{in_turn_same, worded_renumbered, listed_place}
use Rattle.solve.proofs.Operands.{result_at, stands_found}
use Rattle.solve.proofs.Uses.{roots_same}

-- everything that is promised with a verdict
pub record Answered {L : Type 0} (a : Labels L) (v : View) (states : List State) (arcs : List (Arc L)) (states' : List State) (arcs' : List (Arc L)) (report report' : List Row) (words words' : List ℕ) (x : Solved) : Type 0 where
  pub given : Given a (room states arcs) (length words) (problem v states arcs) x
  pub states_kept : Kept v.held.states states states'
  pub arcs_kept : Kept v.held.arcs arcs arcs'
  pub leaves : Leaves v.parts report report' words words' x.verdict
  pub reports : Reported x.verdict (Reports a v states arcs states' arcs' report')
  pub exactly : Reported x.verdict (ReportsExactly a (problem v states arcs) states' arcs' report')
  pub impossible : WhenImpossible x.verdict (Unsatisfiable a (problem v states arcs))
  pub satisfies : WhenPossible x.verdict (Satisfies a (problem v states arcs) (placed report' words'))
  pub lays : WhenPossible x.verdict (Lays (problem v states arcs) report' words words')
  pub no_words : WhenUnknown x.verdict (NoWords v.parts report')
  pub decided : SingleUse v.joins → Decided a (problem v states arcs) x.verdict

-- what is held, read from the tables
pub held_read : {L : Type 0} (states : List State) (arcs : List (Arc L)) (hs : List Held) (P : Pattern L → Type 0) → ((h : Held) → Has hs h → P (read states arcs h)) → (x : Pattern L) → Has (map (read states arcs) hs) x → P x
held_read states arcs hs P all x has =
    let low : has.0 < length hs = omega (arith, has.1, length-map hs (read states arcs)) in
    subst P (sym (get_or-map (read states arcs) hs has.0 nowhere x low) ∙ has.2 x) (all (get_or hs has.0 nowhere) (has_get_or hs has.0 nowhere low))

-- a word in two pieces
pub word_pieces : (words : List ℕ) (f m n : ℕ) → part words f (m + n) ≡ part words f m ++ part words (f + m) n
word_pieces words f m n = take-add m n (drop f words) ∙ ap (λ l. part words f m ++ take n l) (drop-drop m f words)

-- the builds ended early
module _ {L : Type 0} (a : Labels L) (laws : Lawful a) (v : View) (states : List State) (arcs : List (Arc L)) (states' : List State) (arcs' : List (Arc L)) (report : List Row) (words : List ℕ) where
  stopped_at : (p : ℕ) (halt : Halt) (used : Rows) (ds : List (Done L)) → Course a (room states arcs) (problem v states arcs) [] v.held (outcome_of p (break_of used halt) ds) → Kept v.held.states states states' → Kept v.held.arcs arcs arcs' →
      Answered a v states arcs states' arcs' report report words words (record { verdict = stop_verdict p halt; totals = totals v.held used })
  stopped_at p (Full t) used ds course ks ka = record {
    given = record { outcome = _; course = course; judged = refl };
    states_kept = ks;
    arcs_kept = ka;
    leaves = (refl, refl);
    reports = tt;
    exactly = tt;
    impossible = tt;
    satisfies = tt;
    lays = tt;
    no_words = tt;
    decided = λ _. tt;
  }
  stopped_at p Empty used ds course ks ka = record {
    given = record { outcome = _; course = course; judged = refl };
    states_kept = ks;
    arcs_kept = ka;
    leaves = (refl, refl);
    reports = tt;
    exactly = tt;
    impossible = no_word_none a laws (room states arcs) (problem v states arcs) course;
    satisfies = tt;
    lays = tt;
    no_words = tt;
    decided = λ _ sat. no_word_none a laws (room states arcs) (problem v states arcs) course sat.0 sat.1;
  }

  pub stopped_answered : (used : Rows) (x : Verdict) → Stopped a v states arcs states' arcs' used x → Answered a v states arcs states' arcs' report report words words (record { verdict = x; totals = totals v.held used })
  stopped_answered used x h = subst (λ y. Answered a v states arcs states' arcs' report report words words (record { verdict = y; totals = totals v.held used })) (sym h.names) (stopped_at h.part h.halt used h.finished h.course h.states_kept h.arcs_kept)

-- the automata of reported rows accept exactly what is allowed
module _ {L : Type 0} (a : Labels L) (laws : Lawful a) (v : View) (known : Known v.parts v.joins) (states : List State) (arcs : List (Arc L)) (states' : List State) (arcs' : List (Arc L)) (report' : List Row) (r : Reports a v states arcs states' arcs' report') where
  in_turn : (j : Join) → Has v.joins j → (w : Word) → InTurn a.admits (result_of r.finished j.left) (result_of r.finished j.right) w ↔ InTurn a.admits (automaton_of states' arcs' report' j.left) (automaton_of states' arcs' report' j.right) w
  in_turn j has w =
      let l = r.results j.left (known j has).1 in
      let k = r.results j.right (known j has).2 in
      (in_turn_same w l k, in_turn_same w (sym l) (sym k))

  pub exactly_reported : ReportsExactly a (problem v states arcs) states' arcs' report'
  exactly_reported p low w =
      let exact = courses_exact a laws (room states arcs) (problem v states arcs) (complete r.finished r.used) r.course p (complete_all r.course p low) w in
      let is = r.results p low in (
        λ accepts. let al = exact.0 (subst (λ m. Accepts a.admits m w) is accepts) in record { letters = al.letters; patterns = al.patterns; joins = λ j has whole. (in_turn j has w).0 (al.joins j has whole) },
        λ al. subst (λ m. Accepts a.admits m w) (sym is) (exact.1 (record { letters = al.letters; patterns = al.patterns; joins = λ j has whole. (in_turn j has w).1 (al.joins j has whole) })),
      )

-- all parts are finished
module _ {L : Type 0} (a : Labels L) (laws : Lawful a) (v : View) (known : Known v.parts v.joins) (for_parts : ForParts v.parts v.patterns) (states₀ : List State) (arcs₀ : List (Arc L)) (states : List State) (arcs : List (Arc L)) (hs : List Held) (used : Rows) (h : Completed a v states₀ arcs₀ states arcs hs used) where
  abbrev s : Problem L
  s = problem v states₀ arcs₀

  abbrev ds : List (Done L)
  ds = dones states arcs hs

  stands_of : (p : ℕ) → p < v.parts → Stands states arcs used (place_of hs p)
  stands_of p low = stands_found states arcs hs p used h.built.stand (h.all p low)

  behind_of : (p : ℕ) → p < v.parts → v.held.states ≤ (place_of hs p).first.states
  behind_of p low = found_place hs p (λ place. v.held.states ≤ place.first.states) h.built.behind (h.all p low)

  -- what the judge needs to know
  pub ready : Ready a.admits states arcs used v.parts v.joins hs
  ready = record {
    in_use = h.built.in_use;
    stands = stands_of;
    worded = λ p low.
        let w = courses_worded a laws (room states₀ arcs₀) s (complete ds used) h.course p (among_finished states arcs hs p (h.all p low)) in
        (w.0, subst (λ m. Accepts a.admits m w.0) (result_at states arcs hs p) w.1);
    splits = λ j has w accepts.
        let low = known j has in
        let exact = courses_exact a laws (room states₀ arcs₀) s (complete ds used) h.course j.whole (among_finished states arcs hs j.whole (h.all j.whole low.0)) w in
        in_turn_same w (sym (result_at states arcs hs j.left)) (sym (result_at states arcs hs j.right))
        ((exact.0 (subst (λ m. Accepts a.admits m w) (sym (result_at states arcs hs j.whole)) accepts)).joins j has refl);
  }

  bound_same : (p : ℕ) → p < v.parts → bound ds p ≡ bound_in hs p
  bound_same p low =
      let st = stands_of p low in
      ap (λ (m : Automaton L). length m.states - 1) (result_at states arcs hs p) ∙ ap (λ n. n - 1) (states_at states arcs (place_of hs p) (omega (arith, st.lies.states, h.built.in_use.states_fit)))

  bounds_same : (p : ℕ) → p ≤ v.parts → bounds_below s ds p ≡ roots_below v.joins (bound_in hs) p
  bounds_same p le = roots_same v.joins (bound ds) (bound_in hs) p (λ q low. bound_same q (omega arith))

  -- rows that name the final results
  reported : (states' : List State) (report' : List Row) → Renumbered 0 states states' → ((p : ℕ) → p < v.parts → (row report' p).automaton ≡ place_of hs p) → Reports a v states₀ arcs₀ states' arcs report'
  reported states' report' again place = record {
    finished = ds;
    used = used;
    course = h.course;
    results = λ p low. at_renumbered 0 states states' arcs again (row report' p).automaton ∙ ap (at states arcs) (place p low) ∙ sym (result_at states arcs hs p);
    there = λ p low. stands_renumbered 0 states states' arcs again used (row report' p).automaton (subst (Stands states arcs used) (sym (place p low)) (stands_of p low));
  }

  module _ (states' : List State) (report report' : List Row) (words words' : List ℕ) where
    -- the words that were placed
    module _ (f : Filled a v.parts v.joins hs states states' arcs report report' words words') where
      same_place : (p : ℕ) → p < v.parts → (row report' p).automaton ≡ place_of hs p
      same_place p low = f.placed.reworded.automata p ∙ listed_place f.lists p low

      again : Renumbered 0 states states'
      again = f.placed.renumbered 0 (λ p low. omega arith)

      filled_reports : Reports a v states₀ arcs₀ states' arcs report'
      filled_reports = reported states' report' again same_place

      filled_exactly : ReportsExactly a s states' arcs report'
      filled_exactly = exactly_reported a laws v known states₀ arcs₀ states' arcs report' filled_reports

      allowed : (p : ℕ) → p < v.parts → RowAllows a s states' arcs report' p (placed report' words' p)
      allowed p low = (filled_exactly p low (placed report' words' p)).0 ((worded_renumbered a.admits arcs report' words' p again).1 (f.placed.accepts p low))

      filled_satisfies : Satisfies a s (placed report' words')
      filled_satisfies = record {
        letters = λ p low. (allowed p low).letters;
        patterns = λ x has. (allowed x.part (held_read states₀ arcs₀ v.patterns (λ x. x.part < v.parts) for_parts x has)).patterns x has refl;
        joins = λ j has.
            let q = f.placed.pieces j has in
            let back = sym q.left_first in
            ap (part words' (row report' j.whole).word.first) q.together
            ∙ word_pieces words' (row report' j.whole).word.first (row report' j.left).word.len (row report' j.right).word.len
            ∙ (λ i. part words' (back i) (row report' j.left).word.len ++ part words' ((row report' j.whole).word.first + (row report' j.left).word.len) (row report' j.right).word.len)
            ∙ ap (λ n. word_at words' (row report' j.left).word ++ part words' n (row report' j.right).word.len) (omega (arith, q.right_after, q.left_first));
      }

      filled_kept : Kept v.held.states states₀ states'
      filled_kept =
          let still = f.placed.renumbered v.held.states (λ p low. omega (arith, behind_of p low, ap (λ (x : Place). x.first.states) (listed_place f.lists p low))) in
          kept_more v.held.states states₀ states states' h.built.states_kept (record { long = length-renumbered v.held.states states states' still; front = still.front })

    -- the verdict, with the report and the words
    pub judged_answered : (x : Verdict) → Judges a v.parts v.joins hs states states' arcs report report' words words' x → Answered a v states₀ arcs₀ states' arcs report report' words words' (record { verdict = x; totals = totals v.held used })
    judged_answered Unknown j =
        let same : Renumbered 0 states states' = record { marks = ap (map (λ (s : State). s.marks)) j.2; front = refl } in
        let place = listed_place j.1 in
        let reports = reported states' report' same place in
        record {
          given = record { outcome = complete ds used; course = h.course; judged = inl (j.0, refl) };
          states_kept = subst (Kept v.held.states states₀) (sym j.2) h.built.states_kept;
          arcs_kept = h.built.arcs_kept;
          leaves = (record { long = j.1.long; rest = j.1.rest }, j.3);
          reports = reports;
          exactly = exactly_reported a laws v known states₀ arcs₀ states' arcs report' reports;
          impossible = tt;
          satisfies = tt;
          lays = tt;
          no_words = λ p low. ap (λ r. r.word) (j.1.rows p low);
          decided = λ single. absurd (j.0 single);
        }
    judged_answered Possible j =
        let f = j.2 in
        let sat = filled_satisfies f in
        record {
          given = record { outcome = complete ds used; course = h.course; judged = inr (inl (j.0, omega (arith, j.1, bounds_same v.parts (omega arith)), refl)) };
          states_kept = filled_kept f;
          arcs_kept = h.built.arcs_kept;
          leaves = (record { long = f.placed.reworded.long ∙ f.lists.long; rest = f.placed.reworded.rest ∙ f.lists.rest }, f.placed.roots.long);
          reports = filled_reports f;
          exactly = filled_exactly f;
          impossible = tt;
          satisfies = sat;
          lays = record { roots = f.placed.roots; pieces = f.placed.pieces };
          no_words = tt;
          decided = λ _. (placed report' words', sat);
        }
    judged_answered (OutOfRoom Words p) j =
        let n = j.1 in
        record {
          given = record {
            outcome = complete ds used;
            course = h.course;
            judged = inr (inr (
              j.0,
              (
                p,
                record {
                  part = n.part;
                  root = n.root;
                  before = omega (arith, n.before, bounds_same p (omega (arith, n.part)));
                  passes = omega (arith, n.passes, bounds_same p (omega (arith, n.part)), bound_same p n.part);
                },
                refl,
              ),
            ));
          };
          states_kept = subst (Kept v.held.states states₀) (sym j.2) h.built.states_kept;
          arcs_kept = h.built.arcs_kept;
          leaves = (j.3, j.4);
          reports = tt;
          exactly = tt;
          impossible = tt;
          satisfies = tt;
          lays = tt;
          no_words = tt;
          decided = λ _. tt;
        }
    judged_answered (OutOfRoom States p) j = absurd j
    judged_answered (OutOfRoom Arcs p) j = absurd j
    judged_answered (Impossible p) j = absurd j

-- the rules give no other verdict
pub only : {L : Type 0} (a : Labels L) (v : View) (states : List State) (arcs : List (Arc L)) (words : ℕ) (x : Solved) → Whole v.patterns v.held states arcs → Given a (room states arcs) words (problem v states arcs) x → (y : Solved) → Given a (room states arcs) words (problem v states arcs) y → y ≡ x
only a v states arcs words x whole g y g' = given_unique a (room states arcs) words (problem v states arcs) (held_read states arcs v.patterns (λ x. Inside x.automaton) whole.inside) g' g

-- all that solving promises
abbrev pub Promised : {L : Type 0} → Labels L → View → List State → List (Arc L) → List State → List (Arc L) → List Row → List Row → List ℕ → List ℕ → Result Solved Refusal → Type 0
Promised a v states arcs states' arcs' report report' words words' r = record {
  answers : SolveAnswer a v states arcs (length report) (length words) r;
  only_answer : OnlyAnswer a v states arcs (length words) r;
  keeps_held_states : Kept v.held.states states states';
  keeps_held_arcs : Kept v.held.arcs arcs arcs';
  leaves : LeavesAll v.parts states states' arcs arcs' report report' words words' r;
  reports : Told r (λ x. Reported x (Reports a v states arcs states' arcs' report'));
  reports_exactly : Told r (λ x. Reported x (ReportsExactly a (problem v states arcs) states' arcs' report'));
  courses_are_exact : CoursesExact a (room states arcs) (problem v states arcs);
  impossible_means_no_words : Told r (λ x. WhenImpossible x (Unsatisfiable a (problem v states arcs)));
  possible_words_satisfy : Told r (λ x. WhenPossible x (Satisfies a (problem v states arcs) (placed report' words')));
  lays_words : Told r (λ x. WhenPossible x (Lays (problem v states arcs) report' words words'));
  unknown_leaves_word_fields_empty : Told r (λ x. WhenUnknown x (NoWords v.parts report'));
  decides_single_use : Told r (λ x. SingleUse v.joins → Decided a (problem v states arcs) x);
}

module _ {L : Type 0} (a : Labels L) (laws : Lawful a) (v : View) (states : List State) (arcs : List (Arc L)) (report : List Row) (words : List ℕ) where
  -- a check fails
  pub refused : (e : Refusal) → FirstFails (solve_checks v states arcs (length report)) (number e) → Promised a v states arcs states arcs report report words words (Err e)
  refused e fails = record {
    answers = fails;
    only_answer = tt;
    keeps_held_states = kept_none v.held.states states;
    keeps_held_arcs = kept_none v.held.arcs arcs;
    leaves = (refl, refl, refl, refl);
    reports = tt;
    reports_exactly = tt;
    courses_are_exact = courses_exact a laws (room states arcs) (problem v states arcs);
    impossible_means_no_words = tt;
    possible_words_satisfy = tt;
    lays_words = tt;
    unknown_leaves_word_fields_empty = tt;
    decides_single_use = tt;
  }

  -- the checks hold, and there is a verdict
  pub promised : {states' : List State} {arcs' : List (Arc L)} {report' : List Row} {words' : List ℕ} {x : Solved} → Whole v.patterns v.held states arcs → v.parts ≤ length report →
      Answered a v states arcs states' arcs' report report' words words' x → Promised a v states arcs states' arcs' report report' words words' (Ok x)
  promised {x = x} whole fits done = record {
    answers = ((whole, (fits, tt)), done.given);
    only_answer = only a v states arcs (length words) x whole done.given;
    keeps_held_states = done.states_kept;
    keeps_held_arcs = done.arcs_kept;
    leaves = done.leaves;
    reports = done.reports;
    reports_exactly = done.exactly;
    courses_are_exact = courses_exact a laws (room states arcs) (problem v states arcs);
    impossible_means_no_words = done.impossible;
    possible_words_satisfy = done.satisfies;
    lays_words = done.lays;
    unknown_leaves_word_fields_empty = done.no_words;
    decides_single_use = done.decided;
  }
