-- The course of a problem, computed. Beside what is built stands a test; where it is true, the course is one by the rules.
use Rattle.std.proofs.Common.{◌≡◌, ℕ, ◌+◌, ◌-◌, ◌<◌, ◌≤◌, Bool, true, false, cond, not, ◌&&◌, eqb, ltb, leb, List, [], ◌∷◌, ◌++◌, length, get_or, is_some, ⊎_elim, arith}
use Rattle.std.specs.List.{ContainsAt as Has}
use Rattle.std.proofs.ByRecursion.{all-has, All-from_get_or, has_get_or}
use Rattle.std.proofs.lemmas.Bool.{and_parts, and_from, both_ways, cases_Bool, cases_lt, cond_both, eq-eqb, eqb-true, false≢true, leb-true, ltb-true, not-true, not_from_false}
use Rattle.alphabet.specs.Labels.{Labels}
use Rattle.automaton.specs.Automaton.{Automaton, accepting, of_rows}
use Rattle.automaton.specs.Nfa.{Nfa, Realizes, all_words}
use Rattle.automaton.proofs.Realizing.{accepting_below}
use Rattle.build.specs.declared.Rows.{Rows}
use Rattle.build.specs.Concats.{concats}
use Rattle.build.specs.Pairs.{products}
use Rattle.build.proofs.Covering.{open_state, loop_arc, covers}
use Rattle.sheet.specs.declared.Join.{Join}
use Rattle.sheet.specs.Joins.{none}
use Rattle.verdict.specs.declared.Table.{Table}
use Rattle.verdict.specs.declared.Table.TheVariants.{States, Arcs}
use Rattle.verdict.specs.Course.{find, Done, Due, Next, Operand, pattern, join, operands, plus, StatesPass, ArcsPass, Passes, Makes, Alive, Dead, Ending, final, full, empty, Meets, all_met, product_passes, product_dead, product_met, concat_passes, concat_built, Builds, all_pass, all_built, Outcome, complete, no_room, no_word, Course, ends, finishes, stops, empties}
use Rattle.verdict.specs.Problem.{Problem}
use Rattle.verdict.specs.declared.Solved.{Solved}
use Rattle.verdict.specs.Verdicts.{Judged, Given}
use Rattle.bench.proofs.Concats.{same_side, sides_of, links_of, side_marks, sides_right, links_right, concat_shown}
use Rattle.bench.proofs.Finite.{implies, implied, implies_from, every, every_all, all_every, below, below_all, some_below, decides_some, same_pair}
use Rattle.bench.proofs.Products.{explore, pairs_of, arrows_of, pair_marks, states_right, arrows_right, product_shown}
use Rattle.bench.proofs.Realized.{numbered}

module _ {L : Type 0} (a : Labels L) (room : Rows) where
  -- a test, and how the builds of a part end
  abbrev pub Ran : Type 0
  Ran = Bool × Ending L

  -- what comes after a build that fits, or the table that it passes
  unfoldable pub settle : Bool → Automaton L → Rows → (Rows → Ran) → Ran
  settle right n used next =
      cond right
      (cond (leb (used.states + length n.states) room.states)
      (cond (leb (used.arcs + length n.arcs) room.arcs) (next (plus used n)) (ltb (room.arcs - used.arcs) (length n.arcs), full Arcs used))
      (ltb (room.states - used.states) (length n.states), full States used))
      (false, full States used)

  module _ {S E : Type 0} (nfa : Nfa S E L) (n : Automaton L) (used : Rows) (real : Realizes a nfa n) where
    states_pass : room.states - used.states < length n.states → StatesPass nfa room used
    states_pass more = record {
      state = real.name;
      too_many = record { each = λ i low. real.states.each i (omega arith); once = λ i j low high e. real.states.once i j (omega arith) (omega arith) e };
    }

    arcs_pass : used.states + length n.states ≤ room.states → room.arcs - used.arcs < length n.arcs → ArcsPass nfa room used
    arcs_pass fits more = record {
      count = length n.states;
      state = real.name;
      counted = real.states;
      states_fit = fits;
      arrow = real.arrow;
      too_many = record { each = λ i low. real.arcs.each i (omega arith); once = λ i j low high e. real.arcs.once i j (omega arith) (omega arith) e };
    }

  -- where the test is true, what was said of the ending holds
  abbrev Shows : (Ending L → Type 0) → Ran → Type 0
  Shows P r = r.0 ≡ true → P r.1

  settled : {S E : Type 0} (nfa : Nfa S E L) (n : Automaton L) (used : Rows) (right : Bool) (next : Rows → Ran) (P : Ending L → Type 0) → (right ≡ true → Realizes a nfa n) → ((t : Table) → Passes nfa room used t → P (full t used)) → (Makes a nfa room used n → Shows P (next (plus used n))) → Shows P (settle right n used next)
  unfolding settle
  settled nfa n used right next P shown passes made = cond_both right _ _ (Shows P)
      (λ yes'.
      let real = shown yes' in
      cond_both (leb (used.states + length n.states) room.states) _ _ (Shows P)
      (λ fit.
      let fits = leb-true _ _ fit in
      cond_both (leb (used.arcs + length n.arcs) room.arcs) _ _ (Shows P)
      (λ fit'. made (record { realizes = real; fits = record { states = fits; arcs = leb-true _ _ fit' } }))
      (λ _ more. passes Arcs (arcs_pass nfa n used real fits (ltb-true _ _ more))))
      (λ _ more. passes States (states_pass nfa n used real (ltb-true _ _ more))))
      (λ _ h. absurd (false≢true h))

  abbrev living : Automaton L → Bool
  living n = some_below (λ q. accepting n q) (length n.states)

  alive : (n : Automaton L) → living n ≡ true → Alive n
  alive n h = let there = (decides_some (λ q. accepting n q) (length n.states)).0 h in (there.0, there.2)

  dead : (n : Automaton L) → living n ≡ false → Dead n
  dead n h q = ⊎_elim (λ yes'. absurd (both_ways (living n) h ((decides_some (λ i. accepting n i) (length n.states)).1 (q, accepting_below n q yes', yes')))) (λ not'. not') (cases_Bool (accepting n q))

  -- a product
  unfoldable pub product_of : Automaton L → Automaton L → Automaton L
  product_of m k = numbered (products a m k) same_pair (pair_marks a m k) (pairs_of a m k) (arrows_of a m k (pairs_of a m k))

  unfoldable pub product_right : Automaton L → Automaton L → Bool
  product_right m k = states_right a m k (pairs_of a m k) && arrows_right a m k (pairs_of a m k) (arrows_of a m k (pairs_of a m k))

  product_realized : (m k : Automaton L) → product_right m k ≡ true → Realizes a (products a m k) (product_of m k)
  unfolding product_right product_of
  product_realized m k h =
      let both = and_parts (states_right a m k (pairs_of a m k)) (arrows_right a m k (pairs_of a m k) (arrows_of a m k (pairs_of a m k))) h in
      product_shown a m k (pairs_of a m k) (arrows_of a m k (pairs_of a m k)) both.0 both.1

  unfoldable pub product_step : Automaton L → Automaton L → Rows → (Automaton L → Rows → Ran) → Ran
  product_step m k used next = let n = product_of m k in settle (product_right m k) n used (λ used'. cond (living n) (next n used') (true, empty used'))

  product_steps : (os : List (Operand L)) (m k : Automaton L) (used : Rows) (next : Automaton L → Rows → Ran) → ((n : Automaton L) (used' : Rows) → Shows (Meets a room os n used') (next n used')) → Shows (Meets a room (pattern k ∷ os) m used) (product_step m k used next)
  unfolding product_step
  product_steps os m k used next rest =
      let n = product_of m k in
      settled (products a m k) n used (product_right m k) (λ used'. cond (living n) (next n used') (true, empty used')) (Meets a room (pattern k ∷ os) m used) (product_realized m k) (λ t passes. product_passes passes)
      (λ made.
      cond_both (living n) (next n (plus used n)) (true, empty (plus used n)) (Shows (Meets a room (pattern k ∷ os) m used))
      (λ lives h. product_met made (alive n lives) (rest n (plus used n) h))
      (λ dies h. product_dead made (dead n dies)))

  -- a concatenation
  unfoldable pub concat_of : Automaton L → Automaton L → Automaton L
  concat_of y z = numbered (concats a y z) same_side (side_marks a y z) (sides_of a y z) (links_of a y z)

  unfoldable pub concat_right : Automaton L → Automaton L → Bool
  concat_right y z = sides_right a y z (sides_of a y z) && links_right a y z (sides_of a y z) (links_of a y z)

  concat_realized : (y z : Automaton L) → concat_right y z ≡ true → Realizes a (concats a y z) (concat_of y z)
  unfolding concat_right concat_of
  concat_realized y z h =
      let both = and_parts (sides_right a y z (sides_of a y z)) (links_right a y z (sides_of a y z) (links_of a y z)) h in
      concat_shown a y z (sides_of a y z) (links_of a y z) both.0 both.1

  unfoldable pub concat_step : Automaton L → Automaton L → Rows → (Automaton L → Rows → Ran) → Ran
  concat_step y z used next = let n = concat_of y z in settle (concat_right y z) n used (next n)

  concat_steps : (os : List (Operand L)) (m y z : Automaton L) (used : Rows) (next : Automaton L → Rows → Ran) → ((n : Automaton L) (used' : Rows) → Shows (Meets a room (pattern n ∷ os) m used') (next n used')) → Shows (Meets a room (join y z ∷ os) m used) (concat_step y z used next)
  unfolding concat_step
  concat_steps os m y z used next rest =
      let n = concat_of y z in
      settled (concats a y z) n used (concat_right y z) (next n) (Meets a room (join y z ∷ os) m used) (concat_realized y z) (λ t passes. concat_passes passes)
      (λ made h. concat_built made (rest n (plus used n) h))

  -- the builds of a part
  unfoldable pub meet_all : List (Operand L) → Automaton L → Rows → Ran
  meet_all [] m used = (true, final m used)
  meet_all (pattern k ∷ os) m used = product_step m k used (meet_all os)
  meet_all (join y z ∷ os) m used = concat_step y z used (λ n used'. product_step m n used' (meet_all os))

  meets_all : (os : List (Operand L)) (m : Automaton L) (used : Rows) → Shows (Meets a room os m used) (meet_all os m used)
  unfolding meet_all
  meets_all [] m used = λ _. all_met
  meets_all (pattern k ∷ os) m used = product_steps os m k used (meet_all os) (meets_all os)
  meets_all (join y z ∷ os) m used = concat_steps os m y z used (λ n used'. product_step m n used' (meet_all os)) (λ n used'. product_steps os m n used' (meet_all os) (meets_all os))

  abbrev pub everything : Automaton L
  everything = of_rows (open_state ∷ []) (loop_arc a ∷ [])

  unfoldable pub build_all : List (Operand L) → Rows → Ran
  build_all os used = settle true everything used (meet_all os everything)

  builds_all : (os : List (Operand L)) (used : Rows) → Shows (Builds a room os used) (build_all os used)
  unfolding build_all
  builds_all os used =
      settled (all_words a) everything used true (meet_all os everything) (Builds a room os used) (λ _. covers a) (λ t passes. all_pass passes)
      (λ made h. all_built made (meets_all os everything (plus used everything) h))

  module _ (s : Problem L) where
    abbrev pub finished : List (Done L) → ℕ → Bool
    finished ds p = is_some (find (λ d. d.part) ds p)

    abbrev built_from : List (Done L) → ℕ → Join → Bool
    built_from ds p j = implies (eqb j.whole p) (finished ds j.left && finished ds j.right)

    abbrev due : List (Done L) → ℕ → Bool
    due ds p = not (finished ds p) && every (built_from ds p) s.joins

    abbrev is_next : List (Done L) → ℕ → Bool
    is_next ds p = ltb p s.parts && (due ds p && below (λ q. not (due ds q)) p)

    due_shown : (ds : List (Done L)) (p : ℕ) → p < s.parts → due ds p ≡ true → Due s ds p
    due_shown ds p low h =
        let both = and_parts (not (finished ds p)) (every (built_from ds p) s.joins) h in
        record {
          part = low;
          unfinished = both_ways (finished ds p) (not-true (finished ds p) both.0);
          right_hand = λ j has is.
              and_parts (finished ds j.left) (finished ds j.right)
              (implied (eqb j.whole p) _ (all-has (λ i. built_from ds p i ≡ true) s.joins j (every_all (built_from ds p) s.joins both.1) has) (eq-eqb j.whole p is));
        }

    due_test : (ds : List (Done L)) (p : ℕ) → Due s ds p → due ds p ≡ true
    due_test ds p d =
        let from = λ (j : Join) (has : Has s.joins j). implies_from (eqb j.whole p) (finished ds j.left && finished ds j.right) (λ is. let both = d.right_hand j has (eqb-true j.whole p is) in and_from (finished ds j.left) (finished ds j.right) both.0 both.1) in
        and_from (not (finished ds p)) (every (built_from ds p) s.joins) (⊎_elim (λ yes'. absurd (d.unfinished yes')) (not_from_false (finished ds p)) (cases_Bool (finished ds p)))
        (all_every (built_from ds p) s.joins (All-from_get_or (λ j. built_from ds p j ≡ true) s.joins none (λ i low. from (get_or s.joins i none) (has_get_or s.joins i none low))))

    next_shown : (ds : List (Done L)) (p : ℕ) → is_next ds p ≡ true → Next s ds p
    next_shown ds p h =
        let one = and_parts (ltb p s.parts) _ h in
        let two = and_parts (due ds p) (below (λ q. not (due ds q)) p) one.1 in
        record {
          due = due_shown ds p (ltb-true _ _ one.0) two.0;
          lowest = λ q d. ⊎_elim (λ low. absurd (both_ways (due ds q) (not-true (due ds q) (below_all (λ i. not (due ds i)) p two.1 q low)) (due_test ds q d))) (λ high. high) (cases_lt q p);
        }

    -- the course, with the parts in the order in which they are built
    abbrev pub Went : Type 0
    Went = Bool × Outcome L

    unfoldable pub go_on : List (Done L) → ℕ → (List (Done L) → Rows → Went) → Ending L → Went
    go_on ds p next (final m used) = next (ds ++ record { part = p; result = m } ∷ []) used
    go_on ds p next (full t used) = (true, no_room t p ds used)
    go_on ds p next (empty used) = (true, no_word p ds used)

    goes_on : (ds : List (Done L)) (p : ℕ) (next : List (Done L) → Rows → Went) (used : Rows) → ((ds' : List (Done L)) (used' : Rows) → (next ds' used').0 ≡ true → Course a room s ds' used' (next ds' used').1) → (e : Ending L) → Next s ds p → Builds a room (operands s ds p) used e → (go_on ds p next e).0 ≡ true → Course a room s ds used (go_on ds p next e).1
    unfolding go_on
    goes_on ds p next used rest (final m used') n b h = finishes n b (rest (ds ++ record { part = p; result = m } ∷ []) used' h)
    goes_on ds p next used rest (full t used') n b h = stops n b
    goes_on ds p next used rest (empty used') n b h = empties n b

    unfoldable pub run : List ℕ → List (Done L) → Rows → Went
    run [] ds used = (below (finished ds) s.parts, complete ds used)
    run (p ∷ order) ds used = let r = build_all (operands s ds p) used in cond (is_next ds p && r.0) (go_on ds p (run order) r.1) (false, complete ds used)

    pub runs : (order : List ℕ) (ds : List (Done L)) (used : Rows) → (run order ds used).0 ≡ true → Course a room s ds used (run order ds used).1
    unfolding run
    runs [] ds used = λ h. ends (below_all (finished ds) s.parts h)
    runs (p ∷ order) ds used =
        let r = build_all (operands s ds p) used in
        cond_both (is_next ds p && r.0) (go_on ds p (run order) r.1) (false, complete ds used) (λ (w : Went). w.0 ≡ true → Course a room s ds used w.1)
        (λ yes' h.
        let both = and_parts (is_next ds p) r.0 yes' in
        goes_on ds p (run order) used (runs order) r.1 (next_shown ds p both.0) (builds_all (operands s ds p) used both.1) h)
        (λ _ h. absurd (false≢true h))

    -- from the start on
    unfoldable pub went : List ℕ → Went
    unfolding run go_on build_all meet_all concat_step product_step settle product_of product_right concat_of concat_right pairs_of explore arrows_of states_right arrows_right sides_of links_of sides_right links_right
    went order = run order [] s.held

    pub given : (order : List ℕ) (words : ℕ) (v : Solved) → (went order).0 ≡ true → Judged s words (went order).1 v → Given a room words s v
    unfolding went
    given order words v right judged = record { outcome = (went order).1; course = runs order [] s.held right; judged = judged }
