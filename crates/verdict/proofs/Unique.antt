-- The rules give one verdict at most: results may differ in how states and arcs are numbered, and in nothing else.
use Rattle.std.proofs.Common.{◌≡◌, ℕ, zero, suc, ◌+◌, ◌-◌, ◌<◌, ◌≤◌, Bool, true, false, cond, eqb, List, [], ◌∷◌, ◌++◌, map, is_some, Some, None, filter, Option, sym, refl, ap, ◌∙◌, subst, inl, inr, ⊎_elim, arith}
use Rattle.std.specs.List.{ContainsAt as Has, AllByRecursion as All}
use Rattle.std.proofs.ByRecursion.{All-weaker, all_has_itself, all_kept_by}
use Rattle.std.proofs.lemmas.Bool.{both_ways, true≢false, false≢true, cases_lt, cases_eq, eq-eqb}
use Rattle.alphabet.specs.Labels.{Labels}
use Rattle.automaton.specs.Automaton.{Automaton, Inside, accepting}
use Rattle.automaton.specs.Nfa.{Nfa, all_words}
use Rattle.automaton.proofs.Composing.{Renames, renames_realizes}
use Rattle.automaton.proofs.Counting.{more_than}
use Rattle.automaton.proofs.Sameness.{Same, same_rows, same_none, same_realized, same_states, same_arcs, accepting_same, same_accepting, same_products, same_concats, numbers_pairs, more_pairs}
use Rattle.build.specs.declared.Rows.{Rows}
use Rattle.build.specs.Concats.{concats}
use Rattle.build.specs.Pairs.{products}
use Rattle.sheet.specs.declared.Join.{Join}
use Rattle.verdict.specs.declared.Solved.{Solved}
use Rattle.verdict.specs.declared.Table.{Table}
use Rattle.verdict.specs.declared.Table.TheVariants.{States, Arcs, Words}
use Rattle.verdict.specs.declared.Verdict.TheVariants.{OutOfRoom, Impossible, Unknown, Possible}
use Rattle.verdict.specs.Course.{find, Done, Finished, result_or, result_of, Due, Next, Operand, pattern, join, operands, plus, Passes, Makes, Alive, Dead, Ending, final, full, empty, Meets, all_met, product_passes, product_dead, product_met, concat_passes, concat_built, Builds, all_pass, all_built, Outcome, complete, no_room, no_word, Course, ends, finishes, stops, empties}
use Rattle.verdict.specs.Problem.{Problem, Pattern}
use Rattle.verdict.specs.Verdicts.{uses, Root, roots_below, bound, bounds_below, WordsFit, WordsPass, solved, Judged, Given}

-- a build passes one table at most, and one that passes a table cannot be made
module _ {S E L : Type 0} (n : Nfa S E L) (room used : Rows) where
  passes_once : (t t' : Table) → Passes n room used t → Passes n room used t' → t ≡ t'
  passes_once States States h h' = refl
  passes_once States Arcs h h' = absurd (omega (arith, more_than h'.counted h.too_many, h'.states_fit))
  passes_once States Words h h' = absurd h'
  passes_once Arcs States h h' = absurd (omega (arith, more_than h.counted h'.too_many, h.states_fit))
  passes_once Arcs Arcs h h' = refl
  passes_once Arcs Words h h' = absurd h'
  passes_once Words t' h h' = absurd h

  passes_or_made : {a : Labels L} {m : Automaton L} (t : Table) → Passes n room used t → Makes a n room used m → ⊥
  passes_or_made States h m = omega (arith, more_than m.realizes.states h.too_many, m.fits.states)
  passes_or_made Arcs h m = omega (arith, more_than m.realizes.arcs h.too_many, m.fits.arcs)
  passes_or_made Words h m = h

-- the same of a build and of that build with its states and arcs named otherwise
module _ {S E T F L : Type 0} (k : Nfa T F L) (n : Nfa S E L) (r : Renames k n) (room used : Rows) where
  passes_renamed : (t : Table) → Passes k room used t → Passes n room used t
  passes_renamed States h = record { state = λ i. r.name (h.state i); too_many = more_pairs r.states h.too_many }
  passes_renamed Arcs h = record {
    count = h.count;
    state = λ i. r.name (h.state i);
    counted = numbers_pairs r.states h.counted;
    states_fit = h.states_fit;
    arrow = λ i. r.arrow (h.arrow i);
    too_many = more_pairs r.arcs h.too_many;
  }
  passes_renamed Words h = h

  makes_renamed : {a : Labels L} {m : Automaton L} → Makes a k room used m → Makes a n room used m
  makes_renamed h = record { realizes = renames_realizes r h.realizes; fits = h.fits }

  passes_same : (t t' : Table) → Passes n room used t → Passes k room used t' → t ≡ t'
  passes_same t t' h h' = passes_once n room used t t' h (passes_renamed t' h')

  passes_not_made : {a : Labels L} {m : Automaton L} (t : Table) → Passes n room used t → Makes a k room used m → ⊥
  passes_not_made t h m = passes_or_made n room used t h (makes_renamed m)

  made_not_passes : {a : Labels L} {m : Automaton L} (t : Table) → Makes a n room used m → Passes k room used t → ⊥
  made_not_passes t m h = passes_or_made n room used t (passes_renamed t h) m

  makes_same : {a : Labels L} {m m' : Automaton L} → Makes a n room used m → Makes a k room used m' → Same a m m'
  makes_same m m' = same_realized m.realizes (makes_renamed m').realizes

module _ {L : Type 0} {a : Labels L} {m m' : Automaton L} (same : Same a m m') where
  plus_same : (used : Rows) → plus used m ≡ plus used m'
  plus_same used = λ i. record { states = used.states + same_states same i; arcs = used.arcs + same_arcs same i }

  dead_or_alive : Dead m → Alive m' → ⊥
  dead_or_alive dead alive = let p = accepting_same same alive.0 alive.1 in both_ways (accepting m p.0) (dead p.0) p.1

  alive_or_dead : Alive m → Dead m' → ⊥
  alive_or_dead alive dead = let p = same_accepting same alive.0 alive.1 in both_ways (accepting m' p.0) (dead p.0) p.1

-- operands that are the same, one by one
data SameOperands {L : Type 0} (a : Labels L) : List (Operand L) → List (Operand L) → Type 0 where
  no_operands : SameOperands a [] []
  pattern_same : {k k' : Automaton L} {os os' : List (Operand L)} → Same a k k' → SameOperands a os os' → SameOperands a (pattern k ∷ os) (pattern k' ∷ os')
  join_same : {y y' z z' : Automaton L} {os os' : List (Operand L)} → Same a y y' → Same a z z' → SameOperands a os os' → SameOperands a (join y z ∷ os) (join y' z' ∷ os')

abbrev SameEnding : {L : Type 0} → Labels L → Ending L → Ending L → Type 0
SameEnding a (final m u) (final m' u') = Same a m m' × (u ≡ u')
SameEnding a (final m u) (full t' u') = ⊥
SameEnding a (final m u) (empty u') = ⊥
SameEnding a (full t u) (final m' u') = ⊥
SameEnding a (full t u) (full t' u') = (t ≡ t') × (u ≡ u')
SameEnding a (full t u) (empty u') = ⊥
SameEnding a (empty u) (final m' u') = ⊥
SameEnding a (empty u) (full t' u') = ⊥
SameEnding a (empty u) (empty u') = u ≡ u'

module _ {L : Type 0} (a : Labels L) (room : Rows) where
  meets_same : {os os' : List (Operand L)} {m m' : Automaton L} {used : Rows} {e e' : Ending L} → SameOperands a os os' → Same a m m' → Meets a room os m used e → Meets a room os' m' used e' → SameEnding a e e'
  meets_same no_operands same all_met all_met = (same, refl)
  meets_same {used} (pattern_same {k} {k'} one rest) same (product_passes {m} {t} h) (product_passes {m = m'} {t = t'} h') = (passes_same (products a m' k') (products a m k) (same_products same one) room used t t' h h', refl)
  meets_same {used} (pattern_same {k} {k'} one rest) same (product_passes {m} {t} h) (product_dead {m = m'} h' dead) = absurd (passes_not_made (products a m' k') (products a m k) (same_products same one) room used t h h')
  meets_same {used} (pattern_same {k} {k'} one rest) same (product_passes {m} {t} h) (product_met {m = m'} h' alive d') = absurd (passes_not_made (products a m' k') (products a m k) (same_products same one) room used t h h')
  meets_same {used} (pattern_same {k} {k'} one rest) same (product_dead {m} h dead) (product_passes {m = m'} {t = t'} h') = absurd (made_not_passes (products a m' k') (products a m k) (same_products same one) room used t' h h')
  meets_same {used} (pattern_same {k} {k'} one rest) same (product_dead {m} h dead) (product_dead {m = m'} h' dead') = plus_same (makes_same (products a m' k') (products a m k) (same_products same one) room used h h') used
  meets_same {used} (pattern_same {k} {k'} one rest) same (product_dead {m} h dead) (product_met {m = m'} h' alive d') = absurd (dead_or_alive (makes_same (products a m' k') (products a m k) (same_products same one) room used h h') dead alive)
  meets_same {used} (pattern_same {k} {k'} one rest) same (product_met {m} h alive d) (product_passes {m = m'} {t = t'} h') = absurd (made_not_passes (products a m' k') (products a m k) (same_products same one) room used t' h h')
  meets_same {used} (pattern_same {k} {k'} one rest) same (product_met {m} h alive d) (product_dead {m = m'} h' dead) = absurd (alive_or_dead (makes_same (products a m' k') (products a m k) (same_products same one) room used h h') alive dead)
  meets_same {used} {e'} (pattern_same {k} {k'} {os'} one rest) same (product_met {m} h alive d) (product_met {m = m'} {n = n'} h' alive' d') =
      let made = makes_same (products a m' k') (products a m k) (same_products same one) room used h h' in
      meets_same rest made d (subst (λ u. Meets a room os' n' u e') (sym (plus_same made used)) d')
  meets_same {used} (join_same {y} {y'} {z} {z'} one two rest) same (concat_passes {t} h) (concat_passes {t = t'} h') = (passes_same (concats a y' z') (concats a y z) (same_concats one two) room used t t' h h', refl)
  meets_same {used} (join_same {y} {y'} {z} {z'} one two rest) same (concat_passes {t} h) (concat_built h' d') = absurd (passes_not_made (concats a y' z') (concats a y z) (same_concats one two) room used t h h')
  meets_same {used} (join_same {y} {y'} {z} {z'} one two rest) same (concat_built h d) (concat_passes {t = t'} h') = absurd (made_not_passes (concats a y' z') (concats a y z) (same_concats one two) room used t' h h')
  meets_same {m'} {used} {e'} (join_same {y} {y'} {z} {z'} {os'} one two rest) same (concat_built h d) (concat_built {n = n'} h' d') =
      let made = makes_same (concats a y' z') (concats a y z) (same_concats one two) room used h h' in
      meets_same (pattern_same made rest) same d (subst (λ u. Meets a room (pattern n' ∷ os') m' u e') (sym (plus_same made used)) d')

  builds_same : {os os' : List (Operand L)} {used : Rows} {e e' : Ending L} → SameOperands a os os' → Builds a room os used e → Builds a room os' used e' → SameEnding a e e'
  builds_same {used} ops (all_pass {t} h) (all_pass {t = t'} h') = (passes_once (all_words a) room used t t' h h', refl)
  builds_same {used} ops (all_pass {t} h) (all_built h' d') = absurd (passes_or_made (all_words a) room used t h h')
  builds_same {used} ops (all_built h d) (all_pass {t = t'} h') = absurd (passes_or_made (all_words a) room used t' h' h)
  builds_same {os'} {used} {e'} ops (all_built h d) (all_built {m = m'} h' d') =
      let made = same_realized h.realizes h'.realizes in
      meets_same ops made d (subst (λ u. Meets a room os' m' u e') (sym (plus_same made used)) d')

-- the same parts are finished, and their results are the same
data SameDones {L : Type 0} (a : Labels L) : List (Done L) → List (Done L) → Type 0 where
  none_done : SameDones a [] []
  done_same : {d d' : Done L} {ds ds' : List (Done L)} → d.part ≡ d'.part → Same a d.result d'.result → SameDones a ds ds' → SameDones a (d ∷ ds) (d' ∷ ds')

done_last : {L : Type 0} {a : Labels L} {ds ds' : List (Done L)} {d d' : Done L} → SameDones a ds ds' → d.part ≡ d'.part → Same a d.result d'.result → SameDones a (ds ++ d ∷ []) (ds' ++ d' ∷ [])
done_last none_done is same = done_same is same none_done
done_last (done_same is' same' rest) is same = done_same is' same' (done_last rest is same)

abbrev SameFound : {L : Type 0} → Labels L → Option (Done L) → Option (Done L) → Type 0
SameFound a None None = Unit {0}
SameFound a None (Some d') = ⊥
SameFound a (Some d) None = ⊥
SameFound a (Some d) (Some d') = Same a d.result d'.result

module _ {L : Type 0} (a : Labels L) where
  found_or : (b b' : Bool) → b ≡ b' → (d d' : Done L) → Same a d.result d'.result → (x x' : Option (Done L)) → SameFound a x x' → SameFound a (cond b (Some d) x) (cond b' (Some d') x')
  found_or true true e d d' same x x' h = same
  found_or true false e d d' same x x' h = absurd (true≢false e)
  found_or false true e d d' same x x' h = absurd (false≢true e)
  found_or false false e d d' same x x' h = h

  find_same : {ds ds' : List (Done L)} → SameDones a ds ds' → (p : ℕ) → SameFound a (find (λ d. d.part) ds p) (find (λ d. d.part) ds' p)
  find_same none_done p = tt
  find_same (done_same {d} {d'} {ds} {ds'} is same rest) p =
      found_or (eqb d.part p) (eqb d'.part p) (ap (λ q. eqb q p) is) d d' same (find (λ d. d.part) ds p) (find (λ d. d.part) ds' p) (find_same rest p)

  found_some : (x x' : Option (Done L)) → SameFound a x x' → is_some x ≡ is_some x'
  found_some None None h = refl
  found_some None (Some d') h = absurd h
  found_some (Some d) None h = absurd h
  found_some (Some d) (Some d') h = refl

  found_result : (x x' : Option (Done L)) → SameFound a x x' → Same a (result_or x) (result_or x')
  found_result None None h = same_none a
  found_result None (Some d') h = absurd h
  found_result (Some d) None h = absurd h
  found_result (Some d) (Some d') h = h

  module _ {ds ds' : List (Done L)} (dones : SameDones a ds ds') where
    finished_same : (p : ℕ) → is_some (find (λ d. d.part) ds p) ≡ is_some (find (λ d. d.part) ds' p)
    finished_same p = found_some (find (λ d. d.part) ds p) (find (λ d. d.part) ds' p) (find_same dones p)

    finished_there : (p : ℕ) → Finished ds p → Finished ds' p
    finished_there p h = sym (finished_same p) ∙ h

    finished_back : (p : ℕ) → Finished ds' p → Finished ds p
    finished_back p h = finished_same p ∙ h

    results_same : (p : ℕ) → Same a (result_of ds p) (result_of ds' p)
    results_same p = found_result (find (λ d. d.part) ds p) (find (λ d. d.part) ds' p) (find_same dones p)

    joins_same : (js : List Join) → SameOperands a (map (λ j. join (result_of ds j.left) (result_of ds j.right)) js) (map (λ j. join (result_of ds' j.left) (result_of ds' j.right)) js)
    joins_same [] = no_operands
    joins_same (j ∷ js) = join_same (results_same j.left) (results_same j.right) (joins_same js)

  patterns_same : (hs : List (Pattern L)) → All (λ h. Inside h.automaton) hs → {os os' : List (Operand L)} → SameOperands a os os' → SameOperands a (map (λ h. pattern h.automaton) hs ++ os) (map (λ h. pattern h.automaton) hs ++ os')
  patterns_same [] all rest = rest
  patterns_same (h ∷ hs) all rest = pattern_same (same_rows a h.automaton all.0) (patterns_same hs all.1 rest)

  module _ (s : Problem L) (inside : (h : Pattern L) → Has s.patterns h → Inside h.automaton) where
    operands_same : {ds ds' : List (Done L)} → SameDones a ds ds' → (p : ℕ) → SameOperands a (operands s ds p) (operands s ds' p)
    operands_same dones p =
        let all : All (λ h. Inside h.automaton) s.patterns = All-weaker (Has s.patterns) (λ h. Inside h.automaton) inside s.patterns (all_has_itself s.patterns) in
        patterns_same (filter (λ h. eqb h.part p) s.patterns) (all_kept_by (λ h. eqb h.part p) (λ h. Inside h.automaton) s.patterns all) (joins_same dones (filter (λ j. eqb j.whole p) s.joins))

    module _ {ds ds' : List (Done L)} (dones : SameDones a ds ds') where
      due_there : (p : ℕ) → Due s ds p → Due s ds' p
      due_there p h = record {
        part = h.part;
        unfinished = λ done. h.unfinished (finished_back dones p done);
        right_hand = λ j has is. let both = h.right_hand j has is in (finished_there dones j.left both.0, finished_there dones j.right both.1);
      }

      due_back : (p : ℕ) → Due s ds' p → Due s ds p
      due_back p h = record {
        part = h.part;
        unfinished = λ done. h.unfinished (finished_there dones p done);
        right_hand = λ j has is. let both = h.right_hand j has is in (finished_back dones j.left both.0, finished_back dones j.right both.1);
      }

      next_same : (p p' : ℕ) → Next s ds p → Next s ds' p' → p ≡ p'
      next_same p p' h h' = omega (arith, h.lowest p' (due_back p' h'.due), h'.lowest p (due_there p h.due))

      -- the next part is the same, and its builds end in the same way
      part_same : (room used : Rows) {p p' : ℕ} {e e' : Ending L} → Next s ds p → Next s ds' p' → Builds a room (operands s ds p) used e → Builds a room (operands s ds' p') used e' → (p ≡ p') × SameEnding a e e'
      part_same room used {p} {p'} {e} {e'} h h' b b' =
          let is = next_same p p' h h' in
          (is, builds_same a room (operands_same dones p) b (subst (λ q. Builds a room (operands s ds' q) used e') (sym is) b'))

abbrev SameOutcome : {L : Type 0} → Labels L → Outcome L → Outcome L → Type 0
SameOutcome a (complete ds u) (complete ds' u') = SameDones a ds ds' × (u ≡ u')
SameOutcome a (complete ds u) (no_room t' p' ds' u') = ⊥
SameOutcome a (complete ds u) (no_word p' ds' u') = ⊥
SameOutcome a (no_room t p ds u) (complete ds' u') = ⊥
SameOutcome a (no_room t p ds u) (no_room t' p' ds' u') = (t ≡ t') × (p ≡ p') × (u ≡ u')
SameOutcome a (no_room t p ds u) (no_word p' ds' u') = ⊥
SameOutcome a (no_word p ds u) (complete ds' u') = ⊥
SameOutcome a (no_word p ds u) (no_room t' p' ds' u') = ⊥
SameOutcome a (no_word p ds u) (no_word p' ds' u') = (p ≡ p') × (u ≡ u')

module _ {L : Type 0} (a : Labels L) (room : Rows) (s : Problem L) (inside : (h : Pattern L) → Has s.patterns h → Inside h.automaton) where
  ended_there : {ds ds' : List (Done L)} {p : ℕ} → SameDones a ds ds' → ((q : ℕ) → q < s.parts → Finished ds q) → Next s ds' p → ⊥
  ended_there {p} dones all h = h.due.unfinished (finished_there a dones p (all p h.due.part))

  ended_back : {ds ds' : List (Done L)} {p : ℕ} → SameDones a ds ds' → Next s ds p → ((q : ℕ) → q < s.parts → Finished ds' q) → ⊥
  ended_back {p} dones h all = h.due.unfinished (finished_back a dones p (all p h.due.part))

  course_same : {ds ds' : List (Done L)} {used : Rows} {o o' : Outcome L} → SameDones a ds ds' → Course a room s ds used o → Course a room s ds' used o' → SameOutcome a o o'
  course_same dones (ends all) (ends all') = (dones, refl)
  course_same dones (ends all) (finishes next' b' c') = absurd (ended_there dones all next')
  course_same dones (ends all) (stops next' b') = absurd (ended_there dones all next')
  course_same dones (ends all) (empties next' b') = absurd (ended_there dones all next')
  course_same dones (finishes next b c) (ends all') = absurd (ended_back dones next all')
  course_same {ds'} {used} {o'} dones (finishes next b c) (finishes {p = p'} {m = m'} next' b' c') =
      let both = part_same a s inside dones room used next next' b b' in
      course_same (done_last dones both.0 both.1.0) c (subst (λ u. Course a room s (ds' ++ record { part = p'; result = m' } ∷ []) u o') (sym both.1.1) c')
  course_same {used} dones (finishes next b c) (stops next' b') = absurd (part_same a s inside dones room used next next' b b').1
  course_same {used} dones (finishes next b c) (empties next' b') = absurd (part_same a s inside dones room used next next' b b').1
  course_same dones (stops next b) (ends all') = absurd (ended_back dones next all')
  course_same {used} dones (stops next b) (finishes next' b' c') = absurd (part_same a s inside dones room used next next' b b').1
  course_same {used} dones (stops next b) (stops next' b') = let both = part_same a s inside dones room used next next' b b' in (both.1.0, both.0, both.1.1)
  course_same {used} dones (stops next b) (empties next' b') = absurd (part_same a s inside dones room used next next' b b').1
  course_same dones (empties next b) (ends all') = absurd (ended_back dones next all')
  course_same {used} dones (empties next b) (finishes next' b' c') = absurd (part_same a s inside dones room used next next' b b').1
  course_same {used} dones (empties next b) (stops next' b') = absurd (part_same a s inside dones room used next next' b b').1
  course_same {used} dones (empties next b) (empties next' b') = part_same a s inside dones room used next next' b b'

-- what is asked for the roots grows with the parts
module _ (js : List Join) where
  roots_same : (f g : ℕ → ℕ) → ((p : ℕ) → f p ≡ g p) → (q : ℕ) → roots_below js f q ≡ roots_below js g q
  roots_same f g is zero = refl
  roots_same f g is (suc q) = λ i. roots_same f g is q i + cond (eqb (uses js q) 0) (is q i) 0

  roots_root : (f : ℕ → ℕ) (p : ℕ) → Root js p → roots_below js f (suc p) ≡ roots_below js f p + f p
  roots_root f p root = ap (λ b. roots_below js f p + cond b (f p) 0) (eq-eqb (uses js p) 0 root)

  roots_up : (f : ℕ → ℕ) (p q : ℕ) → p < q → roots_below js f (suc p) ≤ roots_below js f q
  roots_up f p zero low = absurd (omega arith)
  roots_up f p (suc q) low =
      ⊎_elim (λ is. subst (λ r. roots_below js f (suc p) ≤ roots_below js f (suc r)) is (omega arith))
      (λ other.
      let before = roots_up f p q (omega arith) in
      let after : roots_below js f q ≤ roots_below js f (suc q) = omega arith in
      omega arith)
      (cases_eq p q)

module _ {L : Type 0} (s : Problem L) (ds : List (Done L)) (words : ℕ) where
  -- past the root that passes, all is past
  past_pass : (p q : ℕ) → WordsPass s ds words p → p < q → words < bounds_below s ds q
  past_pass p q h low =
      let here = roots_root s.joins (bound ds) p h.root in
      let on = roots_up s.joins (bound ds) p q low in
      let passes : words < bounds_below s ds p + bound ds p = h.passes in
      omega arith

  fit_or_pass : (p : ℕ) → WordsFit s ds words → WordsPass s ds words p → ⊥
  fit_or_pass p fit h = omega (arith, past_pass p s.parts h h.part)

  pass_once : (p q : ℕ) → WordsPass s ds words p → WordsPass s ds words q → p ≡ q
  pass_once p q h h' =
      let not_before : p < q → ⊥ = λ low. omega (arith, past_pass p q h low, h'.before) in
      let not_after : q < p → ⊥ = λ low. omega (arith, past_pass q p h' low, h.before) in
      ⊎_elim (λ low. absurd (not_before low)) (λ past. ⊎_elim (λ low. absurd (not_after low)) (λ past'. omega arith) (cases_lt q p)) (cases_lt p q)

module _ {L : Type 0} (a : Labels L) (s : Problem L) (words : ℕ) where
  module _ {ds ds' : List (Done L)} (dones : SameDones a ds ds') where
    bound_same : (p : ℕ) → bound ds p ≡ bound ds' p
    bound_same p = ap (λ n. n - 1) (same_states (results_same a dones p))

    bounds_same : (p : ℕ) → bounds_below s ds p ≡ bounds_below s ds' p
    bounds_same p = roots_same s.joins (bound ds) (bound ds') bound_same p

    fit_same : WordsFit s ds' words → WordsFit s ds words
    fit_same fit = subst (λ n. n ≤ words) (sym (bounds_same s.parts)) fit

    pass_same : (p : ℕ) → WordsPass s ds' words p → WordsPass s ds words p
    pass_same p h = record {
      part = h.part;
      root = h.root;
      before = subst (λ n. n ≤ words) (sym (bounds_same p)) h.before;
      passes = subst (λ n. words < n) (λ i. sym (bounds_same p) i + sym (bound_same p) i) h.passes;
    }

    complete_same : {used used' : Rows} {v v' : Solved} → used ≡ used' → Judged s words (complete ds used) v → Judged s words (complete ds' used') v' → v ≡ v'
    complete_same is (inl h) (inl h') = h.1 ∙ ap (solved s Unknown) is ∙ sym h'.1
    complete_same is (inl h) (inr (inl h')) = absurd (h.0 h'.0)
    complete_same is (inl h) (inr (inr h')) = absurd (h.0 h'.0)
    complete_same is (inr (inl h)) (inl h') = absurd (h'.0 h.0)
    complete_same is (inr (inl h)) (inr (inl h')) = h.2 ∙ ap (solved s Possible) is ∙ sym h'.2
    complete_same is (inr (inl h)) (inr (inr h')) = let pass = h'.1 in absurd (fit_or_pass s ds words pass.0 h.1 (pass_same pass.0 pass.1))
    complete_same is (inr (inr h)) (inl h') = absurd (h'.0 h.0)
    complete_same is (inr (inr h)) (inr (inl h')) = let pass = h.1 in absurd (fit_or_pass s ds words pass.0 (fit_same h'.1) pass.1)
    complete_same is (inr (inr h)) (inr (inr h')) =
        let pass = h.1 in
        let pass' = h'.1 in
        let root = pass_once s ds words pass.0 pass'.0 pass.1 (pass_same pass'.0 pass'.1) in
        pass.2 ∙ (λ i. solved s (OutOfRoom Words (root i)) (is i)) ∙ sym pass'.2

  judged_same : (o o' : Outcome L) {v v' : Solved} → SameOutcome a o o' → Judged s words o v → Judged s words o' v' → v ≡ v'
  judged_same (complete ds u) (complete ds' u') same h h' = complete_same same.0 same.1 h h'
  judged_same (complete ds u) (no_room t' p' ds' u') same h h' = absurd same
  judged_same (complete ds u) (no_word p' ds' u') same h h' = absurd same
  judged_same (no_room t p ds u) (complete ds' u') same h h' = absurd same
  judged_same (no_room t p ds u) (no_room t' p' ds' u') same h h' = h ∙ (λ i. solved s (OutOfRoom (same.0 i) (same.1 i)) (same.2 i)) ∙ sym h'
  judged_same (no_room t p ds u) (no_word p' ds' u') same h h' = absurd same
  judged_same (no_word p ds u) (complete ds' u') same h h' = absurd same
  judged_same (no_word p ds u) (no_room t' p' ds' u') same h h' = absurd same
  judged_same (no_word p ds u) (no_word p' ds' u') same h h' = h ∙ (λ i. solved s (Impossible (same.0 i)) (same.1 i)) ∙ sym h'

-- the rules give no two verdicts on a problem whose patterns' arcs lead from state to state
pub given_unique : {L : Type 0} (a : Labels L) (room : Rows) (words : ℕ) (s : Problem L) → ((h : Pattern L) → Has s.patterns h → Inside h.automaton) → {v v' : Solved} → Given a room words s v → Given a room words s v' → v ≡ v'
given_unique a room words s inside g g' = judged_same a s words g.outcome g'.outcome (course_same a room s inside none_done g.course g'.course) g.judged g'.judged
