-- The course of the builds, part by part.
use Rattle.std.proofs.Common.{◌≡◌, ℕ, suc, ◌+◌, ◌<◌, ◌≤◌, List, [], ◌∷◌, ◌++◌, map, length, get_or, Ok, Err, sym, refl, ap, ◌∙◌, subst, ⊎_elim, arith}
use Rattle.std.specs.List.{ContainsAt as Has}
use Rattle.std.proofs.ByRecursion.{has_get_or, has_push_cases}
use Rattle.std.proofs.lemmas.List.{map_push, length_push, get_or_push, get_or_append_left, get_or_default, get_or_past}
use Rattle.std.proofs.lemmas.Bool.{cases_lt}
use Rattle.alphabet.specs.Labels.{Labels}
use Rattle.automaton.specs.declared.Arc.{Arc}
use Rattle.automaton.specs.declared.State.{State}
use Rattle.automaton.proofs.Counting.{pigeonhole}
use Rattle.build.specs.declared.Rows.{Rows}
use Rattle.build.specs.Tables.{InUse, Stands}
use Rattle.build.proofs.Keeping.{kept_none, kept_more, kept_less}
use Rattle.sheet.specs.declared.Held.{Held}
use Rattle.sheet.specs.Calls.{View}
use Rattle.sheet.specs.Joins.{Acyclic, Known}
use Rattle.sheet.specs.Patterns.{Whole, nowhere}
use Rattle.verdict.specs.Course.{Finished, Due, Next, pattern_operands, join_operands, operands, Ending, Builds, Outcome, Course, ends, finishes, stops, empties}
use Rattle.verdict.specs.Problem.{Problem, read, problem}
use Rattle.verdict.proofs.Chains.{none_due}
use Rattle.verdict.proofs.Finding.{find_map_found, has_found}
use Rattle.verdict.specs.declared.Verdict.{Verdict}
use Rattle.solve.specs.declared.tables.Halt.{Halt}
use Rattle.solve.specs.Builds.{Work, Break, full_at, empty_at, break_of, room, AllStand, halted, PartBuilt}
use Rattle.solve.specs.Finishing.{Built, Completed, Stopped, outcome_of, stop_verdict}
use Rattle.solve.specs.Parts.{Among, Open, done, dones}
use Rattle.solve.proofs.Going.{same_room, stands_same, stands_more}
use Rattle.solve.proofs.Operands.{reads_same, dones_same}

-- what every held pattern and every finished part is, it stays with one more
every_push : {X : Type 0} (P : X → Type 0) (xs : List X) (x : X) → ((y : X) → Has xs y → P y) → P x → (y : X) → Has (xs ++ x ∷ []) y → P y
every_push P xs x all px y has = ⊎_elim (all y) (λ same. subst P same px) (has_push_cases xs x y has)

-- a part is finished exactly if its place is known
module _ {L : Type 0} (states : List State) (arcs : List (Arc L)) (hs : List Held) where
  pub finished_among : (p : ℕ) → Finished (dones states arcs hs) p → Among hs p
  finished_among p h = sym (find_map_found (λ h. h.part) (λ d. d.part) (done states arcs) (λ _. refl) hs p) ∙ h

  pub among_finished : (p : ℕ) → Among hs p → Finished (dones states arcs hs) p
  among_finished p h = find_map_found (λ h. h.part) (λ d. d.part) (done states arcs) (λ _. refl) hs p ∙ h

  module _ (s : Problem L) where
    pub open_due : (p : ℕ) → p < s.parts → Open s.joins hs p → Due s (dones states arcs hs) p
    open_due p low o = record {
      part = low;
      unfinished = λ h. o.unfinished (finished_among p h);
      right_hand = λ j has whole.
          let both = o.right_hand j has whole in
          (among_finished j.left both.0, among_finished j.right both.1);
    }

    pub due_open : (p : ℕ) → Due s (dones states arcs hs) p → Open s.joins hs p
    due_open p d = record {
      unfinished = λ h. d.unfinished (among_finished p h);
      right_hand = λ j has whole. let both = d.right_hand j has whole in (finished_among _ both.0, finished_among _ both.1);
    }

    pub open_next : (p : ℕ) → p < s.parts → Open s.joins hs p → ((q : ℕ) → q < p → Open s.joins hs q → ⊥) → Next s (dones states arcs hs) p
    open_next p low o lowest = record { due = open_due p low o; lowest = λ q d. ⊎_elim (λ less. absurd (lowest q less (due_open q d))) (λ le. le) (cases_lt q p) }

-- no part stands twice
abbrev pub Once : List Held → Type 0
Once hs = (i j : ℕ) → i < length hs → j < length hs → (get_or hs i nowhere).part ≡ (get_or hs j nowhere).part → i ≡ j

-- parts that stand once and are below n, with one more that is not among them, are at most n
pub fewer : (hs : List Held) (n p : ℕ) → ((h : Held) → Has hs h → h.part < n) → Once hs → p < n → (Among hs p → ⊥) → length hs < n
fewer hs n p below once low none' = pigeonhole (suc (length hs)) n f small apart
  where
    last : Held
    last = record { part = p; place = nowhere.place }

    f : ℕ → ℕ
    f i = (get_or hs i last).part

    at_last : (i : ℕ) → length hs ≤ i → f i ≡ p
    at_last i past = ap (λ h. h.part) (get_or_past hs i last past)

    at_held : (i : ℕ) → i < length hs → f i ≡ (get_or hs i nowhere).part
    at_held i low = ap (λ h. h.part) (get_or_default hs i last nowhere low)

    not_last : (i : ℕ) → i < length hs → f i ≡ p → ⊥
    not_last i low e = none' (subst (Among hs) e (has_found (λ h. h.part) hs (get_or hs i last) (has_get_or hs i last low)))

    small : (i : ℕ) → i < suc (length hs) → f i < n
    small i lt = ⊎_elim (λ held. below (get_or hs i last) (has_get_or hs i last held)) (λ past. omega (arith, at_last i past)) (cases_lt i (length hs))

    apart : (i j : ℕ) → i < suc (length hs) → j < suc (length hs) → f i ≡ f j → i ≡ j
    apart i j li lj e =
        ⊎_elim
        (λ hi. ⊎_elim (λ hj. once i j hi hj (sym (at_held i hi) ∙ e ∙ at_held j hj)) (λ pj. absurd (not_last i hi (e ∙ at_last j pj))) (cases_lt j (length hs)))
        (λ pi. ⊎_elim (λ hj. absurd (not_last j hj (sym e ∙ at_last i pi))) (λ pj. omega arith) (cases_lt j (length hs))) (cases_lt i (length hs))

pub once_push : (hs : List Held) (h : Held) → Once hs → (Among hs h.part → ⊥) → Once (hs ++ h ∷ [])
once_push hs h once none' i j li lj e =
    let long = length_push hs h in
    let old : (k : ℕ) → k < length hs → get_or (hs ++ h ∷ []) k nowhere ≡ get_or hs k nowhere = λ k low. get_or_append_left hs (h ∷ []) nowhere k low in
    let new : (k : ℕ) → k < length (hs ++ h ∷ []) → length hs ≤ k → get_or (hs ++ h ∷ []) k nowhere ≡ h = λ k low past. get_or_push hs h nowhere k (omega (arith, long)) in
    let other : (k : ℕ) → k < length hs → (get_or hs k nowhere).part ≡ h.part → ⊥ = λ k low same. none' (subst (Among hs) same (has_found (λ h. h.part) hs (get_or hs k nowhere) (has_get_or hs k nowhere low))) in
    ⊎_elim
    (λ hi. ⊎_elim (λ hj. once i j hi hj (sym (ap (λ h. h.part) (old i hi)) ∙ e ∙ ap (λ h. h.part) (old j hj))) (λ pj. absurd (other i hi (sym (ap (λ h. h.part) (old i hi)) ∙ e ∙ ap (λ h. h.part) (new j lj pj)))) (cases_lt j (length hs)))
    (λ pi. ⊎_elim (λ hj. absurd (other j hj (sym (ap (λ h. h.part) (old j hj)) ∙ sym e ∙ ap (λ h. h.part) (new i li pi)))) (λ pj. omega (arith, long)) (cases_lt j (length hs))) (cases_lt i (length hs))

-- the course up to here
pub record Underway {L : Type 0} (a : Labels L) (v : View) (states₀ : List State) (arcs₀ : List (Arc L)) (states : List State) (arcs : List (Arc L)) (hs : List Held) (used : Rows) : Type 0 where
  pub leads : (o : Outcome L) → Course a (room states₀ arcs₀) (problem v states₀ arcs₀) (dones states arcs hs) used o → Course a (room states₀ arcs₀) (problem v states₀ arcs₀) [] v.held o
  pub built : Built v states₀ arcs₀ states arcs hs used
  pub below : (h : Held) → Has hs h → h.part < v.parts
  pub once : Once hs

module _ {L : Type 0} (a : Labels L) (v : View) (states₀ : List State) (arcs₀ : List (Arc L)) where
  abbrev s : Problem L
  s = problem v states₀ arcs₀

  pub underway_none : InUse states₀ arcs₀ v.held → Underway a v states₀ arcs₀ states₀ arcs₀ [] v.held
  underway_none in_use = record {
    leads = λ o h. h;
    built = record {
      in_use = in_use;
      more_states = omega arith;
      more_arcs = omega arith;
      stand = λ h has. absurd (omega (arith, has.1));
      behind = λ h has. absurd (omega (arith, has.1));
      states_kept = kept_none v.held.states states₀;
      arcs_kept = kept_none v.held.arcs arcs₀;
    };
    below = λ h has. absurd (omega (arith, has.1));
    once = λ i j li lj e. absurd (omega arith);
  }

  module _ (held : AllStand states₀ arcs₀ v.held v.patterns) (states : List State) (arcs : List (Arc L)) (hs : List Held) (used : Rows) (u : Underway a v states₀ arcs₀ states arcs hs used) where
    -- the held patterns stand among the rows in use
    pub patterns_stand : AllStand states arcs used v.patterns
    patterns_stand h has = stands_more states arcs v.held used h.place u.built.more_states u.built.more_arcs (stands_same v.held states₀ states arcs₀ arcs u.built.states_kept u.built.arcs_kept h.place (held h has))

    module _ (p : ℕ) (low : p < v.parts) (o : Open v.joins hs p) (lowest : (q : ℕ) → q < p → Open v.joins hs q → ⊥) where
      next : Next s (dones states arcs hs) p
      next = open_next states arcs hs s p low o lowest

      builds_here : (e : Ending L) → Builds a (room states arcs) (pattern_operands (map (read states arcs) v.patterns) p ++ join_operands (dones states arcs hs) v.joins p) used e → Builds a (room states₀ arcs₀) (operands s (dones states arcs hs) p) used e
      builds_here e b =
          let one = subst (λ r. Builds a r (pattern_operands (map (read states arcs) v.patterns) p ++ join_operands (dones states arcs hs) v.joins p) used e) (same_room v.held states₀ states arcs₀ arcs u.built.states_kept u.built.arcs_kept) b in
          subst (λ ps. Builds a (room states₀ arcs₀) (pattern_operands ps p ++ join_operands (dones states arcs hs) v.joins p) used e) (reads_same v.held states₀ states arcs₀ arcs u.built.states_kept u.built.arcs_kept v.patterns held) one

      module _ (states' : List State) (arcs' : List (Arc L)) where
        pub stopped : (used' : Rows) (x : Halt) (v' : Verdict) → v' ≡ stop_verdict p x → PartBuilt a (pattern_operands (map (read states arcs) v.patterns) p ++ join_operands (dones states arcs hs) v.joins p) used states arcs states' arcs' (Err (break_of used' x)) → Stopped a v states₀ arcs₀ states' arcs' used' v'
        stopped used' x v' names b = record {
          part = p;
          halt = x;
          names = names;
          finished = dones states arcs hs;
          course = by (break_of used' x) b.builds;
          states_kept = kept_more v.held.states states₀ states states' u.built.states_kept (kept_less used.states v.held.states states states' u.built.more_states b.states_kept);
          arcs_kept = kept_more v.held.arcs arcs₀ arcs arcs' u.built.arcs_kept (kept_less used.arcs v.held.arcs arcs arcs' u.built.more_arcs b.arcs_kept);
        }
          where
            by : (x : Break) → Builds a (room states arcs) (pattern_operands (map (read states arcs) v.patterns) p ++ join_operands (dones states arcs hs) v.joins p) used (halted x) → Course a (room states₀ arcs₀) s [] v.held (outcome_of p x (dones states arcs hs))
            by (full_at t r) b = u.leads _ (stops next (builds_here _ b))
            by (empty_at r) b = u.leads _ (empties next (builds_here _ b))

        pub underway_more : (w : Work) → PartBuilt a (pattern_operands (map (read states arcs) v.patterns) p ++ join_operands (dones states arcs hs) v.joins p) used states arcs states' arcs' (Ok w) → Underway a v states₀ arcs₀ states' arcs' (hs ++ record { part = p; place = w.running } ∷ []) w.used
        underway_more w b =
            let h : Held = record { part = p; place = w.running } in
            let same = map_push (done states' arcs') hs h ∙ ap (λ ds. ds ++ done states' arcs' h ∷ []) (dones_same used states states' arcs arcs' b.states_kept b.arcs_kept hs u.built.stand) in
            record {
              leads = λ o c. u.leads o (finishes next (builds_here _ b.builds) (subst (λ ds. Course a (room states₀ arcs₀) s ds w.used o) same c));
              built = record {
                in_use = b.grown.works.in_use;
                more_states = omega (arith, u.built.more_states, b.grown.more_states);
                more_arcs = omega (arith, u.built.more_arcs, b.grown.more_arcs);
                stand = every_push (λ h. Stands states' arcs' w.used h.place) hs h
                    (λ y has. stands_more states' arcs' used w.used y.place b.grown.more_states b.grown.more_arcs (stands_same used states states' arcs arcs' b.states_kept b.arcs_kept y.place (u.built.stand y has))) b.grown.works.stands;
                behind = every_push (λ h. v.held.states ≤ h.place.first.states) hs h u.built.behind (omega (arith, u.built.more_states, b.behind));
                states_kept = kept_more v.held.states states₀ states states' u.built.states_kept (kept_less used.states v.held.states states states' u.built.more_states b.states_kept);
                arcs_kept = kept_more v.held.arcs arcs₀ arcs arcs' u.built.arcs_kept (kept_less used.arcs v.held.arcs arcs arcs' u.built.more_arcs b.arcs_kept);
              };
              below = every_push (λ h. h.part < v.parts) hs h u.below low;
              once = once_push hs h u.once o.unfinished;
            }

    pub completed : Acyclic v.joins → Known v.parts v.joins → ((p : ℕ) → p < v.parts → Open v.joins hs p → ⊥) → Completed a v states₀ arcs₀ states arcs hs used
    completed acyclic known none_open =
        let all : (p : ℕ) → p < v.parts → Finished (dones states arcs hs) p = none_due s acyclic known (dones states arcs hs) (λ p d. none_open p d.part (due_open states arcs hs s p d)) in
        record { course = u.leads _ (ends all); built = u.built; all = λ p low. finished_among states arcs hs p (all p low) }

-- held patterns stand among the held rows
pub whole_stands : {L : Type 0} (v : View) (states : List State) (arcs : List (Arc L)) → ((h : Held) → Has v.patterns h → (h.place.first.states + h.place.count.states ≤ v.held.states) × (h.place.first.arcs + h.place.count.arcs ≤ v.held.arcs)) → Whole v.patterns v.held states arcs → AllStand states arcs v.held v.patterns
whole_stands v states arcs among whole h has = record { lies = record { states = (among h has).0; arcs = (among h has).1 }; inside = whole.inside h has }
