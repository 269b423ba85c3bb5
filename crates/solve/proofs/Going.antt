-- What builds behind the rows in use do, and builds one after another.
use Rattle.std.proofs.Common.{◌≡◌, ℕ, zero, suc, Bool, true, false, ◌||◌, map, refl, ◌+◌, ◌<◌, ◌≤◌, min, ◌⊎◌, List, [], ◌∷◌, ◌++◌, length, get_or, IsErrAnd, Ok, Err, Result, sym, ap, ◌∙◌, subst, ⊎_elim, arith}
use Rattle.std.specs.List.{list_any}
use Rattle.std.proofs.lemmas.Bool.{cases_Bool, both_ways}
use Rattle.std.proofs.lemmas.Result.{err_from_is_err_and}
use Rattle.std.proofs.lemmas.List.{length-map, get_or-map, append-nil, append_assoc}
use Rattle.alphabet.specs.Labels.{Labels}
use Rattle.automaton.specs.declared.Arc.{Arc}
use Rattle.automaton.specs.declared.State.{State}
use Rattle.automaton.specs.Automaton.{Automaton, Inside, accepting, unmarked, of_rows}
use Rattle.automaton.specs.Nfa.{Nfa, all_words}
use Rattle.automaton.proofs.Realizing.{realizes_inside}
use Rattle.build.specs.declared.Place.{Place}
use Rattle.build.specs.declared.Rows.{Rows}
use Rattle.build.specs.Outcome.{Built}
use Rattle.build.specs.Tables.{part, at, end, InUse, Lies, Stands, Kept}
use Rattle.build.proofs.Keeping.{kept_none, kept_more, kept_less, part_kept}
use Rattle.build.proofs.Parts.{length_part, get_d_part}
use Rattle.build.specs.Concats.{blank, concats}
use Rattle.build.specs.Pairs.{products}
use Rattle.verdict.specs.declared.Table.{Table}
use Rattle.verdict.specs.Course.{Operand, pattern, join, Ending, final, empty, Passes, Makes, plus, Alive, Dead, Meets, all_met, product_passes, product_dead, product_met, concat_passes, concat_built, Builds, all_pass, all_built}
use Rattle.solve.specs.declared.tables.Halt.{Halt}
use Rattle.solve.specs.declared.tables.Halt.TheVariants.{Full}
use Rattle.solve.specs.Builds.{Work, Break, full_at, empty_at, break_of, with_rows, room, halted, Added, Adds, Works, Grown, Leads, Behind, OkThen, ended, Went, PartBuilt}

-- how many rows an automaton in the tables has
module _ {L : Type 0} (states : List State) (arcs : List (Arc L)) (p : Place) where
  pub states_at : p.first.states + p.count.states ≤ length states → length (at states arcs p).states ≡ p.count.states
  states_at fits = length-map (part states p.first.states p.count.states) (λ (s : State). s.marks) ∙ length_part states p.first.states p.count.states fits

  pub arcs_at : p.first.arcs + p.count.arcs ≤ length arcs → length (at states arcs p).arcs ≡ p.count.arcs
  arcs_at fits = length_part arcs p.first.arcs p.count.arcs fits

  pub accepting_at : p.first.states + p.count.states ≤ length states → (q : ℕ) → q < p.count.states → accepting (at states arcs p) q ≡ (get_or states (p.first.states + q) blank).marks.accepting
  accepting_at fits q low =
      let mine = part states p.first.states p.count.states in
      let there : q < length mine = omega (arith, length_part states p.first.states p.count.states fits) in
      ap (λ x. x.accepting) (get_or-map (λ (s : State). s.marks) mine q blank unmarked there) ∙ ap (λ (s : State). s.marks.accepting) (get_d_part states p.first.states p.count.states fits q blank blank low)

-- a row accepts exactly if the automaton has an accepting state
rows_alive : (rows : List State) → list_any (λ (s : State). s.marks.accepting) rows ≡ true → (q : ℕ) × ((get_or (map (λ s. s.marks) rows) q unmarked).accepting ≡ true)
rows_alive [] h = absurd (both_ways false refl h)
rows_alive (s ∷ rows) h = go (rows_alive rows) s.marks.accepting refl h
  where
    go : (list_any (λ (s : State). s.marks.accepting) rows ≡ true → (q : ℕ) × ((get_or (map (λ s. s.marks) rows) q unmarked).accepting ≡ true)) → (b : Bool) → s.marks.accepting ≡ b → (b || list_any (λ (s : State). s.marks.accepting) rows) ≡ true → (q : ℕ) × ((get_or (map (λ s. s.marks) (s ∷ rows)) q unmarked).accepting ≡ true)
    go later true e h = (0, e)
    go later false e h = let found = later h in (suc found.0, found.1)

alive_rows : (rows : List State) (q : ℕ) → (get_or (map (λ s. s.marks) rows) q unmarked).accepting ≡ true → list_any (λ (s : State). s.marks.accepting) rows ≡ true
alive_rows [] q h = h
alive_rows (s ∷ rows) zero h = ap (λ b. b || list_any (λ (s : State). s.marks.accepting) rows) h
alive_rows (s ∷ rows) (suc q) h = go s.marks.accepting (alive_rows rows q h)
  where
    go : (b : Bool) → list_any (λ (s : State). s.marks.accepting) rows ≡ true → (b || list_any (λ (s : State). s.marks.accepting) rows) ≡ true
    go true e = refl
    go false e = e

pub any_alive : {L : Type 0} (states : List State) (arcs : List (Arc L)) (p : Place) → list_any (λ (s : State). s.marks.accepting) (part states p.first.states p.count.states) ≡ true → Alive (at states arcs p)
any_alive states arcs p h = rows_alive (part states p.first.states p.count.states) h

pub alive_any : {L : Type 0} (states : List State) (arcs : List (Arc L)) (p : Place) → Alive (at states arcs p) → list_any (λ (s : State). s.marks.accepting) (part states p.first.states p.count.states) ≡ true
alive_any states arcs p h = alive_rows (part states p.first.states p.count.states) h.0 h.1

-- tables whose first rows are kept have the same automata there
module _ {L : Type 0} (used : Rows) (states states' : List State) (arcs arcs' : List (Arc L)) (ks : Kept used.states states states') (ka : Kept used.arcs arcs arcs') where
  pub same_room : room states' arcs' ≡ room states arcs
  same_room i = record { states = min (ks.long i) 65536; arcs = min (ka.long i) 1048576 }

  pub at_same : (p : Place) → Lies used p → at states' arcs' p ≡ at states arcs p
  at_same p lies =
      let s = part_kept used.states states states' p.first.states p.count.states ks lies.states in
      let e = part_kept used.arcs arcs arcs' p.first.arcs p.count.arcs ka lies.arcs in
      λ i. of_rows (s i) (e i)

  pub stands_same : (p : Place) → Stands states arcs used p → Stands states' arcs' used p
  stands_same p h = record { lies = h.lies; inside = subst Inside (sym (at_same p h.lies)) h.inside }

-- an automaton stands among more rows too
pub stands_more : {L : Type 0} (states : List State) (arcs : List (Arc L)) (used more : Rows) (p : Place) → used.states ≤ more.states → used.arcs ≤ more.arcs → Stands states arcs used p → Stands states arcs more p
stands_more states arcs used more p s e h = record { lies = record { states = omega (arith, h.lies.states); arcs = omega (arith, h.lies.arcs) }; inside = h.inside }

-- the rows in use after a build
pub added : {S E L : Type 0} {a : Labels L} {n : Nfa S E L} {used : Rows} {states : List State} {arcs : List (Arc L)} {p : Place} {used' : Rows} → used' ≡ end p → Built a n used states arcs p → Added a n used states arcs used' p
added is b = record {
  built = b;
  states = omega (arith, ap (λ r. r.states) is, b.states_fit, ap (λ r. r.states) b.behind);
  arcs = omega (arith, ap (λ r. r.arcs) is, b.arcs_fit, ap (λ r. r.arcs) b.behind);
}

-- the answer to a build that can be made
pub answered : {R X Q : Type 0} → (R × X) ⊎ ((R → ⊥) × Q) → R → X
answered h ready = ⊎_elim (λ yes'. yes'.1) (λ no. absurd (no.0 ready)) h

module _ {S E L : Type 0} (a : Labels L) (n : Nfa S E L) (used : Rows) (states states' : List State) (arcs arcs' : List (Arc L)) (ks : Kept used.states states states') (ka : Kept used.arcs arcs arcs') where
  -- a build that was made
  module _ (p : Place) (b : Built a n used states' arcs' p) (end : Rows) (es : end.states ≡ p.first.states + p.count.states) (ea : end.arcs ≡ p.first.arcs + p.count.arcs) where
    first_states : p.first.states ≡ used.states
    first_states = ap (λ r. r.states) b.behind

    first_arcs : p.first.arcs ≡ used.arcs
    first_arcs = ap (λ r. r.arcs) b.behind

    pub made_states : length (at states' arcs' p).states ≡ p.count.states
    made_states = states_at states' arcs' p (omega (arith, first_states, b.states_fit))

    pub made_arcs : length (at states' arcs' p).arcs ≡ p.count.arcs
    made_arcs = arcs_at states' arcs' p (omega (arith, first_arcs, b.arcs_fit))

    pub end_is : end ≡ plus used (at states' arcs' p)
    end_is =
        let s : end.states ≡ used.states + length (at states' arcs' p).states = omega (arith, es, first_states, made_states) in
        let e : end.arcs ≡ used.arcs + length (at states' arcs' p).arcs = omega (arith, ea, first_arcs, made_arcs) in
        λ i. record { states = s i; arcs = e i }

    pub makes : Makes a n (room states arcs) used (at states' arcs' p)
    makes = record {
      realizes = b.realizes;
      fits = record { states = omega (arith, b.states_fit, made_states, ks.long); arcs = omega (arith, b.arcs_fit, made_arcs, ka.long) };
    }

    pub end_in_use : InUse states' arcs' end
    end_in_use = record { states_fit = omega (arith, b.states_fit, es, first_states); arcs_fit = omega (arith, b.arcs_fit, ea, first_arcs) }

    pub made_stands : Stands states' arcs' end p
    made_stands = record { lies = record { states = omega (arith, es); arcs = omega (arith, ea) }; inside = realizes_inside b.realizes }

    pub end_more : (used.states ≤ end.states) × (used.arcs ≤ end.arcs)
    end_more = (omega (arith, es, first_states), omega (arith, ea, first_arcs))

-- more rows are in use than before
grown_more : {L : Type 0} (r : Result Work Break) (before used : Rows) (states₂ : List State) (arcs₂ : List (Arc L)) → before.states ≤ used.states → before.arcs ≤ used.arcs → OkThen r (Grown states₂ arcs₂ used) → OkThen r (Grown states₂ arcs₂ before)
grown_more (Ok w₂) before used states₂ arcs₂ s e g = record { works = g.works; more_states = omega (arith, g.more_states); more_arcs = omega (arith, g.more_arcs) }
grown_more (Err x) before used states₂ arcs₂ s e g = tt

behind_then : (r : Result Work Break) (w w₁ : Work) → w.used.states ≤ w₁.used.states → Behind w w₁ → OkThen r (Behind w₁) → OkThen r (Behind w)
behind_then (Ok w₂) w w₁ more h k = λ n low low'. k n (h n low low') (omega (arith, low'))
behind_then (Err x) w w₁ more h k = tt

-- no operand, one after another, and operands after an end
module _ {L : Type 0} (a : Labels L) (w : Work) (states : List State) (arcs : List (Arc L)) where
  pub went_none : Works states arcs w → Went a [] w states arcs states arcs (Ok w)
  went_none works = record {
    leads = λ rest e h. h;
    grown = record { works = works; more_states = omega arith; more_arcs = omega arith };
    behind = λ n low _. low;
    states_kept = kept_none w.used.states states;
    arcs_kept = kept_none w.used.arcs arcs;
  }

  leads_then : (os os' : List (Operand L)) (m : Automaton L) (used : Rows) (states₁ : List State) (arcs₁ : List (Arc L)) (w₁ : Work) (states₂ : List State) (arcs₂ : List (Arc L)) (r : Result Work Break) →
      Leads a (room states arcs) os m used states₁ arcs₁ (Ok w₁) → Leads a (room states arcs) os' (at states₁ arcs₁ w₁.running) w₁.used states₂ arcs₂ r → Leads a (room states arcs) (os ++ os') m used states₂ arcs₂ r
  leads_then os os' m used states₁ arcs₁ w₁ states₂ arcs₂ (Ok w₂) h k = λ rest e go. subst (λ l. Meets a (room states arcs) l m used e) (sym (append_assoc os os' rest)) (h (os' ++ rest) e (k rest e go))
  leads_then os os' m used states₁ arcs₁ w₁ states₂ arcs₂ (Err x) h k = λ rest. subst (λ l. Meets a (room states arcs) l m used (halted x)) (sym (append_assoc os os' rest)) (h (os' ++ rest) (halted x) (k rest))

  pub went_then : {os os' : List (Operand L)} {states₁ : List State} {arcs₁ : List (Arc L)} {w₁ : Work} {states₂ : List State} {arcs₂ : List (Arc L)} {r : Result Work Break} →
      Went a os w states arcs states₁ arcs₁ (Ok w₁) → Went a os' w₁ states₁ arcs₁ states₂ arcs₂ r → Went a (os ++ os') w states arcs states₂ arcs₂ r
  went_then {os} {os'} {states₁} {arcs₁} {w₁} {states₂} {arcs₂} {r} h k =
      let same = same_room w.used states states₁ arcs arcs₁ h.states_kept h.arcs_kept in
      record {
        leads = leads_then os os' (at states arcs w.running) w.used states₁ arcs₁ w₁ states₂ arcs₂ r h.leads (subst (λ x. Leads a x os' (at states₁ arcs₁ w₁.running) w₁.used states₂ arcs₂ r) same k.leads);
        grown = grown_more r w.used w₁.used states₂ arcs₂ h.grown.more_states h.grown.more_arcs k.grown;
        behind = behind_then r w w₁ h.grown.more_states h.behind k.behind;
        states_kept = kept_more w.used.states states states₁ states₂ h.states_kept (kept_less w₁.used.states w.used.states states₁ states₂ h.grown.more_states k.states_kept);
        arcs_kept = kept_more w.used.arcs arcs arcs₁ arcs₂ h.arcs_kept (kept_less w₁.used.arcs w.used.arcs arcs₁ arcs₂ h.grown.more_arcs k.arcs_kept);
      }

  -- an end, with the operands that are left, as `?` hands it on
  pub went_broken : {os : List (Operand L)} (os' : List (Operand L)) {all : List (Operand L)} → os ++ os' ≡ all → {states₁ : List State} {arcs₁ : List (Arc L)} (used' : Rows) (x : Halt) (r : Result Place Halt) → IsErrAnd r (λ y. y ≡ x) →
      Went a os w states arcs states₁ arcs₁ (Err (break_of used' x)) → Went a all w states arcs states₁ arcs₁ (with_rows used' r)
  went_broken {os} os' {all} whole {states₁} {arcs₁} used' x r by h =
      let is = err_from_is_err_and r by in
      subst (λ y. Went a all w states arcs states₁ arcs₁ (with_rows used' y)) (sym (is.1 ∙ ap Err is.2))
      (record {
        leads = λ rest. subst (λ l. Meets a (room states arcs) l (at states arcs w.running) w.used (halted (break_of used' x))) (sym (append_assoc os os' rest) ∙ ap (λ l. l ++ rest) whole) (h.leads (os' ++ rest));
        grown = tt;
        behind = tt;
        states_kept = h.states_kept;
        arcs_kept = h.arcs_kept;
      })

  -- what stood among the rows in use still does
  pub went_stands : {os : List (Operand L)} {states₁ : List State} {arcs₁ : List (Arc L)} {w₁ : Work} → Went a os w states arcs states₁ arcs₁ (Ok w₁) → (p : Place) → Stands states arcs w.used p → Stands states₁ arcs₁ w₁.used p
  went_stands {states₁ = states₁} {arcs₁ = arcs₁} {w₁ = w₁} h p stands = stands_more states₁ arcs₁ w.used w₁.used p h.grown.more_states h.grown.more_arcs (stands_same w.used states states₁ arcs arcs₁ h.states_kept h.arcs_kept p stands)

-- one operand
module _ {L : Type 0} (a : Labels L) (w : Work) (states states' : List State) (arcs arcs' : List (Arc L)) (ks : Kept w.used.states states states') (ka : Kept w.used.arcs arcs arcs') where
  abbrev running : Automaton L
  running = at states arcs w.running

  -- met with an automaton k
  module _ (k : Automaton L) where
    module _ (p : Place) (b : Built a (products a running k) w.used states' arcs' p) (end : Rows) (es : end.states ≡ p.first.states + p.count.states) (ea : end.arcs ≡ p.first.arcs + p.count.arcs) where
      made : Makes a (products a running k) (room states arcs) w.used (at states' arcs' p)
      made = makes a (products a running k) w.used states states' arcs arcs' ks ka p b end es ea

      ending : end ≡ plus w.used (at states' arcs' p)
      ending = end_is a (products a running k) w.used states states' arcs arcs' ks ka p b end es ea

      pub met_alive : Alive (at states' arcs' p) → Went a (pattern k ∷ []) w states arcs states' arcs' (Ok (record { used = end; running = p }))
      met_alive alive =
          let more = end_more a (products a running k) w.used states states' arcs arcs' ks ka p b end es ea in
          record {
            leads = λ rest e h. product_met made alive (subst (λ u. Meets a (room states arcs) rest (at states' arcs' p) u e) ending h);
            grown = record {
              works = record {
                in_use = end_in_use a (products a running k) w.used states states' arcs arcs' ks ka p b end es ea;
                stands = made_stands a (products a running k) w.used states states' arcs arcs' ks ka p b end es ea;
              };
              more_states = more.0;
              more_arcs = more.1;
            };
            behind = λ n _ low. omega (arith, low, ap (λ r. r.states) b.behind);
            states_kept = ks;
            arcs_kept = ka;
          }

      pub met_dead : Dead (at states' arcs' p) → Went a (pattern k ∷ []) w states arcs states' arcs' (Err (empty_at end))
      met_dead dead = record {
        leads = λ rest. subst (λ u. Meets a (room states arcs) (pattern k ∷ rest) running w.used (empty u)) (sym ending) (product_dead made dead);
        grown = tt;
        behind = tt;
        states_kept = ks;
        arcs_kept = ka;
      }

    pub met_full : (t : Table) → Passes (products a running k) (room states arcs) w.used t → Went a (pattern k ∷ []) w states arcs states' arcs' (Err (full_at t w.used))
    met_full t h = record { leads = λ rest. product_passes h; grown = tt; behind = tt; states_kept = ks; arcs_kept = ka }

  -- met with the concatenation of y and z
  module _ (y z : Automaton L) where
    pub joined_full : (t : Table) → Passes (concats a y z) (room states arcs) w.used t → Went a (join y z ∷ []) w states arcs states' arcs' (Err (full_at t w.used))
    joined_full t h = record { leads = λ rest. concat_passes h; grown = tt; behind = tt; states_kept = ks; arcs_kept = ka }

    module _ (lies : Lies w.used w.running) (p : Place) (b : Built a (concats a y z) w.used states' arcs' p) (end : Rows) (es : end.states ≡ p.first.states + p.count.states) (ea : end.arcs ≡ p.first.arcs + p.count.arcs) where
      abbrev next : Work
      next = record { used = end; running = w.running }

      back : (rest : List (Operand L)) (e : Ending L) → Meets a (room states' arcs') (pattern (at states' arcs' p) ∷ rest) (at states' arcs' w.running) end e → Meets a (room states arcs) (join y z ∷ rest) running w.used e
      back rest e h =
          let one = subst (λ x. Meets a x (pattern (at states' arcs' p) ∷ rest) (at states' arcs' w.running) end e) (same_room w.used states states' arcs arcs' ks ka) h in
          let two = subst (λ m. Meets a (room states arcs) (pattern (at states' arcs' p) ∷ rest) m end e) (at_same w.used states states' arcs arcs' ks ka w.running lies) one in
          let three = subst (λ u. Meets a (room states arcs) (pattern (at states' arcs' p) ∷ rest) running u e) (end_is a (concats a y z) w.used states states' arcs arcs' ks ka p b end es ea) two in
          concat_built (makes a (concats a y z) w.used states states' arcs arcs' ks ka p b end es ea) three

      behind_more : (r : Result Work Break) (u : Rows) → w.used.states ≤ u.states → OkThen r (Behind (record { used = u; running = w.running })) → OkThen r (Behind w)
      behind_more (Ok w₂) u more h = λ n low low'. h n low (omega (arith, low'))
      behind_more (Err x) u more h = tt

      leads_back : (states₂ : List State) (arcs₂ : List (Arc L)) (r : Result Work Break) → Leads a (room states' arcs') (pattern (at states' arcs' p) ∷ []) (at states' arcs' w.running) end states₂ arcs₂ r → Leads a (room states arcs) (join y z ∷ []) running w.used states₂ arcs₂ r
      leads_back states₂ arcs₂ (Ok w₂) h = λ rest e go. back rest e (h rest e (subst (λ x. Meets a x rest (at states₂ arcs₂ w₂.running) w₂.used e) (sym (same_room w.used states states' arcs arcs' ks ka)) go))
      leads_back states₂ arcs₂ (Err x) h = λ rest. back rest (halted x) (h rest)

      pub joined_met : {states₂ : List State} {arcs₂ : List (Arc L)} {r : Result Work Break} → Went a (pattern (at states' arcs' p) ∷ []) next states' arcs' states₂ arcs₂ r → Went a (join y z ∷ []) w states arcs states₂ arcs₂ r
      joined_met {states₂} {arcs₂} {r} h =
          let more = end_more a (concats a y z) w.used states states' arcs arcs' ks ka p b end es ea in
          record {
            leads = leads_back states₂ arcs₂ r h.leads;
            grown = grown_more r w.used end states₂ arcs₂ more.0 more.1 h.grown;
            behind = behind_more r end more.0 h.behind;
            states_kept = kept_more w.used.states states states' states₂ ks (kept_less end.states w.used.states states' states₂ more.0 h.states_kept);
            arcs_kept = kept_more w.used.arcs arcs arcs' arcs₂ ka (kept_less end.arcs w.used.arcs arcs' arcs₂ more.1 h.arcs_kept);
          }

-- a part: all words, and then its operands
module _ {L : Type 0} (a : Labels L) (used : Rows) (states states' : List State) (arcs arcs' : List (Arc L)) (ks : Kept used.states states states') (ka : Kept used.arcs arcs arcs') where
  pub part_full : (os : List (Operand L)) (t : Table) → Passes (all_words a) (room states arcs) used t → PartBuilt a os used states arcs states' arcs' (Err (full_at t used))
  part_full os t h = record { builds = all_pass h; grown = tt; behind = tt; states_kept = ks; arcs_kept = ka }

  module _ (p : Place) (b : Built a (all_words a) used states' arcs' p) (end : Rows) (es : end.states ≡ p.first.states + p.count.states) (ea : end.arcs ≡ p.first.arcs + p.count.arcs) where
    abbrev first : Work
    first = record { used = end; running = p }

    pub begun : Works states' arcs' first
    begun = record { in_use = end_in_use a (all_words a) used states states' arcs arcs' ks ka p b end es ea; stands = made_stands a (all_words a) used states states' arcs arcs' ks ka p b end es ea }

    from_all : (os : List (Operand L)) (e : Ending L) → Meets a (room states' arcs') os (at states' arcs' p) end e → Builds a (room states arcs) os used e
    from_all os e h =
        let one = subst (λ x. Meets a x os (at states' arcs' p) end e) (same_room used states states' arcs arcs' ks ka) h in
        all_built (makes a (all_words a) used states states' arcs arcs' ks ka p b end es ea) (subst (λ u. Meets a (room states arcs) os (at states' arcs' p) u e) (end_is a (all_words a) used states states' arcs arcs' ks ka p b end es ea) one)

    builds_from : (os : List (Operand L)) (states₂ : List State) (arcs₂ : List (Arc L)) (r : Result Work Break) → Leads a (room states' arcs') os (at states' arcs' p) end states₂ arcs₂ r → Builds a (room states arcs) os used (ended states₂ arcs₂ r)
    builds_from os states₂ arcs₂ (Ok w) h = from_all os (final (at states₂ arcs₂ w.running) w.used) (subst (λ l. Meets a (room states' arcs') l (at states' arcs' p) end (final (at states₂ arcs₂ w.running) w.used)) (append-nil os) (h [] _ all_met))
    builds_from os states₂ arcs₂ (Err x) h = from_all os (halted x) (subst (λ l. Meets a (room states' arcs') l (at states' arcs' p) end (halted x)) (append-nil os) (h []))

    behind_used : (r : Result Work Break) → used.states ≤ end.states → OkThen r (Behind first) → OkThen r (λ w. used.states ≤ w.running.first.states)
    behind_used (Ok w) low h = h used.states (omega (arith, ap (λ r. r.states) b.behind)) low
    behind_used (Err x) low h = tt

    pub part_met : {os : List (Operand L)} {states₂ : List State} {arcs₂ : List (Arc L)} {r : Result Work Break} → Went a os first states' arcs' states₂ arcs₂ r → PartBuilt a os used states arcs states₂ arcs₂ r
    part_met {os} {states₂} {arcs₂} {r} h =
        let more = end_more a (all_words a) used states states' arcs arcs' ks ka p b end es ea in
        record {
          builds = builds_from os states₂ arcs₂ r h.leads;
          grown = grown_more r used end states₂ arcs₂ more.0 more.1 h.grown;
          behind = behind_used r more.0 h.behind;
          states_kept = kept_more used.states states states' states₂ ks (kept_less end.states used.states states' states₂ more.0 h.states_kept);
          arcs_kept = kept_more used.arcs arcs arcs' arcs₂ ka (kept_less end.arcs used.arcs arcs' arcs₂ more.1 h.arcs_kept);
        }

-- what the code does with the answer to a build
module _ {L : Type 0} (a : Labels L) (used : Rows) (states : List State) (arcs : List (Arc L)) (states' : List State) (arcs' : List (Arc L)) (used' : Rows) where
  -- an answer that `?` hands on
  handed_on : (P : Result Work Break → Type 0) (t : Table) (r : Result Place Halt) → IsErrAnd r (λ y. y ≡ Full t) → used' ≡ used → P (Err (full_at t used)) → P (with_rows used' r)
  handed_on P t r by same h =
      let is = err_from_is_err_and r by in
      subst (λ x. P (with_rows used' x)) (sym (is.1 ∙ ap Err is.2)) (subst (λ u. P (Err (full_at t u))) (sym same) h)

  module _ (running : Place) where
    abbrev work : Work
    work = record { used = used; running = running }

    module _ (k : Automaton L) where
      pub meets_alive : (p : Place) → Adds a (products a (at states arcs running) k) states arcs used states' arcs' used' (Ok p) → Alive (at states' arcs' p) → Went a (pattern k ∷ []) work states arcs states' arcs' (Ok (record { used = used'; running = p }))
      meets_alive p h alive = met_alive a work states states' arcs arcs' h.states_kept h.arcs_kept k p h.answers.built used' h.answers.states h.answers.arcs alive

      pub meets_dead : (p : Place) → Adds a (products a (at states arcs running) k) states arcs used states' arcs' used' (Ok p) → (Alive (at states' arcs' p) → ⊥) → Went a (pattern k ∷ []) work states arcs states' arcs' (Err (empty_at used'))
      meets_dead p h dead = met_dead a work states states' arcs arcs' h.states_kept h.arcs_kept k p h.answers.built used' h.answers.states h.answers.arcs (λ q. ⊎_elim (λ yes'. absurd (dead (q, yes'))) (λ no. no) (cases_Bool _))

      pub meets_full : (t : Table) (r : Result Place Halt) → IsErrAnd r (λ y. y ≡ Full t) → Adds a (products a (at states arcs running) k) states arcs used states' arcs' used' (Err t) → Went a (pattern k ∷ []) work states arcs states' arcs' (with_rows used' r)
      meets_full t r by h = handed_on (Went a (pattern k ∷ []) work states arcs states' arcs') t r by h.answers.1 (met_full a work states states' arcs arcs' h.states_kept h.arcs_kept k t h.answers.0)

    -- the running result still stands
    pub runs_on : {S E : Type 0} {n : Nfa S E L} (p : Place) → Stands states arcs used running → Adds a n states arcs used states' arcs' used' (Ok p) → Stands states' arcs' used' running
    runs_on {n = n} p stands h =
        let more = end_more a n used states states' arcs arcs' h.states_kept h.arcs_kept p h.answers.built used' h.answers.states h.answers.arcs in
        stands_more states' arcs' used used' running more.0 more.1 (stands_same used states states' arcs arcs' h.states_kept h.arcs_kept running stands)

    module _ (y z : Automaton L) where
      pub joins_full : (t : Table) (r : Result Place Halt) → IsErrAnd r (λ y. y ≡ Full t) → Adds a (concats a y z) states arcs used states' arcs' used' (Err t) → Went a (join y z ∷ []) work states arcs states' arcs' (with_rows used' r)
      joins_full t r by h = handed_on (Went a (join y z ∷ []) work states arcs states' arcs') t r by h.answers.1 (joined_full a work states states' arcs arcs' h.states_kept h.arcs_kept y z t h.answers.0)

      pub joins_met : (p : Place) → Lies used running → Adds a (concats a y z) states arcs used states' arcs' used' (Ok p) → {states₂ : List State} {arcs₂ : List (Arc L)} {r : Result Work Break} → Went a (pattern (at states' arcs' p) ∷ []) (record { used = used'; running = running }) states' arcs' states₂ arcs₂ r → Went a (join y z ∷ []) work states arcs states₂ arcs₂ r
      joins_met p lies h went = joined_met a work states states' arcs arcs' h.states_kept h.arcs_kept y z lies p h.answers.built used' h.answers.states h.answers.arcs went

  pub parts_full : (os : List (Operand L)) (t : Table) (r : Result Place Halt) → IsErrAnd r (λ y. y ≡ Full t) → Adds a (all_words a) states arcs used states' arcs' used' (Err t) → PartBuilt a os used states arcs states' arcs' (with_rows used' r)
  parts_full os t r by h = handed_on (PartBuilt a os used states arcs states' arcs') t r by h.answers.1 (part_full a used states states' arcs arcs' h.states_kept h.arcs_kept os t h.answers.0)

  pub parts_met : {os : List (Operand L)} (p : Place) → Adds a (all_words a) states arcs used states' arcs' used' (Ok p) → {states₂ : List State} {arcs₂ : List (Arc L)} {r : Result Work Break} → Went a os (record { used = used'; running = p }) states' arcs' states₂ arcs₂ r → PartBuilt a os used states arcs states₂ arcs₂ r
  parts_met p h went = part_met a used states states' arcs arcs' h.states_kept h.arcs_kept p h.answers.built used' h.answers.states h.answers.arcs went
