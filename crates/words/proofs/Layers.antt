-- Layers of states, as rounds add to them.
use Rattle.std.proofs.Common.{◌≡◌, ℕ, zero, suc, ◌+◌, ◌<◌, ◌≤◌, Bool, true, false, cond, ◌⊎◌, length, is_some, Some, None, Option, sym, refl, ap, ◌∙◌, subst, inl, inr, ⊎_elim, arith, MatchOption}
use Rattle.std.specs.List.{ContainsAt as Has}
use Rattle.std.proofs.ByRecursion.{has_get_or}
use Rattle.std.proofs.lemmas.Bool.{cases_eq, cases_lt, cases_Bool, both_ways, false≢true}
use Rattle.alphabet.specs.Labels.{Labels, Lawful, Empty, Least}
use Rattle.automaton.specs.declared.Arc.{Arc}
use Rattle.automaton.specs.Automaton.{Automaton, Word, Walk, stay, step, Accepts, initial, accepting, arc_at}
use Rattle.automaton.proofs.Realizing.{initial_below, accepting_below}
use Rattle.words.specs.Layers.{count, Leads, Rises, Layered, Begun, Settled, Upto, Complete, Round}

pub count_low : (f : ℕ → ℕ) (n : ℕ) → count f n ≤ n
unfolding count
count_low f zero = omega arith
count_low f (suc n) = omega (arith, count_low f n)

pub count_same : (f g : ℕ → ℕ) (n : ℕ) → ((q : ℕ) → g q ≡ f q) → count g n ≡ count f n
unfolding count
count_same f g zero same = refl
count_same f g (suc n) same = omega (arith, count_same f g n same, same n)

-- they differ nowhere below n
count_below : (f g : ℕ → ℕ) (n : ℕ) → ((q : ℕ) → q < n → g q ≡ f q) → count g n ≡ count f n
unfolding count
count_below f g zero same = refl
count_below f g (suc n) same = omega (arith, count_below f g n (λ q low. same q (omega arith)), same n (omega arith))

pub count_some : (f : ℕ → ℕ) (n q : ℕ) → q < n → 0 < f q → 1 ≤ count f n
unfolding count
count_some f zero q low some = absurd (omega arith)
count_some f (suc n) q low some = ⊎_elim (λ same. omega (arith, ap f same)) (λ other. omega (arith, count_some f n q (omega arith) some)) (cases_eq q n)

-- one state more
pub count_more : (f g : ℕ → ℕ) (n q : ℕ) → q < n → f q ≡ 0 → 0 < g q → ((r : ℕ) → (r ≡ q → ⊥) → g r ≡ f r) → count g n ≡ count f n + 1
unfolding count
count_more f g zero q low was is other = absurd (omega arith)
count_more f g (suc n) q low was is other =
    ⊎_elim
    (λ same. omega (arith, ap f same, ap g same, count_below f g n (λ r below. other r (λ e. omega arith))))
    (λ ne. omega (arith, other n (λ e. ne (sym e)), count_more f g n q (omega arith) was is other)) (cases_eq q n)

-- what a round has done after k arcs
pub record Rounding {L : Type 0} (a : Labels L) (m : Automaton L) (n : ℕ) (f g : ℕ → ℕ) (top k : ℕ) (more : Bool) : Type 0 where
  pub layered : Layered a m n g
  pub deep : (q : ℕ) → q < n → g q ≤ top + 1
  pub settled : Settled a m g top
  pub done : (j : ℕ) → j < k → is_some (a.first (arc_at a m j).label) ≡ true → g (arc_at a m j).to ≡ top → 0 < g (arc_at a m j).from
  pub rose : count f n ≤ count g n
  pub grown : more ≡ true → count f n < count g n
  pub same : more ≡ false → (q : ℕ) → g q ≡ f q

module _ {L : Type 0} (a : Labels L) (m : Automaton L) (n : ℕ) where
  pub begun_upto : (f : ℕ → ℕ) → length m.states ≡ n → Begun m n f → Upto a m n f 1
  begun_upto f long begun =
      let layer_of : (q : ℕ) → q < n → ((f q ≡ 1) × (accepting m q ≡ true)) ⊎ (f q ≡ 0) = λ q low. ⊎_elim (λ yes'. inl (begun q low ∙ ap (λ b. cond b 1 0) yes', yes')) (λ no. inr (begun q low ∙ ap (λ b. cond b 1 0) no)) (cases_Bool (accepting m q)) in
      record {
        layered = record {
          based = λ q yes'. let is : f q ≡ 1 = begun q (omega (arith, accepting_below m q yes')) ∙ ap (λ b. cond b 1 0) yes' in omega arith;
          each = λ q low. ⊎_elim (λ one. inr (inl one)) (λ none. inl none) (layer_of q low);
          low = λ q low. ⊎_elim (λ one. omega (arith, one.0, count_some f n q low (omega (arith, one.0)))) (λ none. omega arith) (layer_of q low);
        };
        deep = λ q low. ⊎_elim (λ one. omega (arith, one.0)) (λ none. omega arith) (layer_of q low);
        settled = λ b has some above below. absurd (omega arith);
      }

  module _ (inside : (b : Arc L) → Has m.arcs b → (b.from < n) × (b.to < n)) where
    module _ (f g : ℕ → ℕ) (top : ℕ) (b : Arc L) (has : Has m.arcs b) (above : 0 < top) (rises : Rises a f top b) (here : g b.from ≡ top + 1) (elsewhere : (r : ℕ) → (r ≡ b.from → ⊥) → g r ≡ f r) where
      -- a state with a layer keeps it
      kept : (q : ℕ) → 0 < f q → g q ≡ f q
      kept q some = elsewhere q (λ e. omega (arith, ap f e, rises.0))

      stays : (q : ℕ) → 0 < f q → 0 < g q
      stays q some = omega (arith, kept q some)

      raised_count : count g n ≡ count f n + 1
      raised_count = count_more f g n b.from (inside b has).0 rises.0 (omega (arith, here)) elsewhere

      layered_raise : Layered a m n f → Layered a m n g
      layered_raise h =
          let to_is : g b.to ≡ top = kept b.to (omega (arith, rises.1)) ∙ rises.1 in
          record {
            based = λ q yes'. stays q (h.based q yes');
            each = λ q low.
                ⊎_elim
                (λ (same : q ≡ b.from). inr (inr (b, has, omega arith, (sym same, refl, rises.2), ap g same ∙ here ∙ ap (λ x. x + 1) (sym to_is))))
                (λ (other : q ≡ b.from → ⊥).
                ⊎_elim (λ none. inl (elsewhere q other ∙ none))
                (λ some.
                ⊎_elim (λ one. inr (inl (elsewhere q other ∙ one.0, one.1)))
                (λ down. let is = kept down.0.to down.2 in inr (inr (down.0, down.1, stays down.0.to down.2, (down.3.0, refl, down.3.2), elsewhere q other ∙ down.4 ∙ ap (λ x. x + 1) (sym is)))) some)
                (h.each q low))
                (cases_eq q b.from);
            low = λ q low.
                ⊎_elim (λ (same : q ≡ b.from). omega (arith, ap g same, here, raised_count, h.low b.to (inside b has).1, rises.1)) (λ (other : q ≡ b.from → ⊥). omega (arith, elsewhere q other, raised_count, h.low q low))
                (cases_eq q b.from);
          }

      settled_raise : Settled a m f top → Settled a m g top
      settled_raise h = λ x has' some above' below.
          let is : g x.to ≡ f x.to = elsewhere x.to (λ e. omega (arith, ap g e, here)) in
          stays x.from (h x has' some (omega arith) (omega arith))

    pub rounding_none : (f : ℕ → ℕ) (top : ℕ) → Upto a m n f top → Rounding a m n f f top 0 false
    rounding_none f top h = record {
      layered = h.layered;
      deep = λ q low. omega (arith, h.deep q low);
      settled = h.settled;
      done = λ j low. absurd (omega arith);
      rose = omega arith;
      grown = λ e. absurd (false≢true e);
      same = λ e q. refl;
    }

    pub rounding_pass : (f g : ℕ → ℕ) (top k : ℕ) (more : Bool) → Rounding a m n f g top k more → (Rises a g top (arc_at a m k) → ⊥) → Rounding a m n f g top (k + 1) more
    rounding_pass f g top k more h not = record {
      layered = h.layered;
      deep = h.deep;
      settled = h.settled;
      done = λ j low some is.
          ⊎_elim
          (λ (same : j ≡ k). ⊎_elim (λ above. above) (λ zero'. absurd (not (subst (λ i. Rises a g top (arc_at a m i)) same ((let z : g (arc_at a m j).from ≡ 0 = omega arith in z), is, some)))) (cases_lt 0 (g (arc_at a m j).from)))
          (λ other. h.done j (omega arith) some is) (cases_eq j k);
      rose = h.rose;
      grown = h.grown;
      same = h.same;
    }

    pub rounding_raise : (f g g' : ℕ → ℕ) (top k : ℕ) (more : Bool) → k < length m.arcs → 0 < top → Rounding a m n f g top k more → Rises a g top (arc_at a m k) → g' (arc_at a m k).from ≡ top + 1 → ((r : ℕ) → (r ≡ (arc_at a m k).from → ⊥) → g' r ≡ g r) → Rounding a m n f g' top (k + 1) true
    rounding_raise f g g' top k more low above h rises here elsewhere =
        let b = arc_at a m k in
        let has : Has m.arcs b = has_get_or m.arcs k _ low in
        let counts = raised_count g g' top b has above rises here elsewhere in
        record {
          layered = layered_raise g g' top b has above rises here elsewhere h.layered;
          deep = λ q within. ⊎_elim (λ (same : q ≡ b.from). omega (arith, ap g' same, here)) (λ (other : q ≡ b.from → ⊥). omega (arith, elsewhere q other, h.deep q within)) (cases_eq q b.from);
          settled = settled_raise g g' top b has above rises here elsewhere h.settled;
          done = λ j below some is.
              ⊎_elim (λ (same : j ≡ k). omega (arith, ap (λ i. g' (arc_at a m i).from) same, here))
              (λ other.
              let was : g' (arc_at a m j).to ≡ g (arc_at a m j).to = elsewhere (arc_at a m j).to (λ e. omega (arith, ap g' e, here)) in
              stays g g' top b has above rises here elsewhere (arc_at a m j).from (h.done j (omega arith) some (sym was ∙ is)))
              (cases_eq j k);
          rose = omega (arith, h.rose);
          grown = λ _. omega (arith, h.rose);
          same = λ e. absurd (false≢true (sym e));
        }

    -- all arcs into the layers up to top are settled
    all_settled : (f g : ℕ → ℕ) (top k : ℕ) (more : Bool) → length m.arcs ≤ k → Rounding a m n f g top k more → Settled a m g (top + 1)
    all_settled f g top k more all h = λ b has some above below.
        ⊎_elim (λ low. h.settled b has some above low)
        (λ high.
        let is : arc_at a m has.0 ≡ b = has.2 _ in
        subst (λ (x : Arc L). 0 < g x.from) is (h.done has.0 (omega (arith, has.1)) (subst (λ (x : Arc L). is_some (a.first x.label) ≡ true) (sym is) some) (ap (λ (x : Arc L). g x.to) is ∙ (let e : g b.to ≡ top = omega arith in e))))
        (cases_lt (g b.to) top)

    pub rounding_end : (f g : ℕ → ℕ) (top k : ℕ) (more : Bool) → length m.arcs ≤ k → Upto a m n f top → Rounding a m n f g top k more → Round a m n f g top more
    rounding_end f g top k true all from h = (record { layered = h.layered; deep = h.deep; settled = all_settled f g top k true all h }, h.grown refl)
    rounding_end f g top k false all from h = record {
      layered = h.layered;
      closed = λ b has some above. all_settled f g top k false all h b has some above (omega (arith, h.same refl b.to, from.deep b.to (inside b has).1));
    }

  -- a state with a layer above 1 has an arc one layer down
  pub downward : (f : ℕ → ℕ) (q next : ℕ) → Layered a m n f → q < n → 0 < next → f q ≡ next + 1 → (k : ℕ) × (k < length m.arcs) × Leads a f q next (arc_at a m k)
  downward f q next h low above is =
      ⊎_elim (λ none. absurd (omega arith))
      (λ some.
      ⊎_elim (λ one. absurd (omega (arith, one.0)))
      (λ down.
      let has = down.1 in
      let at : down.0 ≡ arc_at a m has.0 = sym (has.2 _) in
      let to_is : f down.0.to ≡ next = omega (arith, down.4) in
      (has.0, has.1, subst (Leads a f q next) at (down.3.0, to_is, down.3.2))) some)
      (h.each q low)

  -- a state of the layer 1 is accepting
  pub bottom : (f : ℕ → ℕ) (q : ℕ) → Layered a m n f → q < n → f q ≡ 1 → accepting m q ≡ true
  bottom f q h low is =
      ⊎_elim (λ none. absurd (omega arith)) (λ some. ⊎_elim (λ one. one.1) (λ down. absurd (omega (arith, down.2, down.4))) some) (h.each q low)

module _ {L : Type 0} {a : Labels L} (laws : Lawful a) where
  -- a label that admits a letter has a first
  pub admitted_first : {l : L} {c : ℕ} → a.admits l c ≡ true → is_some (a.first l) ≡ true
  admitted_first {l} {c} yes' = some (a.first l) (laws.first_least l)
    where
      some : (o : Option ℕ) → MatchOption o (Empty (a.admits l)) (Least (a.admits l)) → is_some o ≡ true
      some None empty = absurd (both_ways _ (empty c) yes')
      some (Some _) _ = refl

  module _ (m : Automaton L) (n : ℕ) (f : ℕ → ℕ) (h : Complete a m n f) where
    -- a state from which a walk leads to an accepting state has a layer
    pub walk_layered : {q r : ℕ} {w : Word} → Walk a.admits m.arcs q w r → accepting m r ≡ true → 0 < f q
    walk_layered {q} stay yes' = h.layered.based q yes'
    walk_layered (step b has from yes' rest) ends = subst (λ x. 0 < f x) from (h.closed b has (admitted_first yes') (walk_layered rest ends))

    pub none_accepted : length m.states ≡ n → ((q : ℕ) → q < n → initial m q ≡ true → f q ≡ 0) → (w : Word) → Accepts a.admits m w → ⊥
    none_accepted long none w x = omega (arith, walk_layered x.walk x.ends, none x.start (omega (arith, initial_below m x.start x.starts)) x.starts)
