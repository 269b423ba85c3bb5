-- Rows that realize a build of rows realize the same build of what those rows realize.
use Rattle.std.proofs.Common.{◌≡◌, ◌⊎◌, ◌↔◌, sym, refl, ap, ◌∙◌, subst, ap₂, subst₂, inl, inr}
use Rattle.alphabet.specs.Labels.{Labels}
use Rattle.automaton.specs.Automaton.{Automaton}
use Rattle.automaton.specs.Nfa.{Nfa, rows, Realizes, Meets, Reachable, begin, go, product, either, choose, concat}
use Rattle.automaton.proofs.Concats.{inl_same, inr_same, inl_inr}

-- h takes the things of the kind P to those of the kind Q, one to each
pub record Pairs {X Y : Type 0} (P : X → Type 0) (Q : Y → Type 0) (h : X → Y) : Type 0 where
  pub each : (x : X) → P x → Q (h x)
  pub every : (y : Y) → Q y → (x : X) × P x × (h x ≡ y)
  pub once : (x z : X) → P x → P z → h x ≡ h z → x ≡ z

-- things of two kinds, each kind by itself
module _ {X Y X' Y' : Type 0} {P : X → Type 0} {Q : Y → Type 0} {h : X → Y} {P' : X' → Type 0} {Q' : Y' → Type 0} {h' : X' → Y'} (one : Pairs P Q h) (two : Pairs P' Q' h') where
  sum_each : (x : X ⊎ X') → either P P' x → either Q Q' (choose (λ x. inl (h x)) (λ x. inr (h' x)) x)
  sum_each (inl x) = one.each x
  sum_each (inr x) = two.each x

  sum_every : (y : Y ⊎ Y') → either Q Q' y → (x : X ⊎ X') × either P P' x × (choose (λ x. inl (h x)) (λ x. inr (h' x)) x ≡ y)
  sum_every (inl y) q = let x = one.every y q in (inl x.0, x.1, ap inl x.2)
  sum_every (inr y) q = let x = two.every y q in (inr x.0, x.1, ap inr x.2)

  sum_once : (x z : X ⊎ X') → either P P' x → either P P' z → ◌≡◌ {A = Y ⊎ Y'} (choose (λ x. inl (h x)) (λ x. inr (h' x)) x) (choose (λ x. inl (h x)) (λ x. inr (h' x)) z) → x ≡ z
  sum_once (inl x) (inl z) p p' e = ap inl (one.once x z p p' (inl_same e))
  sum_once (inl x) (inr z) p p' e = absurd (inl_inr e)
  sum_once (inr x) (inl z) p p' e = absurd (inl_inr (sym e))
  sum_once (inr x) (inr z) p p' e = ap inr (two.once x z p p' (inr_same e))

  pub pairs_sum : Pairs (either P P') (either Q Q') (choose (λ x. inl (h x)) (λ x. inr (h' x)))
  pairs_sum = record { each = sum_each; every = sum_every; once = sum_once }

-- the arc f of k leads from state to state as the arc e of n does, on the same label
pub record Copies {T F S E L : Type 0} (k : Nfa T F L) (n : Nfa S E L) (name : T → S) (f : F) (e : E) : Type 0 where
  pub from_state : k.State (k.from f)
  pub to_state : k.State (k.to f)
  pub from_is : name (k.from f) ≡ n.from e
  pub to_is : name (k.to f) ≡ n.to e
  pub label_is : k.label f ≡ n.label e

-- n is k with its states and arcs named otherwise
pub record Renames {T F S E L : Type 0} (k : Nfa T F L) (n : Nfa S E L) : Type 0 where
  pub name : T → S
  pub states : Pairs k.State n.State name
  pub starts : (q : T) → k.State q → k.Starts q ↔ n.Starts (name q)
  pub ends : (q : T) → k.State q → k.Ends q ↔ n.Ends (name q)
  pub arrow : F → E
  pub arcs : Pairs k.Arrow n.Arrow arrow
  pub follows : (f : F) → k.Arrow f → Copies k n name f (arrow f)

-- what rows realize is the rows, named otherwise
pub realizes_renames : {S E L : Type 0} {a : Labels L} {n : Nfa S E L} {m : Automaton L} → Realizes a n m → Renames (rows a m) n
realizes_renames r = record {
  name = r.name;
  states = record { each = r.states.each; every = r.states.every; once = r.states.once };
  starts = λ q low. (λ h. (r.starts q low).0 h.1, λ h. (low, (r.starts q low).1 h));
  ends = λ q low. r.ends q low;
  arrow = r.arrow;
  arcs = record { each = r.arcs.each; every = r.arcs.every; once = r.arcs.once };
  follows = λ k low.
      let f = r.follows k low in
      record { from_state = f.from_state; to_state = f.to_state; from_is = f.from_is; to_is = f.to_is; label_is = f.label_is };
}

-- rows realize what they realize under other names too
pub renames_realizes : {T F S E L : Type 0} {a : Labels L} {k : Nfa T F L} {n : Nfa S E L} {p : Automaton L} → Renames k n → Realizes a k p → Realizes a n p
renames_realizes {a} {k} {n} {p} r s = record {
  name = λ q. r.name (s.name q);
  states = record {
    each = λ i low. r.states.each (s.name i) (s.states.each i low);
    every = λ x h. let q = r.states.every x h in let i = s.states.every q.0 q.1 in (i.0, i.1, ap r.name i.2 ∙ q.2);
    once = λ i j low low' e. s.states.once i j low low' (r.states.once (s.name i) (s.name j) (s.states.each i low) (s.states.each j low') e);
  };
  starts = λ q low. let there = r.starts (s.name q) (s.states.each q low) in (λ h. there.0 ((s.starts q low).0 h), λ h. (s.starts q low).1 (there.1 h));
  ends = λ q low. let there = r.ends (s.name q) (s.states.each q low) in (λ h. there.0 ((s.ends q low).0 h), λ h. (s.ends q low).1 (there.1 h));
  arrow = λ j. r.arrow (s.arrow j);
  arcs = record {
    each = λ i low. r.arcs.each (s.arrow i) (s.arcs.each i low);
    every = λ x h. let q = r.arcs.every x h in let i = s.arcs.every q.0 q.1 in (i.0, i.1, ap r.arrow i.2 ∙ q.2);
    once = λ i j low low' e. s.arcs.once i j low low' (r.arcs.once (s.arrow i) (s.arrow j) (s.arcs.each i low) (s.arcs.each j low') e);
  };
  follows = λ j low.
      let f = s.follows j low in
      let g = r.follows (s.arrow j) (s.arcs.each j low) in
      record { from_state = f.from_state; to_state = f.to_state; from_is = ap r.name f.from_is ∙ g.from_is; to_is = ap r.name f.to_is ∙ g.to_is; label_is = f.label_is ∙ g.label_is };
}

module _ {T F S E T' F' S' E' L : Type 0} {k : Nfa T F L} {n : Nfa S E L} {k' : Nfa T' F' L} {n' : Nfa S' E' L} (r : Renames k n) (r' : Renames k' n') where
  module _ (a : Labels L) where
    reach_up : {p : T} {q : T'} → Reachable a k k' p q → Reachable a n n' (r.name p) (r'.name q)
    reach_up (begin {p} {q} h h') = begin ((r.starts p (k.starts_in p h)).0 h) ((r'.starts q (k'.starts_in q h')).0 h')
    reach_up (go e f there arrow arrow' from from' meets to to') =
        let c = r.follows e arrow in
        let c' = r'.follows f arrow' in
        go (r.arrow e) (r'.arrow f) (reach_up there) (r.arcs.each e arrow) (r'.arcs.each f arrow') (sym c.from_is ∙ ap r.name from) (sym c'.from_is ∙ ap r'.name from') (subst₂ (Meets a) c.label_is c'.label_is meets)
        (sym c.to_is ∙ ap r.name to) (sym c'.to_is ∙ ap r'.name to')

    -- a reachable pair is a pair of states
    reach_states : {p : T} {q : T'} → Reachable a k k' p q → k.State p × k'.State q
    reach_states (begin {p} {q} h h') = (k.starts_in p h, k'.starts_in q h')
    reach_states (go e f there arrow arrow' from from' meets to to') = (subst k.State to (r.follows e arrow).to_state, subst k'.State to' (r'.follows f arrow').to_state)

    reach_down : {s : S} {t : S'} → Reachable a n n' s t → (p : T) → k.State p → r.name p ≡ s → (q : T') → k'.State q → r'.name q ≡ t → Reachable a k k' p q
    reach_down (begin h h') p low is q low' is' = begin ((r.starts p low).1 (subst n.Starts (sym is) h)) ((r'.starts q low').1 (subst n'.Starts (sym is') h'))
    reach_down (go e f there arrow arrow' from from' meets to to') p low is q low' is' =
        let i = r.arcs.every e arrow in
        let j = r'.arcs.every f arrow' in
        let c = r.follows i.0 i.1 in
        let c' = r'.follows j.0 j.1 in
        let before = reach_down there (k.from i.0) c.from_state (c.from_is ∙ ap n.from i.2 ∙ from) (k'.from j.0) c'.from_state (c'.from_is ∙ ap n'.from j.2 ∙ from') in
        go i.0 j.0 before i.1 j.1 refl refl (subst₂ (Meets a) (sym (c.label_is ∙ ap n.label i.2)) (sym (c'.label_is ∙ ap n'.label j.2)) meets)
        (r.states.once (k.to i.0) p c.to_state low (c.to_is ∙ ap n.to i.2 ∙ to ∙ sym is))
        (r'.states.once (k'.to j.0) q c'.to_state low' (c'.to_is ∙ ap n'.to j.2 ∙ to' ∙ sym is'))

    reach_found : {s : S} {t : S'} → Reachable a n n' s t → (p : T) × (q : T') × k.State p × k'.State q × (r.name p ≡ s) × (r'.name q ≡ t)
    reach_found (begin {p} {q} h h') =
        let i = r.states.every p (n.starts_in p h) in
        let j = r'.states.every q (n'.starts_in q h') in
        (i.0, j.0, i.1, j.1, i.2, j.2)
    reach_found (go e f there arrow arrow' from from' meets to to') =
        let i = r.arcs.every e arrow in
        let j = r'.arcs.every f arrow' in
        let c = r.follows i.0 i.1 in
        let c' = r'.follows j.0 j.1 in
        (k.to i.0, k'.to j.0, c.to_state, c'.to_state, c.to_is ∙ ap n.to i.2 ∙ to, c'.to_is ∙ ap n'.to j.2 ∙ to')

    product_states : Pairs (product a k k').State (product a n n').State (λ x. (r.name x.0, r'.name x.1))
    product_states = record {
      each = λ x h. reach_up h;
      every = λ x h.
          let f = reach_found h in
          ((f.0, f.1), reach_down h f.0 f.2 f.4 f.1 f.3 f.5, λ i. (f.4 i, f.5 i));
      once = λ x z h h' e.
          let low = reach_states h in
          let low' = reach_states h' in
          let left = r.states.once x.0 z.0 low.0 low'.0 (ap (λ y. y.0) e) in
          let right = r'.states.once x.1 z.1 low.1 low'.1 (ap (λ y. y.1) e) in
          λ i. (left i, right i);
    }

    product_arcs : Pairs (product a k k').Arrow (product a n n').Arrow (λ x. (r.arrow x.0, r'.arrow x.1))
    product_arcs = record {
      each = λ x h.
          let c = r.follows x.0 h.0 in
          let c' = r'.follows x.1 h.1 in
          (r.arcs.each x.0 h.0, r'.arcs.each x.1 h.1, subst₂ (Reachable a n n') c.from_is c'.from_is (reach_up h.2), subst₂ (Meets a) c.label_is c'.label_is h.3);
      every = λ x h.
          let i = r.arcs.every x.0 h.0 in
          let j = r'.arcs.every x.1 h.1 in
          let c = r.follows i.0 i.1 in
          let c' = r'.follows j.0 j.1 in
          let there = reach_down h.2 (k.from i.0) c.from_state (c.from_is ∙ ap n.from i.2) (k'.from j.0) c'.from_state (c'.from_is ∙ ap n'.from j.2) in
          let meets = subst₂ (Meets a) (sym (c.label_is ∙ ap n.label i.2)) (sym (c'.label_is ∙ ap n'.label j.2)) h.3 in
          ((i.0, j.0), (i.1, j.1, there, meets), λ t. (i.2 t, j.2 t));
      once = λ x z h h' e.
          let left = r.arcs.once x.0 z.0 h.0 h'.0 (ap (λ y. y.0) e) in
          let right = r'.arcs.once x.1 z.1 h.1 h'.1 (ap (λ y. y.1) e) in
          λ i. (left i, right i);
    }

    pub product_renames : Renames (product a k k') (product a n n')
    product_renames = record {
      name = λ x. (r.name x.0, r'.name x.1);
      states = product_states;
      starts = λ x h.
          let low = reach_states h in
          let s = r.starts x.0 low.0 in
          let s' = r'.starts x.1 low.1 in
          (λ y. (s.0 y.0, s'.0 y.1), λ y. (s.1 y.0, s'.1 y.1));
      ends = λ x h.
          let low = reach_states h in
          let s = r.ends x.0 low.0 in
          let s' = r'.ends x.1 low.1 in
          (λ y. (s.0 y.0, s'.0 y.1), λ y. (s.1 y.0, s'.1 y.1));
      arrow = λ x. (r.arrow x.0, r'.arrow x.1);
      arcs = product_arcs;
      follows = λ x h.
          let c = r.follows x.0 h.0 in
          let c' = r'.follows x.1 h.1 in
          record {
            from_state = h.2;
            to_state = go x.0 x.1 h.2 h.0 h.1 refl refl h.3 refl refl;
            from_is = λ i. (c.from_is i, c'.from_is i);
            to_is = λ i. (c.to_is i, c'.to_is i);
            label_is = ap₂ a.meet c.label_is c'.label_is;
          };
    }

  concat_starts : (q : T ⊎ T') → (concat k k').State q → (concat k k').Starts q ↔ (concat n n').Starts (choose (λ p. inl (r.name p)) (λ p. inr (r'.name p)) q)
  concat_starts (inl p) low = r.starts p low
  concat_starts (inr q) low = (
    λ h.
        let null = h.0 in
        let state = k.starts_in null.0 null.1 in
        ((r.name null.0, (r.starts null.0 state).0 null.1, (r.ends null.0 state).0 null.2), (r'.starts q low).0 h.1),
    λ h.
        let null = h.0 in
        let i = r.states.every null.0 (n.starts_in null.0 null.1) in
        ((i.0, (r.starts i.0 i.1).1 (subst n.Starts (sym i.2) null.1), (r.ends i.0 i.1).1 (subst n.Ends (sym i.2) null.2)), (r'.starts q low).1 h.1),
  )

  concat_ends : (q : T ⊎ T') → (concat k k').State q → (concat k k').Ends q ↔ (concat n n').Ends (choose (λ p. inl (r.name p)) (λ p. inr (r'.name p)) q)
  concat_ends (inl p) low = (λ h. h, λ h. h)
  concat_ends (inr q) low = r'.ends q low

  -- the arcs between the two
  crossings : Pairs {X = F × T'} {Y = E × S'} (λ x. k.Arrow x.0 × k.Ends (k.to x.0) × k'.Starts x.1) (λ x. n.Arrow x.0 × n.Ends (n.to x.0) × n'.Starts x.1) (λ x. (r.arrow x.0, r'.name x.1))
  crossings = record {
    each = λ x h.
        let c = r.follows x.0 h.0 in
        (r.arcs.each x.0 h.0, subst n.Ends c.to_is ((r.ends (k.to x.0) c.to_state).0 h.1), (r'.starts x.1 (k'.starts_in x.1 h.2)).0 h.2);
    every = λ x h.
        let i = r.arcs.every x.0 h.0 in
        let j = r'.states.every x.1 (n'.starts_in x.1 h.2) in
        let c = r.follows i.0 i.1 in
        ((i.0, j.0), (i.1, (r.ends (k.to i.0) c.to_state).1 (subst n.Ends (sym (c.to_is ∙ ap n.to i.2)) h.1), (r'.starts j.0 j.1).1 (subst n'.Starts (sym j.2) h.2)), λ t. (i.2 t, j.2 t));
    once = λ x z h h' e.
        let left = r.arcs.once x.0 z.0 h.0 h'.0 (ap (λ y. y.0) e) in
        let right = r'.states.once x.1 z.1 (k'.starts_in x.1 h.2) (k'.starts_in z.1 h'.2) (ap (λ y. y.1) e) in
        λ i. (left i, right i);
  }

  concat_follows : (f : F ⊎ (F' ⊎ (F × T'))) → (concat k k').Arrow f →
      Copies (concat k k') (concat n n') (choose (λ p. inl (r.name p)) (λ q. inr (r'.name q))) f (choose (λ e. inl (r.arrow e)) (λ y. inr (choose (λ e. inl (r'.arrow e)) (λ x. inr (r.arrow x.0, r'.name x.1)) y)) f)
  concat_follows (inl f) h =
      let c = r.follows f h in
      record { from_state = c.from_state; to_state = c.to_state; from_is = ap inl c.from_is; to_is = ap inl c.to_is; label_is = c.label_is }
  concat_follows (inr (inl f)) h =
      let c = r'.follows f h in
      record { from_state = c.from_state; to_state = c.to_state; from_is = ap inr c.from_is; to_is = ap inr c.to_is; label_is = c.label_is }
  concat_follows (inr (inr x)) h =
      let c = r.follows x.0 h.0 in
      record { from_state = c.from_state; to_state = k'.starts_in x.1 h.2; from_is = ap inl c.from_is; to_is = refl; label_is = c.label_is }

  pub concat_renames : Renames (concat k k') (concat n n')
  concat_renames = record {
    name = choose (λ p. inl (r.name p)) (λ q. inr (r'.name q));
    states = pairs_sum r.states r'.states;
    starts = concat_starts;
    ends = concat_ends;
    arrow = choose (λ e. inl (r.arrow e)) (λ y. inr (choose (λ e. inl (r'.arrow e)) (λ x. inr (r.arrow x.0, r'.name x.1)) y));
    arcs = pairs_sum r.arcs (pairs_sum r'.arcs crossings);
    follows = concat_follows;
  }

module _ {S E S' E' L : Type 0} {a : Labels L} {n : Nfa S E L} {n' : Nfa S' E' L} {m m' p : Automaton L} (r : Realizes a n m) (r' : Realizes a n' m') where
  pub product_realized : Realizes a (product a (rows a m) (rows a m')) p → Realizes a (product a n n') p
  product_realized h = renames_realizes (product_renames (realizes_renames r) (realizes_renames r') a) h

  pub concat_realized : Realizes a (concat (rows a m) (rows a m')) p → Realizes a (concat n n') p
  concat_realized h = renames_realizes (concat_renames (realizes_renames r) (realizes_renames r')) h
