-- Automata that differ only in how their states and arcs are numbered.
use Rattle.std.proofs.Common.{◌≡◌, ℕ, ◌<◌, true, [], length, sym, refl, ap, ◌∙◌, subst, arith}
use Rattle.alphabet.specs.Labels.{Labels}
use Rattle.automaton.specs.Automaton.{Automaton, Inside, accepting, arc_at}
use Rattle.automaton.specs.Nfa.{Nfa, rows, Follows, Realizes, product, concat}
use Rattle.automaton.specs.Numbers.{Numbers, MoreThan}
use Rattle.automaton.proofs.Composing.{Pairs, Renames, realizes_renames, product_renames, concat_renames}
use Rattle.automaton.proofs.Counting.{chosen, numbers_unique}
use Rattle.automaton.proofs.Realizing.{accepting_below, realizes_rows}

-- m' is m with its states and arcs renumbered
pub record Same {L : Type 0} (a : Labels L) (m m' : Automaton L) : Type 0 where
  pub numbered : Realizes a (rows a m) m'

pub same_rows : {L : Type 0} (a : Labels L) (m : Automaton L) → Inside m → Same a m m
same_rows a m inside = record { numbered = realizes_rows a m inside }

-- the automaton with no states
pub same_none : {L : Type 0} (a : Labels L) → Same a (record { states = []; arcs = [] }) (record { states = []; arcs = [] })
same_none a = same_rows a (record { states = []; arcs = [] }) (λ b has. let low : has.0 < 0 = has.1 in absurd (omega arith))

-- two numberings of one kind
module _ {X : Type 0} {P : X → Type 0} {n n' : ℕ} {f f' : ℕ → X} (one : Numbers P n f) (two : Numbers P n' f') where
  -- where the first has what the second has at a place
  pub renumbering : (h : ℕ → ℕ) × ((i : ℕ) → i < n' → (h i < n) × (f (h i) ≡ f' i))
  renumbering = chosen {m = n} {R = λ i j. f j ≡ f' i} n' (λ i low. one.every (f' i) (two.each i low))

  pub renumbers : Numbers (λ i. i < n) n' renumbering.0
  renumbers = record {
    each = λ i low. (renumbering.1 i low).0;
    every = λ x low.
        let i = two.every (f x) (one.each x low) in
        let there = renumbering.1 i.0 i.1 in
        (i.0, i.1, one.once (renumbering.0 i.0) x there.0 low (there.1 ∙ i.2));
    once = λ i j low low' e. two.once i j low low' (sym (renumbering.1 i low).1 ∙ ap f e ∙ (renumbering.1 j low').1);
  }

-- what realizes the same is the same
module _ {S E L : Type 0} {a : Labels L} {n : Nfa S E L} {m m' : Automaton L} (r : Realizes a n m) (r' : Realizes a n m') where
  state_at : (h : ℕ → ℕ) × ((i : ℕ) → i < length m'.states → (h i < length m.states) × (r.name (h i) ≡ r'.name i))
  state_at = renumbering r.states r'.states

  arc_of : (h : ℕ → ℕ) × ((i : ℕ) → i < length m'.arcs → (h i < length m.arcs) × (r.arrow (h i) ≡ r'.arrow i))
  arc_of = renumbering r.arcs r'.arcs

  same_follows : (k : ℕ) → k < length m'.arcs → Follows a (rows a m) m' state_at.0 k (arc_of.0 k)
  same_follows k low =
      let there = arc_of.1 k low in
      let j = arc_of.0 k in
      let c = r.follows j there.0 in
      let c' = r'.follows k low in
      let from = state_at.1 (arc_at a m' k).from c'.from_state in
      let to = state_at.1 (arc_at a m' k).to c'.to_state in
      record {
        from_state = c'.from_state;
        to_state = c'.to_state;
        from_is = r.states.once (state_at.0 (arc_at a m' k).from) (arc_at a m j).from from.0 c.from_state (from.1 ∙ c'.from_is ∙ ap n.from (sym there.1) ∙ sym c.from_is);
        to_is = r.states.once (state_at.0 (arc_at a m' k).to) (arc_at a m j).to to.0 c.to_state (to.1 ∙ c'.to_is ∙ ap n.to (sym there.1) ∙ sym c.to_is);
        label_is = c'.label_is ∙ ap n.label (sym there.1) ∙ sym c.label_is;
      }

  renumbered : Realizes a (rows a m) m'
  unfolding renumbering state_at arc_of
  renumbered = record {
    name = state_at.0;
    states = renumbers r.states r'.states;
    starts = λ q low.
        let there = state_at.1 q low in
        let here = r.starts (state_at.0 q) there.0 in
        (λ h. (there.0, here.1 (subst n.Starts (sym there.1) ((r'.starts q low).0 h))), λ h. (r'.starts q low).1 (subst n.Starts there.1 (here.0 h.1)));
    ends = λ q low.
        let there = state_at.1 q low in
        let here = r.ends (state_at.0 q) there.0 in
        (λ h. here.1 (subst n.Ends (sym there.1) ((r'.ends q low).0 h)), λ h. (r'.ends q low).1 (subst n.Ends there.1 (here.0 h)));
    arrow = arc_of.0;
    arcs = renumbers r.arcs r'.arcs;
    follows = same_follows;
  }

  pub same_realized : Same a m m'
  same_realized = record { numbered = renumbered }

module _ {L : Type 0} {a : Labels L} {m m' : Automaton L} (r : Same a m m') where
  pub same_states : length m.states ≡ length m'.states
  same_states = numbers_unique (record { each = λ i low. low; every = λ i low. (i, low, refl); once = λ i j _ _ e. e }) r.numbered.states

  pub same_arcs : length m.arcs ≡ length m'.arcs
  same_arcs = numbers_unique (record { each = λ i low. low; every = λ i low. (i, low, refl); once = λ i j _ _ e. e }) r.numbered.arcs

  -- an accepting state of one gives one of the other
  pub same_accepting : (q : ℕ) → accepting m q ≡ true → (p : ℕ) × (accepting m' p ≡ true)
  same_accepting q h =
      let i = r.numbered.states.every q (accepting_below m q h) in
      (i.0, (r.numbered.ends i.0 i.1).1 (subst (λ x. accepting m x ≡ true) (sym i.2) h))

  pub accepting_same : (q : ℕ) → accepting m' q ≡ true → (p : ℕ) × (accepting m p ≡ true)
  accepting_same q h = (r.numbered.name q, (r.numbered.ends q (accepting_below m' q h)).0 h)

-- builds of what is the same, named otherwise
module _ {L : Type 0} {a : Labels L} {m m' k k' : Automaton L} (r : Same a m m') (r' : Same a k k') where
  pub same_products : Renames (product a (rows a m') (rows a k')) (product a (rows a m) (rows a k))
  same_products = product_renames (realizes_renames r.numbered) (realizes_renames r'.numbered) a

  pub same_concats : Renames (concat (rows a m') (rows a k')) (concat (rows a m) (rows a k))
  same_concats = concat_renames (realizes_renames r.numbered) (realizes_renames r'.numbered)

-- counts under other names
module _ {X Y : Type 0} {P : X → Type 0} {Q : Y → Type 0} {h : X → Y} (p : Pairs P Q h) {n : ℕ} {f : ℕ → X} where
  pub numbers_pairs : Numbers P n f → Numbers Q n (λ i. h (f i))
  numbers_pairs all = record {
    each = λ i low. p.each (f i) (all.each i low);
    every = λ y q. let x = p.every y q in let i = all.every x.0 x.1 in (i.0, i.1, ap h i.2 ∙ x.2);
    once = λ i j low low' e. all.once i j low low' (p.once (f i) (f j) (all.each i low) (all.each j low') e);
  }

  pub more_pairs : MoreThan P n f → MoreThan Q n (λ i. h (f i))
  more_pairs more = record {
    each = λ i low. p.each (f i) (more.each i low);
    once = λ i j low low' e. more.once i j low low' (p.once (f i) (f j) (more.each i low) (more.each j low') e);
  }
