-- Products that are computed: the reachable pairs and the arcs that leave them are listed, and a test shows that the lists are right.
use Rattle.std.proofs.Common.{◌≡◌, ℕ, zero, suc, ◌+◌, ◌*◌, ◌<◌, Bool, true, cond, ◌&&◌, ◌||◌, eqb, ltb, List, [], ◌∷◌, ◌++◌, length, get_or, is_some, refl, ap, subst, ⊎_elim}
use Rattle.std.specs.List.{ContainsAt as Has, AllByRecursion as All}
use Rattle.std.proofs.ByRecursion.{all-has, All-weaker, has_get_or}
use Rattle.std.proofs.lemmas.Bool.{and_parts, or_cases, eq-eqb, ltb-true}
use Rattle.std.proofs.lemmas.Bool.Decides.{Decides-and}
use Rattle.alphabet.specs.Labels.{Labels}
use Rattle.automaton.specs.declared.Marks.{Marks}
use Rattle.automaton.specs.Automaton.{Automaton, initial, accepting, arc_at, unmarked}
use Rattle.automaton.specs.Nfa.{Realizes, Reachable, begin, go, rows}
use Rattle.automaton.specs.Numbers.{Numbers}
use Rattle.automaton.proofs.Realizing.{initial_below}
use Rattle.build.specs.Pairs.{Pair, both, products, Begun, Closed}
use Rattle.build.proofs.Exploring.{pairs_number}
use Rattle.bench.proofs.Finite.{implies, implied, every, every_all, below, below_all, some_below, decides_some, collect, same_pair, decides_pair, mem, distinct, fresh, decides_mem, distinct_all}
use Rattle.bench.proofs.Realized.{numbered, ends_in, realized}

module _ {L : Type 0} (a : Labels L) (m k : Automaton L) where
  abbrev n₁ : ℕ
  n₁ = length m.states

  abbrev n₂ : ℕ
  n₂ = length k.states

  abbrev e₁ : ℕ
  e₁ = length m.arcs

  abbrev e₂ : ℕ
  e₂ = length k.arcs

  abbrev meeting : ℕ → ℕ → Bool
  meeting e f = is_some (a.first (a.meet (arc_at a m e).label (arc_at a k f).label))

  abbrev leaves : ℕ → ℕ → Pair
  leaves e f = ((arc_at a m e).from, (arc_at a k f).from)

  abbrev enters : ℕ → ℕ → Pair
  enters e f = ((arc_at a m e).to, (arc_at a k f).to)

  -- the lists
  abbrev first_pairs : List Pair
  first_pairs = collect (λ p. collect (λ q. cond (initial m p && initial k q) ((p, q) ∷ []) []) n₂) n₁

  abbrev next_pairs : Pair → List Pair
  next_pairs x = collect (λ e. collect (λ f. cond (same_pair (leaves e f) x && meeting e f) (enters e f ∷ []) []) e₂) e₁

  unfoldable pub explore : ℕ → List Pair → List Pair → List Pair
  explore zero seen todo = seen
  explore (suc n) seen [] = seen
  explore (suc n) seen (x ∷ todo) = let new = fresh same_pair seen (next_pairs x) in explore n (seen ++ new) (todo ++ new)

  unfoldable pub pairs_of : List Pair
  pairs_of = explore (n₁ * n₂ + 1) first_pairs first_pairs

  unfoldable pub arrows_of : List Pair → List Pair
  arrows_of ps = collect (λ e. collect (λ f. cond (mem same_pair ps (leaves e f) && meeting e f) ((e, f) ∷ []) []) e₂) e₁

  abbrev pub pair_marks : Pair → Marks
  pair_marks x = both (get_or m.states x.0 unmarked) (get_or k.states x.1 unmarked)

  -- the tests
  abbrev begun : List Pair → Bool
  begun ps = below (λ p. implies (initial m p) (below (λ q. implies (initial k q) (mem same_pair ps (p, q))) n₂)) n₁

  abbrev closed_at : List Pair → Pair → Bool
  closed_at ps x = below (λ e. implies (eqb (arc_at a m e).from x.0) (below (λ f. implies (eqb (arc_at a k f).from x.1) (implies (meeting e f) (mem same_pair ps (enters e f)))) e₂)) e₁

  -- a pair of initial states, or reached from pairs that were seen
  abbrev come : List Pair → Pair → Bool
  come seen x = (initial m x.0 && initial k x.1) || some_below (λ e. some_below (λ f. mem same_pair seen (leaves e f) && (meeting e f && same_pair (enters e f) x)) e₂) e₁

  abbrev reached : List Pair → List Pair → Bool
  reached seen [] = true
  reached seen (x ∷ xs) = come seen x && reached (x ∷ seen) xs

  abbrev arrow : List Pair → Pair → Bool
  arrow ps z = ltb z.0 e₁ && (ltb z.1 e₂ && (mem same_pair ps (leaves z.0 z.1) && meeting z.0 z.1))

  abbrev all_arrows : List Pair → List Pair → Bool
  all_arrows ps zs = below (λ e. below (λ f. implies (mem same_pair ps (leaves e f)) (implies (meeting e f) (mem same_pair zs (e, f)))) e₂) e₁

  unfoldable pub states_right : List Pair → Bool
  states_right ps = begun ps && (every (closed_at ps) ps && (reached [] ps && distinct same_pair ps))

  unfoldable pub arrows_right : List Pair → List Pair → Bool
  arrows_right ps zs = every (arrow ps) zs && (every (ends_in (products a m k) same_pair ps) zs && (all_arrows ps zs && distinct same_pair zs))

  -- what they show
  abbrev Reached : Pair → Type 0
  Reached x = Reachable a (rows a m) (rows a k) x.0 x.1

  has_pair : (ps : List Pair) (x : Pair) → mem same_pair ps x ≡ true → Has ps x
  has_pair ps x = (decides_mem same_pair decides_pair ps x).0

  begun_shown : (ps : List Pair) → begun ps ≡ true → Begun m k ps
  begun_shown ps h p low yes' q qlow qyes =
      let at_p = implied (initial m p) _ (below_all (λ i. implies (initial m i) (below (λ j. implies (initial k j) (mem same_pair ps (i, j))) n₂)) n₁ h p low) yes' in
      has_pair ps (p, q) (implied (initial k q) _ (below_all (λ j. implies (initial k j) (mem same_pair ps (p, j))) n₂ at_p q qlow) qyes)

  closed_shown : (ps : List Pair) → every (closed_at ps) ps ≡ true → Closed a m k ps
  closed_shown ps h = All-weaker (λ x. closed_at ps x ≡ true) (λ x. (e : ℕ) → e < e₁ → (arc_at a m e).from ≡ x.0 → (f : ℕ) → f < e₂ → (arc_at a k f).from ≡ x.1 → meeting e f ≡ true → Has ps (enters e f))
      (λ x c e elow from f flow from' meets.
      let at-e = implied (eqb (arc_at a m e).from x.0) _ (below_all (λ i. implies (eqb (arc_at a m i).from x.0) (below (λ j. implies (eqb (arc_at a k j).from x.1) (implies (meeting i j) (mem same_pair ps (enters i j)))) e₂)) e₁ c e elow) (eq-eqb _ _ from) in
      let at_f = implied (eqb (arc_at a k f).from x.1) _ (below_all (λ j. implies (eqb (arc_at a k j).from x.1) (implies (meeting e j) (mem same_pair ps (enters e j)))) e₂ at-e f flow) (eq-eqb _ _ from') in
      has_pair ps (enters e f) (implied (meeting e f) _ at_f meets))
      ps (every_all (closed_at ps) ps h)

  come_shown : (seen : List Pair) (x : Pair) → All Reached seen → come seen x ≡ true → Reached x
  come_shown seen x all h = ⊎_elim
      (λ start.
      let b = and_parts (initial m x.0) (initial k x.1) start in
      begin (initial_below m x.0 b.0, b.0) (initial_below k x.1 b.1, b.1))
      (λ led.
      let at-e = (decides_some (λ i. some_below (λ j. mem same_pair seen (leaves i j) && (meeting i j && same_pair (enters i j) x)) e₂) e₁).0 led in
      let e = at-e.0 in
      let at_f = (decides_some (λ j. mem same_pair seen (leaves e j) && (meeting e j && same_pair (enters e j) x)) e₂).0 at-e.2 in
      let f = at_f.0 in
      let one = and_parts (mem same_pair seen (leaves e f)) (meeting e f && same_pair (enters e f) x) at_f.2 in
      let two = and_parts (meeting e f) (same_pair (enters e f) x) one.1 in
      let is = (decides_pair (enters e f) x).0 two.1 in
      go e f (all-has Reached seen (leaves e f) all (has_pair seen (leaves e f) one.0)) at-e.1 at_f.1 refl refl two.0 (ap (λ z. z.0) is) (ap (λ z. z.1) is))
      (or_cases (initial m x.0 && initial k x.1) _ h)

  reached_shown : (seen ps : List Pair) → All Reached seen → reached seen ps ≡ true → All Reached ps
  reached_shown seen [] all h = tt
  reached_shown seen (x ∷ xs) all h =
      let parts = and_parts (come seen x) (reached (x ∷ seen) xs) h in
      let here = come_shown seen x all parts.0 in
      (here, reached_shown (x ∷ seen) xs (here, all) parts.1)

  module _ (ps zs : List Pair) (states : states_right ps ≡ true) (arcs : arrows_right ps zs ≡ true) where
    states_parts : (begun ps ≡ true) × (every (closed_at ps) ps ≡ true) × (reached [] ps ≡ true) × (distinct same_pair ps ≡ true)
    unfolding states_right
    states_parts =
        let one = and_parts (begun ps) _ states in
        let two = and_parts (every (closed_at ps) ps) _ one.1 in
        let three = and_parts (reached [] ps) (distinct same_pair ps) two.1 in
        (one.0, two.0, three.0, three.1)

    arcs_parts : (every (arrow ps) zs ≡ true) × (every (ends_in (products a m k) same_pair ps) zs ≡ true) × (all_arrows ps zs ≡ true) × (distinct same_pair zs ≡ true)
    unfolding arrows_right
    arcs_parts =
        let one = and_parts (every (arrow ps) zs) _ arcs in
        let two = and_parts (every (ends_in (products a m k) same_pair ps) zs) _ one.1 in
        let three = and_parts (all_arrows ps zs) (distinct same_pair zs) two.1 in
        (one.0, two.0, three.0, three.1)

    all_reached : All Reached ps
    all_reached = reached_shown [] ps tt states_parts.2

    numbers : Numbers (products a m k).State (length ps) (λ i. get_or ps i (0, 0))
    numbers = pairs_number a m k ps (begun_shown ps states_parts.0) (closed_shown ps states_parts.1) all_reached (distinct_all same_pair decides_pair ps states_parts.3)

    arrows_there : All (products a m k).Arrow zs
    arrows_there = All-weaker (λ z. arrow ps z ≡ true) (products a m k).Arrow
        (λ z h.
        let one = and_parts (ltb z.0 e₁) _ h in
        let two = and_parts (ltb z.1 e₂) _ one.1 in
        let three = and_parts (mem same_pair ps (leaves z.0 z.1)) (meeting z.0 z.1) two.1 in
        (ltb-true _ _ one.0, ltb-true _ _ two.0, all-has Reached ps (leaves z.0 z.1) all_reached (has_pair ps (leaves z.0 z.1) three.0), three.1))
        zs (every_all (arrow ps) zs arcs_parts.0)

    arrows_all : (z : Pair) → (products a m k).Arrow z → Has zs z
    arrows_all z h =
        let e = z.0 in
        let f = z.1 in
        let from = numbers.every (leaves e f) h.2 in
        let there = subst (Has ps) from.2 (has_get_or ps from.0 (0, 0) from.1) in
        let at-e = below_all (λ i. below (λ j. implies (mem same_pair ps (leaves i j)) (implies (meeting i j) (mem same_pair zs (i, j)))) e₂) e₁ arcs_parts.2 e h.0 in
        let at_f = below_all (λ j. implies (mem same_pair ps (leaves e j)) (implies (meeting e j) (mem same_pair zs (e, j)))) e₂ at-e f h.1 in
        has_pair zs (e, f) (implied (meeting e f) _ (implied (mem same_pair ps (leaves e f)) _ at_f ((decides_mem same_pair decides_pair ps (leaves e f)).1 there)) h.3)

    pub product_shown : Realizes a (products a m k) (numbered (products a m k) same_pair pair_marks ps zs)
    product_shown =
        realized (products a m k) same_pair a decides_pair same_pair decides_pair pair_marks ps zs (0, 0) (0, 0) numbers
        (λ x. Decides-and (initial m x.0) (initial k x.1) ((λ y. (initial_below m x.0 y, y)), (λ h. h.1)) ((λ y. (initial_below k x.1 y, y)), (λ h. h.1)))
        (λ x. Decides-and (accepting m x.0) (accepting k x.1) ((λ y. y), (λ y. y)) ((λ y. y), (λ y. y)))
        arrows_there arcs_parts.1 arrows_all arcs_parts.3
