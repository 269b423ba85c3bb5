-- Concatenations that are computed: states and arcs are listed, and a test shows that the lists are right.
use Rattle.std.proofs.Common.{◌≡◌, ℕ, Bool, true, cond, ◌&&◌, eqb, ltb, List, [], ◌∷◌, ◌++◌, length, get_or, Decides, inl, inr}
use Rattle.std.specs.List.{ContainsAt as Has}
use Rattle.std.proofs.ByRecursion.{All-weaker}
use Rattle.std.proofs.lemmas.Bool.{and_parts, and_from, false≢true, ltb-true}
use Rattle.std.proofs.lemmas.Bool.Decides.{Decides-and, Decides-like}
use Rattle.alphabet.specs.Labels.{Labels}
use Rattle.automaton.specs.declared.Marks.{Marks}
use Rattle.automaton.specs.Automaton.{Automaton, initial, accepting, arc_at, unmarked}
use Rattle.automaton.specs.Nfa.{Realizes, Nullable, rows}
use Rattle.automaton.proofs.Counting.{numbers_list}
use Rattle.automaton.proofs.Realizing.{initial_below}
use Rattle.build.specs.Concats.{Side, Link, concats, first_marks, second_marks}
use Rattle.build.proofs.Places.{distinct_places}
use Rattle.bench.proofs.Finite.{implies, implied, every, every_all, below, below_all, some_below, decides_some, collect, same_pair, decides_pair, decides_eqb, same_sum, decides_sum, mem, distinct, decides_mem, distinct_all}
use Rattle.bench.proofs.Realized.{numbered, ends_in, realized}

abbrev pub same_side : Side → Side → Bool
same_side = same_sum eqb eqb

abbrev pub same_link : Link → Link → Bool
same_link = same_sum eqb (same_sum eqb same_pair)

decides_side : (x y : Side) → Decides (same_side x y) (x ≡ y)
decides_side = decides_sum eqb eqb decides_eqb decides_eqb

decides_link : (x y : Link) → Decides (same_link x y) (x ≡ y)
decides_link = decides_sum eqb (same_sum eqb same_pair) decides_eqb (decides_sum eqb same_pair decides_eqb decides_pair)

module _ {L : Type 0} (a : Labels L) (m k : Automaton L) where
  abbrev n₁ : ℕ
  n₁ = length m.states

  abbrev n₂ : ℕ
  n₂ = length k.states

  abbrev e₁ : ℕ
  e₁ = length m.arcs

  abbrev e₂ : ℕ
  e₂ = length k.arcs

  abbrev nullable : Bool
  nullable = some_below (λ q. initial m q && accepting m q) n₁

  abbrev into : ℕ → Bool
  into e = accepting m (arc_at a m e).to

  -- the lists
  unfoldable pub sides_of : List Side
  sides_of = collect (λ p. inl p ∷ []) n₁ ++ collect (λ q. inr q ∷ []) n₂

  unfoldable pub links_of : List Link
  links_of = collect (λ e. inl e ∷ []) e₁ ++ (collect (λ f. inr (inl f) ∷ []) e₂ ++ collect (λ e. collect (λ q. cond (into e && initial k q) (inr (inr (e, q)) ∷ []) []) n₂) e₁)

  abbrev pub side_marks : Side → Marks
  side_marks (inl p) = first_marks (get_or m.states p unmarked)
  side_marks (inr q) = second_marks nullable (get_or k.states q unmarked)

  -- the tests
  abbrev side : Side → Bool
  side (inl p) = ltb p n₁
  side (inr q) = ltb q n₂

  abbrev all_sides : List Side → Bool
  all_sides ps = below (λ p. mem same_side ps (inl p)) n₁ && below (λ q. mem same_side ps (inr q)) n₂

  abbrev link : Link → Bool
  link (inl e) = ltb e e₁
  link (inr (inl f)) = ltb f e₂
  link (inr (inr x)) = ltb x.0 e₁ && (into x.0 && (ltb x.1 n₂ && initial k x.1))

  abbrev all_firsts : List Link → Bool
  all_firsts zs = below (λ e. mem same_link zs (inl e)) e₁

  abbrev all_seconds : List Link → Bool
  all_seconds zs = below (λ f. mem same_link zs (inr (inl f))) e₂

  abbrev all_led : List Link → Bool
  all_led zs = below (λ e. implies (into e) (below (λ q. implies (initial k q) (mem same_link zs (inr (inr (e, q))))) n₂)) e₁

  unfoldable pub sides_right : List Side → Bool
  sides_right ps = every side ps && (all_sides ps && distinct same_side ps)

  unfoldable pub links_right : List Side → List Link → Bool
  links_right ps zs = every link zs && (every (ends_in (concats a m k) same_side ps) zs && (distinct same_link zs && (all_firsts zs && (all_seconds zs && all_led zs))))

  -- what they show
  side_shown : (x : Side) → side x ≡ true → (concats a m k).State x
  side_shown (inl p) h = ltb-true _ _ h
  side_shown (inr q) h = ltb-true _ _ h

  link_shown : (z : Link) → link z ≡ true → (concats a m k).Arrow z
  link_shown (inl e) h = ltb-true _ _ h
  link_shown (inr (inl f)) h = ltb-true _ _ h
  link_shown (inr (inr x)) h =
      let one = and_parts (ltb x.0 e₁) _ h in
      let two = and_parts (into x.0) _ one.1 in
      let three = and_parts (ltb x.1 n₂) (initial k x.1) two.1 in
      (ltb-true _ _ one.0, two.0, (ltb-true _ _ three.0, three.1))

  nullable_shown : Decides nullable (Nullable (rows a m))
  nullable_shown = Decides-like nullable
      (λ h. let b = and_parts (initial m h.0) (accepting m h.0) h.2 in (h.0, (h.1, b.0), b.1))
      (λ h. (h.0, h.1.0, and_from (initial m h.0) (accepting m h.0) h.1.1 h.2))
      (decides_some (λ q. initial m q && accepting m q) n₁)

  starts_shown : (x : Side) → Decides (side_marks x).initial ((concats a m k).Starts x)
  starts_shown (inl p) = ((λ y. (initial_below m p y, y)), (λ h. h.1))
  starts_shown (inr q) = Decides-and nullable (initial k q) nullable_shown ((λ y. (initial_below k q y, y)), (λ h. h.1))

  ends_shown : (x : Side) → Decides (side_marks x).accepting ((concats a m k).Ends x)
  ends_shown (inl p) = ((λ y. false≢true y), (λ h. absurd h))
  ends_shown (inr q) = ((λ y. y), (λ y. y))

  module _ (ps : List Side) (zs : List Link) (states : sides_right ps ≡ true) (arcs : links_right ps zs ≡ true) where
    states_parts : (every side ps ≡ true) × (all_sides ps ≡ true) × (distinct same_side ps ≡ true)
    unfolding sides_right
    states_parts =
        let one = and_parts (every side ps) _ states in
        let two = and_parts (all_sides ps) (distinct same_side ps) one.1 in
        (one.0, two.0, two.1)

    arcs_parts : (every link zs ≡ true) × (every (ends_in (concats a m k) same_side ps) zs ≡ true) × (distinct same_link zs ≡ true) × (all_firsts zs ≡ true) × (all_seconds zs ≡ true) × (all_led zs ≡ true)
    unfolding links_right
    arcs_parts =
        let one = and_parts (every link zs) _ arcs in
        let two = and_parts (every (ends_in (concats a m k) same_side ps) zs) _ one.1 in
        let three = and_parts (distinct same_link zs) _ two.1 in
        let four = and_parts (all_firsts zs) _ three.1 in
        let five = and_parts (all_seconds zs) (all_led zs) four.1 in
        (one.0, two.0, three.0, four.0, five.0, five.1)

    sides_all : (x : Side) → (concats a m k).State x → Has ps x
    sides_all (inl p) h = (decides_mem same_side decides_side ps (inl p)).0 (below_all (λ i. mem same_side ps (inl i)) n₁ (and_parts _ (below (λ q. mem same_side ps (inr q)) n₂) states_parts.1).0 p h)
    sides_all (inr q) h = (decides_mem same_side decides_side ps (inr q)).0 (below_all (λ i. mem same_side ps (inr i)) n₂ (and_parts (below (λ p. mem same_side ps (inl p)) n₁) _ states_parts.1).1 q h)

    links_all : (z : Link) → (concats a m k).Arrow z → Has zs z
    links_all (inl e) h = (decides_mem same_link decides_link zs (inl e)).0 (below_all (λ i. mem same_link zs (inl i)) e₁ arcs_parts.3 e h)
    links_all (inr (inl f)) h = (decides_mem same_link decides_link zs (inr (inl f))).0 (below_all (λ i. mem same_link zs (inr (inl i))) e₂ arcs_parts.4 f h)
    links_all (inr (inr x)) h =
        let at-e = implied (into x.0) _ (below_all (λ e. implies (into e) (below (λ q. implies (initial k q) (mem same_link zs (inr (inr (e, q))))) n₂)) e₁ arcs_parts.5 x.0 h.0) h.1 in
        let at-q = implied (initial k x.1) _ (below_all (λ q. implies (initial k q) (mem same_link zs (inr (inr (x.0, q))))) n₂ at-e x.1 h.2.0) h.2.1 in
        (decides_mem same_link decides_link zs (inr (inr x))).0 at-q

    pub concat_shown : Realizes a (concats a m k) (numbered (concats a m k) same_side side_marks ps zs)
    concat_shown =
        realized (concats a m k) same_side a decides_side same_link decides_link side_marks ps zs (inl 0) (inl 0)
        (numbers_list ps (inl 0) (All-weaker (λ x. side x ≡ true) (concats a m k).State side_shown ps (every_all side ps states_parts.0)) sides_all (distinct_places ps (inl 0) (distinct_all same_side decides_side ps states_parts.2)))
        starts_shown ends_shown
        (All-weaker (λ z. link z ≡ true) (concats a m k).Arrow link_shown zs (every_all link zs arcs_parts.0)) arcs_parts.1 links_all arcs_parts.2
