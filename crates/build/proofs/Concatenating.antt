-- The rows of a concatenation realize it.
use Rattle.std.proofs.Common.{◌≡◌, ℕ, ◌+◌, ◌-◌, ◌<◌, ◌≤◌, Bool, true, false, ltb, ◌&&◌, ◌↔◌, List, [], ◌++◌, map, length, get_or, Ok, Err, Decides, Result, is_ok, sym, ap, ap₂, ◌∙◌, subst, inl, inr, ⊎_elim, length-append, arith}
use Rattle.std.proofs.ByRecursion.{has_get_or}
use Rattle.std.proofs.lemmas.Bool.{cases_lt, false≢true, and_parts, and_from, cond-true, cond-false, lt-ltb, le-ltb}
use Rattle.std.proofs.lemmas.Bool.Decides.{Decides-and, Decides-at}
use Rattle.std.proofs.lemmas.List.{length-map, length-take, get_or-map, map-append, get_or_append_left, get_or-append-add, get_or_default}
use Rattle.std.proofs.lemmas.List.Folds.{Any-from_list_any, list_any_at}
use Rattle.alphabet.specs.Labels.{Labels}
use Rattle.automaton.specs.declared.Arc.{Arc}
use Rattle.automaton.specs.declared.Marks.{Marks}
use Rattle.automaton.specs.declared.State.{State}
use Rattle.automaton.specs.Automaton.{Automaton, Inside, Word, Accepts, initial, accepting, arc_at, unmarked, of_rows}
use Rattle.automaton.specs.Nfa.{Realizes, Follows, Nullable, rows}
use Rattle.automaton.specs.Numbers.{Numbers, MoreThan}
use Rattle.automaton.proofs.Concats.{concat_exact}
use Rattle.automaton.proofs.Counting.{numbers_unique}
use Rattle.automaton.proofs.Realizing.{realizes_accepts, rows_exact}
use Rattle.build.specs.Concats.{Side, Link, side_of, first_marks, second_marks, concats, InTurn, ConcatSizes, nullable, kept_row, state_rows, arc_rows}
use Rattle.build.specs.declared.Place.{Place}
use Rattle.build.specs.declared.Rows.{Rows}
use Rattle.build.specs.declared.Stop.{Stop}
use Rattle.build.specs.declared.Stop.TheVariants.{StatesFull, ArcsFull}
use Rattle.build.specs.declared.tail.Full.{Full}
use Rattle.build.specs.declared.tail.Tail.{Tail}
use Rattle.build.specs.Emitted.{Fits}
use Rattle.build.specs.Outcome.{Built}
use Rattle.build.specs.Tables.{at}
use Rattle.build.specs.Tails.{written, room, Appended}
use Rattle.build.proofs.Joining.{map_map}
use Rattle.build.proofs.Linking.{links, links_listed, links_rows, links_counted, place, row}
use Rattle.build.proofs.Listing.{lists_numbers}
use Rattle.build.proofs.Producing.{built_counts, written_front}

numbers_more : {X : Type 0} {P : X → Type 0} {n : ℕ} {f : ℕ → X} → Numbers P n f → (room : ℕ) → room < n → MoreThan P room f
numbers_more numbers room low = record { each = λ i within. numbers.each i (omega arith); once = λ i j within within' same. numbers.once i j (omega arith) (omega arith) same }

module _ {L : Type 0} (a : Labels L) (m k : Automaton L) where
  abbrev n₁ : ℕ
  n₁ = length m.states

  abbrev n₂ : ℕ
  n₂ = length k.states

  -- the two kinds of places
  side_left : (i : ℕ) → i < n₁ → side_of n₁ i ≡ inl i
  side_left i low = cond-true (ltb i n₁) (inl i) (inr (i - n₁)) (lt-ltb i n₁ low)

  side_right : (i : ℕ) → side_of n₁ (n₁ + i) ≡ inr i
  side_right i = cond-false (ltb (n₁ + i) n₁) (inl (n₁ + i)) (inr (n₁ + i - n₁)) (le-ltb (n₁ + i) n₁ (omega arith)) ∙ ap inr (omega arith)

  -- the place of a state, and the state at it
  placed : (s : Side) → (concats a m k).State s → (place a m k s < n₁ + n₂) × (side_of n₁ (place a m k s) ≡ s)
  placed (inl p) low = (omega arith, side_left p low)
  placed (inr q) low = (omega arith, side_right q)

  -- what holds of the places of both kinds holds of all
  by_sides : (P : ℕ → Type 0) → ((p : ℕ) → p < n₁ → P p) → ((q : ℕ) → q < n₂ → P (n₁ + q)) → (i : ℕ) → i < n₁ + n₂ → P i
  by_sides P first second i low =
      ⊎_elim (first i) (λ high. let there : n₁ + (i - n₁) ≡ i = omega arith in subst P there (second (i - n₁) (omega arith))) (cases_lt i n₁)

  place_of : (i : ℕ) → i < n₁ + n₂ → place a m k (side_of n₁ i) ≡ i
  place_of = by_sides (λ i. place a m k (side_of n₁ i) ≡ i) (λ p low. ap (place a m k) (side_left p low)) (λ q low. ap (place a m k) (side_right q))

  -- the states of both, by their places
  pub sides : Numbers (concats a m k).State (n₁ + n₂) (side_of n₁)
  sides = record {
    each = by_sides (λ i. (concats a m k).State (side_of n₁ i)) (λ p low. subst (concats a m k).State (sym (side_left p low)) low) (λ q low. subst (concats a m k).State (sym (side_right q)) low);
    every = λ s state. (place a m k s, (placed s state).0, (placed s state).1);
    once = λ i j low high same. sym (place_of i low) ∙ ap (place a m k) same ∙ place_of j high;
  }

  -- the marks of the rows
  abbrev joined : List Marks
  joined = map first_marks m.states ++ map (second_marks (nullable m)) k.states

  marks_joined : map (λ r. r.marks) (state_rows m k) ≡ joined
  marks_joined =
      let keep : Bool → Bool → Marks = λ i e. record { initial = i; accepting = e } in
      let one = map (kept_row (keep true false)) m.states in
      let two = map (kept_row (keep (nullable m) true)) k.states in
      map-append (λ r. r.marks) one two ∙ ap₂ (λ (l l' : List Marks). l ++ l') (map_map (kept_row (keep true false)) (λ r. r.marks) m.states) (map_map (kept_row (keep (nullable m) true)) (λ r. r.marks) k.states)

  joined_long : length joined ≡ n₁ + n₂
  joined_long = length-append (map first_marks m.states) (map (second_marks (nullable m)) k.states) ∙ ap₂ (λ (i j : ℕ). i + j) (length-map m.states first_marks) (length-map k.states (second_marks (nullable m)))

  at_first : (p : ℕ) → p < n₁ → get_or joined p unmarked ≡ first_marks (get_or m.states p unmarked)
  at_first p low = get_or_append_left (map first_marks m.states) (map (second_marks (nullable m)) k.states) unmarked p (omega (arith, length-map m.states first_marks)) ∙ get_or-map first_marks m.states p unmarked unmarked low

  at_second : (q : ℕ) → q < n₂ → get_or joined (n₁ + q) unmarked ≡ second_marks (nullable m) (get_or k.states q unmarked)
  at_second q low =
      let one = map first_marks m.states in
      let two = map (second_marks (nullable m)) k.states in
      ap (λ n. get_or joined (n + q) unmarked) (sym (length-map m.states first_marks)) ∙ get_or-append-add one two q unmarked ∙ get_or-map (second_marks (nullable m)) k.states q unmarked unmarked low

  nullable_tells : Decides (nullable m) (Nullable (rows a m))
  nullable_tells = (
    λ yes'.
        let some = Any-from_list_any (λ s. s.initial && s.accepting) m.states yes' in
        let is : get_or m.states some.0 unmarked ≡ some.1 = get_or_default m.states some.0 unmarked some.1 some.2 ∙ some.3 in
        let both = and_parts some.1.initial some.1.accepting some.4 in
        (some.0, (some.2, ap (λ s. s.initial) is ∙ both.0), ap (λ s. s.accepting) is ∙ both.1),
    λ h. list_any_at (λ s. s.initial && s.accepting) m.states h.0 unmarked h.1.0 (and_from (initial m h.0) (accepting m h.0) h.1.1 h.2),
  )

  starts : (i : ℕ) → i < n₁ + n₂ → Decides (get_or joined i unmarked).initial ((concats a m k).Starts (side_of n₁ i))
  starts =
      by_sides (λ i. Decides (get_or joined i unmarked).initial ((concats a m k).Starts (side_of n₁ i)))
      (λ p low. subst (λ x. Decides (get_or joined p unmarked).initial ((concats a m k).Starts x)) (sym (side_left p low)) (Decides-at (get_or joined p unmarked).initial (initial m p) (ap (λ (s : Marks). s.initial) (at_first p low)) (λ yes'. (low, yes'), λ h. h.1)))
      (λ q low. subst (λ x. Decides (get_or joined (n₁ + q) unmarked).initial ((concats a m k).Starts x)) (sym (side_right q))
      (Decides-at (get_or joined (n₁ + q) unmarked).initial (nullable m && initial k q) (ap (λ (s : Marks). s.initial) (at_second q low)) (Decides-and (nullable m) (initial k q) nullable_tells (λ yes'. (low, yes'), λ h. h.1))))

  ends : (i : ℕ) → i < n₁ + n₂ → Decides (get_or joined i unmarked).accepting ((concats a m k).Ends (side_of n₁ i))
  ends =
      by_sides (λ i. Decides (get_or joined i unmarked).accepting ((concats a m k).Ends (side_of n₁ i)))
      (λ p low. subst (λ x. Decides (get_or joined p unmarked).accepting ((concats a m k).Ends x)) (sym (side_left p low)) (Decides-at (get_or joined p unmarked).accepting false (ap (λ (s : Marks). s.accepting) (at_first p low)) (λ yes'. false≢true yes', λ h. absurd h)))
      (λ q low. subst (λ x. Decides (get_or joined (n₁ + q) unmarked).accepting ((concats a m k).Ends x)) (sym (side_right q)) (Decides-at (get_or joined (n₁ + q) unmarked).accepting (accepting k q) (ap (λ (s : Marks). s.accepting) (at_second q low)) (λ yes'. yes', λ yes'. yes')))

  module _ (left : Inside m) (right : Inside k) where
    ends_inside : (z : Link) → (concats a m k).Arrow z → (concats a m k).State ((concats a m k).from z) × (concats a m k).State ((concats a m k).to z)
    ends_inside (inl x) low = left (arc_at a m x) (has_get_or m.arcs x _ low)
    ends_inside (inr (inl y)) low = right (arc_at a k y) (has_get_or k.arcs y _ low)
    ends_inside (inr (inr z)) arrow = ((left (arc_at a m z.0) (has_get_or m.arcs z.0 _ arrow.0)).0, arrow.2.0)

    follows : (built : Automaton L) (i : ℕ) (z : Link) → length built.states ≡ n₁ + n₂ → arc_at a built i ≡ row a m k z → (concats a m k).Arrow z → Follows a (concats a m k) built (side_of n₁) i z
    follows built i z long is arrow =
        let inside = ends_inside z arrow in
        let from = placed ((concats a m k).from z) inside.0 in
        let to = placed ((concats a m k).to z) inside.1 in
        record {
          from_state = omega (arith, long, ap (λ (b : Arc L). b.from) is, from.0);
          to_state = omega (arith, long, ap (λ (b : Arc L). b.to) is, to.0);
          from_is = ap (λ (b : Arc L). side_of n₁ b.from) is ∙ from.1;
          to_is = ap (λ (b : Arc L). side_of n₁ b.to) is ∙ to.1;
          label_is = ap (λ (b : Arc L). b.label) is;
        }

    listed_realizes : Realizes a (concats a m k) (record { states = joined; arcs = map (row a m k) (links a m k) })
    listed_realizes =
        let zs = links a m k in
        let numbers = lists_numbers zs (inl 0) (links_listed a m k) in
        let nfa = concats a m k in
        let long = length-map zs (row a m k) in
        record {
          name = side_of n₁;
          states = subst (λ n. Numbers nfa.State n (side_of n₁)) (sym joined_long) sides;
          starts = λ i low. starts i (omega (arith, joined_long));
          ends = λ i low. ends i (omega (arith, joined_long));
          arrow = λ i. get_or zs i (inl 0);
          arcs = subst (λ n. Numbers nfa.Arrow n (λ i. get_or zs i (inl 0))) (sym long) numbers;
          follows = λ i low. follows _ i (get_or zs i (inl 0)) joined_long (get_or-map (row a m k) zs i (inl 0) (record { from = 0; label = a.full; to = 0 }) (omega arith)) (numbers.each i (omega arith));
        }

    pub rows_realize : (states : List State) (arcs : List (Arc L)) → states ≡ state_rows m k → arcs ≡ arc_rows m k → Realizes a (concats a m k) (of_rows states arcs)
    rows_realize states arcs same same' =
        let marks = ap (map (λ r. r.marks)) same ∙ marks_joined in
        let all = same' ∙ sym (links_rows a m k) in
        subst (Realizes a (concats a m k)) (λ i. record { states = sym marks i; arcs = sym all i }) listed_realizes

  state_rows_long : length (state_rows m k) ≡ n₁ + n₂
  state_rows_long = sym (length-map (state_rows m k) (λ (r : State). r.marks)) ∙ ap (λ l. length l) marks_joined ∙ joined_long

  -- states that do not fit, and rows that do not
  pub sides_over : (room : ℕ) → room < n₁ + n₂ → MoreThan (concats a m k).State room (side_of n₁)
  sides_over = numbers_more sides

  pub states_over : (room : ℕ) → room < length (state_rows m k) → MoreThan (concats a m k).State room (side_of n₁)
  states_over room low = sides_over room (omega (arith, state_rows_long))

  pub arcs_over : (room : ℕ) → room < length (arc_rows m k) → MoreThan (concats a m k).Arrow room (λ i. get_or (links a m k) i (inl 0))
  arcs_over room low = numbers_more (lists_numbers (links a m k) (inl 0) (links_listed a m k)) room (omega (arith, ap (λ l. length l) (links_rows a m k), length-map (links a m k) (row a m k)))

-- the free rows that the writing leaves
module _ {L : Type 0} (a : Labels L) (m k : Automaton L) (s t : Tail State) (states : List State) (r : Result (Unit {0}) Full) (empty : written s ≡ []) (wrote : Appended s t (state_rows m k) r) where
  pub states_full : (arcs : List (Arc L)) (x : Result Rows Stop) → length states ≡ room s → false ≡ is_ok r → x ≡ Err StatesFull → Fits a (concats a m k) states arcs x
  states_full arcs x long err is = subst (Fits a (concats a m k) states arcs) (sym is) (go r err wrote)
    where
      go : (r : Result (Unit {0}) Full) → false ≡ is_ok r → Appended s t (state_rows m k) r → (f : ℕ → Side) × MoreThan (concats a m k).State (length states) f
      go (Ok u) err' wrote' = absurd (false≢true err')
      go (Err e) err' wrote' = (_, states_over a m k (length states) (omega (arith, ap (λ l. length l) empty, wrote')))

  written_states : true ≡ is_ok r → written t ≡ state_rows m k
  written_states ok = go r ok wrote
    where
      go : (r : Result (Unit {0}) Full) → true ≡ is_ok r → Appended s t (state_rows m k) r → written t ≡ state_rows m k
      go (Ok u) ok' wrote' = wrote' ∙ ap (λ l. l ++ state_rows m k) empty
      go (Err e) ok' wrote' = absurd (false≢true (sym ok'))

  module _ (ok : true ≡ is_ok r) (within : t.count ≤ length t.rows.now) (states-is : states ≡ t.rows.now) (o p : Tail (Arc L)) (arcs : List (Arc L)) (r' : Result (Unit {0}) Full) (empty' : written o ≡ []) (wrote' : Appended o p (arc_rows m k) r') where
    pub arcs_full : (x : Result Rows Stop) → length arcs ≡ room o → false ≡ is_ok r' → x ≡ Err ArcsFull → Fits a (concats a m k) states arcs x
    arcs_full x long err is = subst (Fits a (concats a m k) states arcs) (sym is) ((n₁ a m k + n₂ a m k, side_of (n₁ a m k), fits, sides a m k), go r' err wrote')
      where
        fits : n₁ a m k + n₂ a m k ≤ length states
        fits = omega (arith, state_rows_long a m k, ap (λ l. length l) (written_states ok), length-take t.count t.rows.now, ap (λ l. length l) states-is)

        go : (r : Result (Unit {0}) Full) → false ≡ is_ok r → Appended o p (arc_rows m k) r → (f : ℕ → Link) × MoreThan (concats a m k).Arrow (length arcs) f
        go (Ok u) err' wrote'' = absurd (false≢true err')
        go (Err e) err' wrote'' = (_, arcs_over a m k (length arcs) (omega (arith, ap (λ l. length l) empty', wrote'')))

    pub rows_fit : (seen : List State) (seen' : List (Arc L)) → Inside m → Inside k → p.count ≤ length p.rows.now → arcs ≡ p.rows.now → true ≡ is_ok r' → seen ≡ written t → seen' ≡ written p → Fits a (concats a m k) states arcs (Ok (record { states = length seen; arcs = length seen' }))
    rows_fit seen seen' left right within' arcs-is ok' reads reads' =
        let front = written_front t states seen within states-is reads in
        let front' = written_front p arcs seen' within' arcs-is reads' in
        (front.0, front'.0, rows_realize a m k left right _ _ (front.1 ∙ written_states ok) (front'.1 ∙ go r' ok' wrote'))
      where
        go : (r : Result (Unit {0}) Full) → true ≡ is_ok r → Appended o p (arc_rows m k) r → written p ≡ arc_rows m k
        go (Ok u) ok'' wrote'' = wrote'' ∙ ap (λ l. l ++ arc_rows m k) empty'
        go (Err e) ok'' wrote'' = absurd (false≢true (sym ok''))

-- what was built accepts the words that split in turn
pub built_concat_exact : {L : Type 0} (a : Labels L) (m k : Automaton L) (used : Rows) (t : List State) (u : List (Arc L)) (p : Place) → Built a (concats a m k) used t u p → (w : Word) → Accepts a.admits (at t u p) w ↔ InTurn a.admits m k w
built_concat_exact a m k used t u p h w =
    let real = realizes_accepts h.realizes w in
    let turn = concat_exact w in (
      λ x. let y = turn.0 (real.0 x) in (y.0, y.1, y.2, (rows_exact a m y.0).0 y.3, (rows_exact a k y.1).0 y.4),
      λ x. real.1 (turn.1 (x.0, x.1, x.2, (rows_exact a m x.0).1 x.3, (rows_exact a k x.1).1 x.4)),
    )

pub built_concat_sizes : {L : Type 0} (a : Labels L) (m k : Automaton L) (used : Rows) (t : List State) (u : List (Arc L)) (p : Place) → Built a (concats a m k) used t u p → ConcatSizes m k p.count
built_concat_sizes a m k used t u p h =
    let counts = built_counts a (concats a m k) used t u p h in
    record { states = sym counts.0 ∙ numbers_unique h.realizes.states (sides a m k); arcs = sym counts.1 ∙ numbers_unique h.realizes.arcs (links_counted a m k).1 }
