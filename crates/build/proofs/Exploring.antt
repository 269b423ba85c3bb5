-- Exploring the reachable pairs: what each added row keeps, and what is known when all are there.
use Rattle.std.proofs.Common.{◌≡◌, ℕ, ◌+◌, ◌<◌, ◌≤◌, true, List, [], ◌∷◌, ◌++◌, length, get_or, Ok, Err, Option, Some, None, MatchOption, is_some, Decides, Result, sym, refl, ap, ◌∙◌, subst, ⊎_elim, append_assoc, append-nil, arith}
use Rattle.std.specs.List.{ContainsAt as Has, AllByRecursion as All, AllWithin, HoldsAt}
use Rattle.std.proofs.ByRecursion.{All-push, All-get_or, All-from_get_or, all-has, has_get_or, has_push, has_append_left}
use Rattle.std.proofs.lemmas.List.{length-map, length_push, length-append, get_or-map, get_or_append_left, map-append}
use Rattle.std.proofs.lemmas.Bool.{cases_eq}
use Rattle.alphabet.specs.Labels.{Labels}
use Rattle.automaton.specs.declared.Arc.{Arc}
use Rattle.automaton.specs.declared.State.{State}
use Rattle.automaton.specs.Automaton.{Automaton, initial, arc_at, unmarked}
use Rattle.automaton.specs.Nfa.{Meets, Reachable, begin, go, rows, product}
use Rattle.automaton.specs.Numbers.{Numbers, MoreThan}
use Rattle.automaton.proofs.Counting.{numbers_list}
use Rattle.build.specs.declared.tail.Full.{Full}
use Rattle.build.specs.declared.tail.Tail.{Tail}
use Rattle.build.specs.Emitted.{Paired}
use Rattle.build.specs.Pairs.{Pair, pair_of, pairs, products, row_of, Sofar, Grown, Extended, Distinct, BegunAt, Begun, ClosedBy, ClosedAt, Closed}
use Rattle.build.specs.Tails.{written, room, SameRows, Pushed}
use Rattle.build.proofs.Finding.{found_decides}
use Rattle.build.proofs.Places.{distinct_push, distinct_places}

-- the pair of a row
pub pair_at : (rows : List State) (i : ℕ) (d : State) → i < length rows → get_or (pairs rows) i (0, 0) ≡ pair_of (get_or rows i d)
pair_at rows i d low = get_or-map pair_of rows i d (0, 0) low

pub length_pairs : (rows : List State) → length (pairs rows) ≡ length rows
length_pairs rows = length-map rows pair_of

-- the pair of a row that was read
pub pair_read : (rows read : List State) (i : ℕ) (s : State) → read ≡ rows → i < length read → s ≡ get_or read i s → (i < length rows) × (pair_of s ≡ get_or (pairs rows) i (0, 0))
pair_read rows read i s same low is = (omega (arith, ap length same), ap pair_of is ∙ sym (pair_at read i s low) ∙ ap (λ l. get_or (pairs l) i (0, 0)) same)

-- what a search for the row of a pair tells
pub find_pair : (rows : List State) (p q : ℕ) (o : Option ℕ) →
    MatchOption o (AllWithin (λ s. s.left ≡ p → s.right ≡ q → ⊥) rows 0 (length rows)) (λ i. (i < length rows) × HoldsAt (λ s. (s.left ≡ p) × (s.right ≡ q)) rows i × AllWithin (λ s. s.left ≡ p → s.right ≡ q → ⊥) rows 0 i) →
    MatchOption o (Has (pairs rows) (p, q) → ⊥) (λ i. (i < length rows) × (get_or (pairs rows) i (0, 0) ≡ (p, q)))
find_pair rows p q None h = λ has.
    let blank : State = record { marks = unmarked; left = 0; right = 0 } in
    let low : has.0 < length rows = omega (arith, has.1, length_pairs rows) in
    let is = sym (pair_at rows has.0 blank low) ∙ has.2 (0, 0) in
    h has.0 blank (omega arith) low (ap (λ (x : Pair). x.0) is) (ap (λ (x : Pair). x.1) is)
find_pair rows p q (Some i) h =
    let blank : State = record { marks = unmarked; left = 0; right = 0 } in
    let is = h.1 blank in
    (h.0, pair_at rows i blank h.0 ∙ (λ j. (is.0 j, is.1 j)))

pub found_pair : (rows : List State) (p q : ℕ) (o : Option ℕ) → MatchOption o (Has (pairs rows) (p, q) → ⊥) (λ i. (i < length rows) × (get_or (pairs rows) i (0, 0) ≡ (p, q))) → Decides (is_some o) (Has (pairs rows) (p, q))
found_pair rows p q o h = found_decides _ _ (λ i at. subst (Has (pairs rows)) at.1 (has_get_or (pairs rows) i (0, 0) (omega (arith, at.0, length_pairs rows)))) o h

-- what the loops have come to: for the right states below r, the left states below p, the right arcs below y, the left arcs below x
abbrev pub BegunBelow : {L : Type 0} → Automaton L → ℕ → ℕ → List Pair → Type 0
BegunBelow k p r ps = (q : ℕ) → q < r → initial k q ≡ true → Has ps (p, q)

abbrev pub BegunTo : {L : Type 0} → Automaton L → Automaton L → ℕ → List Pair → Type 0
BegunTo m k p ps = (q : ℕ) → q < p → initial m q ≡ true → BegunAt k q ps

abbrev pub ClosedBelow : {L : Type 0} → Labels L → Automaton L → Arc L → ℕ → ℕ → List Pair → Type 0
ClosedBelow a k b q y ps = (z : ℕ) → z < y → (arc_at a k z).from ≡ q → Meets a b.label (arc_at a k z).label → Has ps (b.to, (arc_at a k z).to)

abbrev pub ClosedTo : {L : Type 0} → Labels L → Automaton L → Automaton L → Pair → ℕ → List Pair → Type 0
ClosedTo a m k pair x ps = (z : ℕ) → z < x → (arc_at a m z).from ≡ pair.0 → ClosedBy a m k z pair.1 ps

abbrev pub ClosedUpTo : {L : Type 0} → Labels L → Automaton L → Automaton L → ℕ → List Pair → Type 0
ClosedUpTo a m k i ps = (j : ℕ) → j < i → ClosedAt a m k (get_or ps j (0, 0)) ps

-- one number more below the end
pub below_more : (P : ℕ → Type 0) (n : ℕ) → ((z : ℕ) → z < n → P z) → P n → (z : ℕ) → z < n + 1 → P z
below_more P n before last z low = ⊎_elim (λ same. subst P (sym same) last) (λ other. before z (omega arith)) (cases_eq z n)

-- two arcs that leave a reachable pair and whose labels meet reach one
pub reached_by : {L : Type 0} (a : Labels L) (m k : Automaton L) (b c : Arc L) (q : ℕ) → Has m.arcs b → Has k.arcs c → (products a m k).State (b.from, q) → c.from ≡ q → Meets a b.label c.label → (products a m k).State (b.to, c.to)
reached_by a m k b c q left right state from meets =
    let here = left.2 (record { from = 0; label = a.full; to = 0 }) in
    let there = right.2 (record { from = 0; label = a.full; to = 0 }) in
    go left.0 right.0 state left.1 right.1 (λ i. (here i).from) ((λ i. (there i).from) ∙ from) ((λ i. is_some (a.first (a.meet (here i).label (there i).label))) ∙ meets) (λ i. (here i).to) (λ i. (there i).to)

-- a pair that was there is there
pub has_grown : (before after : List State) (x : Pair) → Grown before after → Has (pairs before) x → Has (pairs after) x
has_grown before after x h has = subst (λ l. Has (pairs l) x) (sym h.more) (subst (λ l. Has l x) (sym (map-append pair_of before h.added)) (has_append_left (pairs before) (pairs h.added) x has))

-- a pair is at the place where it was
pub pair_grown : (before after : List State) (i : ℕ) → i < length before → Grown before after → get_or (pairs after) i (0, 0) ≡ get_or (pairs before) i (0, 0)
pair_grown before after i low h =
    ap (λ l. get_or (pairs l) i (0, 0)) h.more ∙ ap (λ l. get_or l i (0, 0)) (map-append pair_of before h.added) ∙ get_or_append_left (pairs before) (pairs h.added) (0, 0) i (omega (arith, length_pairs before))

pub long_grown : (before after : List State) → Grown before after → length before ≤ length after
long_grown before after h = omega (arith, ap length h.more ∙ length-append before h.added)

module _ {L : Type 0} (a : Labels L) (m k : Automaton L) where
  -- one pair more
  module _ (rows' : List State) (p q : ℕ) (h : Sofar a m k rows') (new : (products a m k).State (p, q)) (none : Has (pairs rows') (p, q) → ⊥) where
    more : pairs (rows' ++ row_of m k p q ∷ []) ≡ pairs rows' ++ (p, q) ∷ []
    more = map-append pair_of rows' (row_of m k p q ∷ [])

    pub sofar_push : Sofar a m k (rows' ++ row_of m k p q ∷ [])
    sofar_push = record {
      reached = subst (All (products a m k).State) (sym more) (All-push (products a m k).State (pairs rows') (p, q) h.reached new);
      once = subst Distinct (sym more) (distinct_push (pairs rows') (p, q) h.once none);
      marked = All-push (λ s. s ≡ row_of m k s.left s.right) rows' (row_of m k p q) h.marked refl;
    }

    -- there are more pairs than rows
    pub more_pairs : (f : ℕ → Pair) × MoreThan (products a m k).State (length rows') f
    more_pairs =
        let ps = pairs rows' ++ (p, q) ∷ [] in
        let long : length ps ≡ length rows' + 1 = length_push (pairs rows') (p, q) ∙ ap (λ n. n + 1) (length_pairs rows') in (
          λ i. get_or ps i (0, 0),
          record {
            each = λ i low. All-get_or (products a m k).State ps i (0, 0) (omega arith) (All-push (products a m k).State (pairs rows') (p, q) h.reached new);
            once = λ i j low high e. distinct_places ps (0, 0) (distinct_push (pairs rows') (p, q) h.once none) i j (omega arith) (omega arith) e;
          },
        )

  pub extended_none : (s : Tail State) (P : List Pair → Type 0) → Sofar a m k (written s) → P (pairs (written s)) → Extended a m k s s P (Ok tt)
  extended_none s P h p = (h, record { added = []; more = sym (append-nil (written s)) }, p)

  -- the row of a new pair was pushed
  pub extended_push : (s t : Tail State) (p q : ℕ) (r : Result (Unit {0}) Full) → Sofar a m k (written s) → (products a m k).State (p, q) → (Has (pairs (written s)) (p, q) → ⊥) → room t ≡ room s → Pushed s t (row_of m k p q) r →
      Extended a m k s t (λ ps. Has ps (p, q)) r
  extended_push s t p q (Ok u) h new none long pushed = (
    subst (Sofar a m k) (sym pushed) (sofar_push (written s) p q h new none),
    record { added = row_of m k p q ∷ []; more = pushed },
    subst (λ l. Has (pairs l) (p, q)) (sym pushed) (subst (λ l. Has l (p, q)) (sym (more (written s) p q h new none)) (has_push (pairs (written s)) (p, q))),
  )
  extended_push s t p q (Err e) h new none long pushed =
      let f = more_pairs (written s) p q h new none in (f.0, subst (λ n. MoreThan (products a m k).State n f.0) (pushed.1 ∙ sym long) f.1)

  -- one step after another
  pub extended_then : (s t u : Tail State) (P Q R : List Pair → Type 0) → (((x : Pair) → Has (pairs (written t)) x → Has (pairs (written u)) x) → P (pairs (written t)) → Q (pairs (written u)) → R (pairs (written u))) →
      Extended a m k s t P (Ok tt) → Extended a m k t u Q (Ok tt) → Extended a m k s u R (Ok tt)
  extended_then s t u P Q R f h g = (
    g.0,
    record { added = h.1.added ++ g.1.added; more = g.1.more ∙ ap (λ l. l ++ g.1.added) h.1.more ∙ append_assoc (written s) h.1.added g.1.added },
    f (λ x. has_grown (written t) (written u) x g.1) h.2 g.2,
  )

  -- a turn of a loop that adds rows, and one that adds none
  pub turn : (s t u : Tail State) (P Q R : List Pair → Type 0) → (((x : Pair) → Has (pairs (written t)) x → Has (pairs (written u)) x) → P (pairs (written t)) → Q (pairs (written u)) → R (pairs (written u))) →
      Extended a m k s t P (Ok tt) × SameRows s t → Extended a m k t u Q (Ok tt) → SameRows t u → Extended a m k s u R (Ok tt) × SameRows s u
  turn s t u P Q R f h g same = (extended_then s t u P Q R f h.0 g, record { rows = same.rows ∙ h.1.rows; long = same.long ∙ h.1.long })

  pub pass : (s t : Tail State) (P R : List Pair → Type 0) → (P (pairs (written t)) → R (pairs (written t))) → Extended a m k s t P (Ok tt) × SameRows s t → Extended a m k s t R (Ok tt) × SameRows s t
  pass s t P R f h = ((h.0.0, h.0.1, f h.0.2), h.1)

  -- one pair more from which nothing leads out
  pub closed_more : (s t u : Tail State) (i : ℕ) (x : Pair) → i < length (written t) → x ≡ get_or (pairs (written t)) i (0, 0) →
      Extended a m k s t (ClosedUpTo a m k i) (Ok tt) × SameRows s t → Extended a m k t u (ClosedAt a m k x) (Ok tt) → SameRows t u → Extended a m k s u (ClosedUpTo a m k (i + 1)) (Ok tt) × SameRows s u
  closed_more s t u i x low is h g same =
      let was = λ (j : ℕ) (below : j < length (written t)). sym (pair_grown (written t) (written u) j below g.1) in
      turn s t u (ClosedUpTo a m k i) (ClosedAt a m k x) (ClosedUpTo a m k (i + 1))
      (λ more before new.
      below_more (λ j. ClosedAt a m k (get_or (pairs (written u)) j (0, 0)) (pairs (written u))) i
      (λ j below. subst (λ y. ClosedAt a m k y (pairs (written u))) (was j (omega arith)) (λ e elow from y ylow yfrom meets. more _ (before j below e elow from y ylow yfrom meets)))
      (subst (λ y. ClosedAt a m k y (pairs (written u))) (is ∙ was i low) new))
      h g same

  pub closed_all : (s t : Tail State) (i : ℕ) → length (written t) ≤ i → Extended a m k s t (ClosedUpTo a m k i) (Ok tt) → Extended a m k s t (Closed a m k) (Ok tt)
  closed_all s t i high h =
      (h.0, h.1, All-from_get_or (λ x. ClosedAt a m k x (pairs (written t))) (pairs (written t)) (0, 0) (λ j low. h.2 j (omega (arith, length_pairs (written t)))))

-- every reachable pair is there once the pairs of initial states are and nothing leads out
module _ {L : Type 0} (a : Labels L) (m k : Automaton L) (ps : List Pair) (begun : Begun m k ps) (closed : All (λ x. ClosedAt a m k x ps) ps) where
  all_there : {p q : ℕ} → Reachable a (rows a m) (rows a k) p q → Has ps (p, q)
  all_there (begin s t) = begun _ s.0 s.1 _ t.0 t.1
  all_there (go e f r ine inf from from' meets to to') =
      subst (λ x. Has ps x) (λ i. (to i, to' i)) (all-has (λ x. ClosedAt a m k x ps) ps _ closed (all_there r) e ine from f inf from' meets)

  pub pairs_number : All (λ x. Reachable a (rows a m) (rows a k) x.0 x.1) ps → Distinct ps → Numbers (product a (rows a m) (rows a k)).State (length ps) (λ i. get_or ps i (0, 0))
  pairs_number reached once = numbers_list ps (0, 0) reached (λ x r. all_there r) (distinct_places ps (0, 0) once)

-- the reachable pairs are numbered
pub explored : {L : Type 0} (a : Labels L) (m k : Automaton L) (s t u : Tail State) (r : Result (Unit {0}) Full) → Extended a m k s t (Begun m k) (Ok tt) → Extended a m k t u (Closed a m k) r →
    Extended a m k s u (λ ps. Paired a m k (written u)) r
explored a m k s t u (Ok tt) h g =
    extended_then a m k s t u (Begun m k) (Closed a m k) (λ ps. Paired a m k (written u))
    (λ more before new. subst (λ n. Numbers (products a m k).State n (λ i. get_or (pairs (written u)) i (0, 0))) (length_pairs (written u))
    (pairs_number a m k (pairs (written u)) (λ p low yes' q qlow qyes. more _ (before p low yes' q qlow qyes)) new g.0.reached g.0.once)) h g
explored a m k s t u (Err e) h g = g
