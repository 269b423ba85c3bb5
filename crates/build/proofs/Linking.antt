-- The arcs of a concatenation, listed, and how many they are.
use Rattle.std.proofs.Common.{◌≡◌, ℕ, ◌+◌, ◌*◌, ◌<◌, Bool, true, ◌⊎◌, List, [], ◌∷◌, ◌++◌, map, filter, flat_map, length, length-append, get_or, count_by, sym, refl, ap, ◌∙◌, subst, ap₂, inl, inr, ⊎_elim, arith}
use Rattle.std.specs.List.{range_with_len}
use Rattle.std.proofs.lemmas.Bool.{cases_Bool, cond-true, cond-false}
use Rattle.std.proofs.lemmas.List.{length-map, map-append}
use Rattle.std.proofs.lemmas.List.Folds.{flat_map-map}
use Rattle.std.proofs.lemmas.List.FromFn.{fill_by_all, length-range_with_len}
use Rattle.std.proofs.lemmas.List.Sums.{length-filter}
use Rattle.alphabet.specs.Labels.{Labels}
use Rattle.automaton.specs.declared.Arc.{Arc}
use Rattle.automaton.specs.Automaton.{Automaton, initial, accepting, arc_at, unmarked}
use Rattle.automaton.specs.Numbers.{Numbers}
use Rattle.build.specs.Concats.{Side, Link, concats, entering, initials, moved, begun, led_to, led_on, arc_rows}
use Rattle.build.specs.Pairs.{Pair}
use Rattle.build.proofs.Joining.{map_map}
use Rattle.build.proofs.Listing.{Lists, lists_like, lists_numbers, lists_range, lists_filter, lists_sum, lists_pairs, length_pairs}

module _ {X Y : Type 0} (f : X → Y) where
  map_filter : (p : Y → Bool) (xs : List X) → map f (filter (λ x. p (f x)) xs) ≡ filter p (map f xs)
  map_filter p [] = refl
  map_filter p (x ∷ xs) =
      let rest = map_filter p xs in
      ⊎_elim
      (λ pass. ap (map f) (cond-true (p (f x)) (x ∷ filter (λ x. p (f x)) xs) (filter (λ x. p (f x)) xs) pass) ∙ ap (λ l. f x ∷ l) rest ∙ sym (cond-true (p (f x)) (f x ∷ filter p (map f xs)) (filter p (map f xs)) pass))
      (λ fail. ap (map f) (cond-false (p (f x)) (x ∷ filter (λ x. p (f x)) xs) (filter (λ x. p (f x)) xs) fail) ∙ rest ∙ sym (cond-false (p (f x)) (f x ∷ filter p (map f xs)) (filter p (map f xs)) fail))
      (cases_Bool (p (f x)))

  map_flat_map : {Z : Type 0} (g : Z → List X) (zs : List Z) → map f (flat_map g zs) ≡ flat_map (λ z. map f (g z)) zs
  map_flat_map g [] = refl
  map_flat_map g (z ∷ zs) = map-append f (g z) (flat_map g zs) ∙ ap (λ l. map f (g z) ++ l) (map_flat_map g zs)

-- the elements at the places of a list
by_places : {X : Type 0} (xs : List X) (d : X) → map (λ i. get_or xs i d) (range_with_len 0 (length xs)) ≡ xs
by_places xs d = sym (fill_by_all (λ i. get_or xs i d) xs (length xs) d refl (λ k low. refl))

-- those that pass, by their places
passing : {X : Type 0} (p : X → Bool) (xs : List X) (d : X) → map (λ i. get_or xs i d) (filter (λ i. p (get_or xs i d)) (range_with_len 0 (length xs))) ≡ filter p xs
passing p xs d = map_filter (λ i. get_or xs i d) p (range_with_len 0 (length xs)) ∙ ap (filter p) (by_places xs d)

passing_count : {X : Type 0} (p : X → Bool) (xs : List X) (d : X) → length (filter (λ i. p (get_or xs i d)) (range_with_len 0 (length xs))) ≡ count_by p xs
passing_count {X} p xs d =
    let at : ℕ → X = λ i. get_or xs i d in
    sym (length-map (filter (λ i. p (at i)) (range_with_len 0 (length xs))) at) ∙ ap (λ l. length l) (passing p xs d) ∙ length-filter p xs

module _ {L : Type 0} (a : Labels L) (m k : Automaton L) where
  abbrev n₁ : ℕ
  n₁ = length m.states

  abbrev below : ℕ → List ℕ
  below n = range_with_len 0 n

  -- the places of the arcs that enter accepting states
  abbrev into : List ℕ
  into = filter (λ x. accepting m (arc_at a m x).to) (below (length m.arcs))

  abbrev led : List Pair
  led = flat_map (λ x. map (λ q. (x, q)) (begun k)) into

  abbrev pub links : List Link
  links = map inl (below (length m.arcs)) ++ map inr (map inl (below (length k.arcs)) ++ map inr led)

  led_listed : Lists (λ (x : Pair). (x.0 < length m.arcs) × (accepting m (arc_at a m x.0).to ≡ true) × ((x.1 < length k.states) × (initial k x.1 ≡ true))) led
  led_listed =
      lists_like led (lists_pairs into (begun k) (lists_filter (λ x. accepting m (arc_at a m x).to) (below (length m.arcs)) (lists_range (length m.arcs))) (lists_filter (initial k) (below (length k.states)) (lists_range (length k.states))))
      (λ x h. (h.0.0, h.0.1, h.1)) (λ x h. ((h.0, h.1), h.2))

  pub links_listed : Lists (concats a m k).Arrow links
  links_listed = lists_sum (below (length m.arcs)) (map inl (below (length k.arcs)) ++ map inr led) (lists_range (length m.arcs)) (lists_sum (below (length k.arcs)) led (lists_range (length k.arcs)) led_listed)

  links_long : length links ≡ length m.arcs + length k.arcs + entering m * initials k
  links_long =
      let one = below (length m.arcs) in
      let two = below (length k.arcs) in
      let rest : List (ℕ ⊎ Pair) = map inl two ++ map inr led in
      let first : List Link = map inl one in
      let led_long : length led ≡ entering m * initials k = length_pairs into (begun k) ∙ ap₂ (λ (i j : ℕ). i * j) (passing_count (λ b. accepting m b.to) m.arcs (record { from = 0; label = a.full; to = 0 })) (passing_count (λ s. s.initial) k.states unmarked) in
      let rest_long : length rest ≡ length k.arcs + entering m * initials k = length-append (map inl two) (map inr led) ∙ ap₂ (λ (i j : ℕ). i + j) (length-map two inl ∙ length-range_with_len 0 (length k.arcs)) (length-map led inr ∙ led_long) in
      let all : length links ≡ length m.arcs + (length k.arcs + entering m * initials k) = length-append first (map inr rest) ∙ ap₂ (λ (i j : ℕ). i + j) (length-map one inl ∙ length-range_with_len 0 (length m.arcs)) (length-map rest inr ∙ rest_long) in
      all ∙ omega arith

  -- the row of a link
  abbrev pub place : Side → ℕ
  place (inl p) = p
  place (inr q) = n₁ + q

  abbrev pub row : Link → Arc L
  row z = record { from = place ((concats a m k).from z); label = (concats a m k).label z; to = place ((concats a m k).to z) }

  led_rows : map (λ z. row (inr (inr z))) led ≡ led_on m k
  led_rows =
      map_flat_map (λ z. row (inr (inr z))) (λ x. map (λ q. (x, q)) (begun k)) into ∙ (λ i. flat_map (λ x. map_map (λ q. (x, q)) (λ z. row (inr (inr z))) (begun k) i) into)
      ∙ sym (flat_map-map (led_to n₁ (begun k)) (arc_at a m) into) ∙ ap (flat_map (led_to n₁ (begun k))) (passing (λ b. accepting m b.to) m.arcs (record { from = 0; label = a.full; to = 0 }))

  pub links_rows : map row links ≡ arc_rows m k
  links_rows =
      let one = below (length m.arcs) in
      let two = below (length k.arcs) in
      let rest : List (ℕ ⊎ Pair) = map inl two ++ map inr led in
      let none : Arc L = record { from = 0; label = a.full; to = 0 } in
      let later : ℕ ⊎ Pair → Arc L = λ z. row (inr z) in
      map-append row (map inl one) (map inr rest)
      ∙ ap₂ (λ (l l' : List (Arc L)). l ++ l') (map_map inl row one ∙ by_places m.arcs none)
      (map_map inr row rest ∙ map-append later (map inl two) (map inr led)
      ∙ ap₂ (λ (l l' : List (Arc L)). l ++ l') (map_map inl later two ∙ sym (map_map (arc_at a k) (moved n₁) two) ∙ ap (map (moved n₁)) (by_places k.arcs none)) (map_map inr later led ∙ led_rows))

pub links_counted : {L : Type 0} (a : Labels L) (m k : Automaton L) → (f : ℕ → Link) × Numbers (concats a m k).Arrow (length m.arcs + length k.arcs + entering m * initials k) f
links_counted a m k = (λ i. get_or (links a m k) i (inl 0), subst (λ n. Numbers (concats a m k).Arrow n (λ i. get_or (links a m k) i (inl 0))) (links_long a m k) (lists_numbers (links a m k) (inl 0) (links_listed a m k)))
