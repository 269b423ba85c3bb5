-- Rows that are written one behind another.
use Rattle.std.proofs.Common.{◌≡◌, ℕ, ◌+◌, ◌<◌, ◌≤◌, Bool, true, false, ◌||◌, cond, List, [], ◌∷◌, ◌++◌, map, length, get_or, take, drop, filter, flat_map, Ok, Err, IsErr, Result, refl, sym, ap, ◌∙◌, map-id, append_assoc, append-nil, length-append, take-append-drop, drop-cons, add-one, arith}
use Rattle.std.specs.List.{range_with_len, list_any}
use Rattle.std.proofs.lemmas.Bool.{cond-true, cond-false, false≢true}
use Rattle.std.proofs.lemmas.List.{length-map, map_push, get_or-map, flat_map_more}
use Rattle.std.proofs.lemmas.List.Elements.{filter-append, filter_more}
use Rattle.std.proofs.lemmas.List.FromFn.{filter_of_map_range_with_len_more, take-map-range_with_len, get_or-range_with_len, length-range_with_len}
use Rattle.std.proofs.lemmas.Grind.{flat_map-append}
use Rattle.automaton.specs.declared.Arc.{Arc}
use Rattle.automaton.specs.declared.Marks.{Marks}
use Rattle.automaton.specs.declared.State.{State}
use Rattle.automaton.specs.Automaton.{Automaton, initial, unmarked}
use Rattle.build.specs.declared.tail.Full.{Full}
use Rattle.build.specs.declared.tail.Tail.{Tail}
use Rattle.build.specs.Concats.{moved, begun, led_to}
use Rattle.build.specs.Tails.{written, room, SameRows, Appended}

module _ {X Y : Type 0} (f : X → Y) where
  pub map_map : {Z : Type 0} (g : Y → Z) (xs : List X) → map g (map f xs) ≡ map (λ x. g (f x)) xs
  map_map g [] = refl
  map_map g (x ∷ xs) = ap (λ l. g (f x) ∷ l) (map_map g xs)

  pub list_any_map : (p : Y → Bool) (xs : List X) → list_any p (map f xs) ≡ list_any (λ x. p (f x)) xs
  list_any_map p [] = refl
  list_any_map p (x ∷ xs) = ap (λ b. p (f x) || b) (list_any_map p xs)

module _ {X : Type 0} (p : X → Bool) where
  -- what passes before an element that passes, the element, and what passes behind it
  pub filter_part : (xs : List X) (i : ℕ) (d : X) → i < length xs → p (get_or xs i d) ≡ true → filter p xs ≡ filter p (take i xs) ++ get_or xs i d ∷ filter p (drop (i + 1) xs)
  filter_part xs i d low pass =
      let x = get_or xs i d in
      let rest = ap (λ j. x ∷ drop j xs) (sym (add-one i)) in
      ap (filter p) (sym (take-append-drop i xs)) ∙ filter-append p (take i xs) (drop i xs) ∙ ap (λ l. filter p (take i xs) ++ filter p l) (drop-cons xs i d low ∙ rest)
      ∙ ap (λ l. filter p (take i xs) ++ l) (cond-true (p x) (x ∷ filter p (drop (i + 1) xs)) (filter p (drop (i + 1) xs)) pass)

  pub filter_part_long : (xs : List X) (i : ℕ) (d : X) → i < length xs → p (get_or xs i d) ≡ true → length (filter p (take i xs)) < length (filter p xs)
  filter_part_long xs i d low pass = omega (arith, ap (λ l. length l) (filter_part xs i d low pass), length-append (filter p (take i xs)) (get_or xs i d ∷ filter p (drop (i + 1) xs)))

  -- no more than all that the elements that pass give
  pub flat_map_part_long : {Y : Type 0} (f : X → List Y) (xs : List X) (i : ℕ) (d : X) → i < length xs → p (get_or xs i d) ≡ true → length (flat_map f (filter p (take i xs))) + length (f (get_or xs i d)) ≤ length (flat_map f (filter p xs))
  flat_map_part_long f xs i d low pass =
      let before = filter p (take i xs) in
      let x = get_or xs i d in
      let after = filter p (drop (i + 1) xs) in
      omega (arith, ap (λ l. length (flat_map f l)) (filter_part xs i d low pass), ap (λ l. length l) (flat_map-append f before (x ∷ after)), length-append (flat_map f before) (flat_map f (x ∷ after)), length-append (f x) (flat_map f after))

  -- one element more
  pub flat_map_yes : {Y : Type 0} (f : X → List Y) (xs : List X) (i : ℕ) (d : X) (done all : List Y) → i < length xs → p (get_or xs i d) ≡ true → all ≡ done ++ flat_map f (filter p (take i xs)) → all ++ f (get_or xs i d) ≡ done ++ flat_map f (filter p (take (i + 1) xs))
  flat_map_yes f xs i d done all low pass so =
      let x = get_or xs i d in
      let before = filter p (take i xs) in
      let more = filter_more p xs i d low ∙ ap (λ l. before ++ l) (cond-true (p x) (x ∷ []) [] pass) in
      ap (λ l. l ++ f x) so ∙ flat_map_more f done before x ∙ ap (λ l. done ++ flat_map f l) (sym more)

  pub filter_no : (xs : List X) (i : ℕ) (d : X) → i < length xs → p (get_or xs i d) ≡ false → filter p (take i xs) ≡ filter p (take (i + 1) xs)
  filter_no xs i d low fail =
      let x = get_or xs i d in
      let before = filter p (take i xs) in
      sym (filter_more p xs i d low ∙ ap (λ l. before ++ l) (cond-false (p x) (x ∷ []) [] fail) ∙ append-nil before)

-- one number more
filter_range_more : (p : ℕ → Bool) (n : ℕ) → filter p (range_with_len 0 (n + 1)) ≡ filter p (range_with_len 0 n) ++ cond (p n) (n ∷ []) []
filter_range_more p n =
    let id = λ (m : ℕ). map-id (range_with_len 0 m) in
    ap (filter p) (sym (id (n + 1))) ∙ filter_of_map_range_with_len_more p (λ i. i) 0 n n (omega arith) ∙ ap (λ l. filter p l ++ cond (p n) (n ∷ []) []) (id n)

pub take_range : (n i : ℕ) → i ≤ n → take i (range_with_len 0 n) ≡ range_with_len 0 i
take_range n i low = ap (take i) (sym (map-id (range_with_len 0 n))) ∙ take-map-range_with_len (λ j. j) 0 n i low ∙ map-id (range_with_len 0 i)

-- not all numbers that pass are before one that passes
pub filter_range_part : (p : ℕ → Bool) (n i : ℕ) → i < n → p i ≡ true → length (filter p (range_with_len 0 i)) < length (filter p (range_with_len 0 n))
filter_range_part p n i low pass =
    let long = length-range_with_len 0 n in
    let is : get_or (range_with_len 0 n) i 0 ≡ i = get_or-range_with_len 0 n i 0 low ∙ omega arith in
    let part = filter_part_long p (range_with_len 0 n) i 0 (omega arith) (ap p is ∙ pass) in
    omega (arith, part, ap (λ l. length (filter p l)) (take_range n i (omega arith)))

pub same_rows_then : {T : Type 0} (s t u : Tail T) → SameRows s t → SameRows t u → SameRows s u
same_rows_then s t u first then = record { rows = then.rows ∙ first.rows; long = then.long ∙ first.long }

-- rows, and then more rows
pub appended_then : {T : Type 0} (s t u : Tail T) (xs ys : List T) (r : Result (Unit {0}) Full) → written t ≡ written s ++ xs → SameRows s t → Appended t u ys r → Appended s u (xs ++ ys) r
appended_then s t u xs ys (Ok e) first same then = then ∙ ap (λ l. l ++ ys) first ∙ append_assoc (written s) xs ys
appended_then s t u xs ys (Err e) first same then = omega (arith, ap (λ l. length l) first, length-append (written s) xs, length-append xs ys, same.long, then)

module _ {L : Type 0} (m : Automaton L) (n : ℕ) (b : Arc L) where
  -- the states below q that are initial
  abbrev to : ℕ → List (Arc L)
  to q = led_to n (filter (initial m) (range_with_len 0 q)) b

  pub led_more : (done all : List (Arc L)) (q : ℕ) → all ≡ done ++ to q → initial m q ≡ true → all ++ record { from = b.from; label = b.label; to = n + q } ∷ [] ≡ done ++ to (q + 1)
  led_more done all q so begins =
      let row : ℕ → Arc L = λ r. record { from = b.from; label = b.label; to = n + r } in
      let before = filter (initial m) (range_with_len 0 q) in
      let more = filter_range_more (initial m) q ∙ ap (λ l. before ++ l) (cond-true (initial m q) (q ∷ []) [] begins) in
      ap (λ l. l ++ row q ∷ []) so ∙ append_assoc done (to q) (row q ∷ []) ∙ ap (λ l. done ++ l) (sym (map_push row before q) ∙ ap (map row) (sym more))

  pub led_less : (q : ℕ) → initial m q ≡ false → to q ≡ to (q + 1)
  led_less q ends =
      let before = filter (initial m) (range_with_len 0 q) in
      let more = filter_range_more (initial m) q ∙ ap (λ l. before ++ l) (cond-false (initial m q) (q ∷ []) [] ends) ∙ append-nil before in
      ap (λ l. led_to n l b) (sym more)

  pub led_part : (q : ℕ) → q < length m.states → initial m q ≡ true → length (to q) < length (led_to n (begun m) b)
  led_part q low begins =
      let row : ℕ → Arc L = λ r. record { from = b.from; label = b.label; to = n + r } in
      omega (arith, filter_range_part (initial m) (length m.states) q low begins, length-map (filter (initial m) (range_with_len 0 q)) row, length-map (begun m) row)

-- no room for all of them
pub appended_err : {T : Type 0} (s t : Tail T) (xs : List T) (r : Result (Unit {0}) Full) → IsErr r → room s < length (written s) + length xs → Appended s t xs r
appended_err s t xs (Ok e) err full = absurd (false≢true err)
appended_err s t xs (Err e) err full = full

pub moved_none : {L : Type 0} (bs : List (Arc L)) → map (moved 0) bs ≡ bs
moved_none [] = refl
moved_none (b ∷ bs) =
    let from : 0 + b.from ≡ b.from = omega arith in
    let to : 0 + b.to ≡ b.to = omega arith in
    λ i. record { from = from i; label = b.label; to = to i } ∷ moved_none bs i

-- the marks in a row are those of its state
pub row_marks : (rows : List State) (states : List Marks) (q : ℕ) (d : State) → map (λ r. r.marks) rows ≡ states → q < length rows → get_or states q unmarked ≡ (get_or rows q d).marks
row_marks rows states q d same low = ap (λ l. get_or l q unmarked) (sym same) ∙ get_or-map (λ r. r.marks) rows q d unmarked low
