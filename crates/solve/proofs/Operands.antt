-- The operands of a part, pattern by pattern and join by join, and automata in kept rows.
use Rattle.std.proofs.Common.{◌≡◌, ℕ, ◌+◌, ◌<◌, Bool, true, false, cond, eqb, List, [], ◌∷◌, ◌++◌, map, length, get_or, take, drop, Some, None, filter, Option, sym, refl, ap, ◌∙◌}
use Rattle.std.specs.Option.{option_map}
use Rattle.std.specs.List.{ContainsAt as Has}
use Rattle.std.proofs.lemmas.List.Elements.{filter-append}
use Rattle.std.proofs.lemmas.List.{map-append, map_more, take_more, take-append-drop}
use Rattle.std.proofs.lemmas.Bool.{eq-eqb, ne_eqb}
use Rattle.automaton.specs.declared.Arc.{Arc}
use Rattle.automaton.specs.declared.State.{State}
use Rattle.build.specs.declared.Rows.{Rows}
use Rattle.build.specs.Tables.{at, Lies, Stands, Kept}
use Rattle.sheet.specs.declared.Held.{Held}
use Rattle.sheet.specs.declared.Join.{Join}
use Rattle.sheet.specs.Joins.{none}
use Rattle.sheet.specs.Patterns.{nowhere}
use Rattle.verdict.specs.Course.{Done, Operand, pattern, join, find, result_or, result_of, pattern_operands, join_operands}
use Rattle.verdict.specs.Problem.{Pattern, read}
use Rattle.verdict.proofs.Finding.{has_first, has_rest, find_map}
use Rattle.solve.specs.Builds.{AllStand}
use Rattle.solve.specs.Parts.{Among, done, dones}
use Rattle.solve.specs.Report.{place_or, place_of}
use Rattle.solve.proofs.Finds.{found_place}
use Rattle.solve.proofs.Going.{at_same}

pub map_same : {X Y : Type 0} (f g : X → Y) (xs : List X) → ((x : X) → Has xs x → f x ≡ g x) → map f xs ≡ map g xs
map_same f g [] same = refl
map_same f g (x ∷ xs) same =
    let here = same x (has_first x xs) in
    let rest = map_same f g xs (λ y h. same y (has_rest x xs y h)) in
    λ i. here i ∷ rest i

-- those of a list that pass a test, as what they are taken to
module _ {X Y : Type 0} (f : X → Y) (test : X → Bool) where
  picked_append : (xs ys : List X) → map f (filter test (xs ++ ys)) ≡ map f (filter test xs) ++ map f (filter test ys)
  picked_append xs ys = ap (map f) (filter-append test xs ys) ∙ map-append f (filter test xs) (filter test ys)

  picked_yes : (x : X) → test x ≡ true → map f (filter test (x ∷ [])) ≡ f x ∷ []
  picked_yes x e = ap (λ b. map f (cond b (x ∷ []) [])) e

  picked_no : (x : X) → test x ≡ false → map f (filter test (x ∷ [])) ≡ []
  picked_no x e = ap (λ b. map f (cond b (x ∷ []) [])) e

module _ {L : Type 0} (p : ℕ) where
  pub pattern_yes : (h : Pattern L) → h.part ≡ p → pattern_operands (h ∷ []) p ≡ pattern h.automaton ∷ []
  pattern_yes h e = picked_yes (λ h. pattern h.automaton) (λ h. eqb h.part p) h (eq-eqb h.part p e)

  pub pattern_no : (h : Pattern L) → (h.part ≡ p → ⊥) → pattern_operands (h ∷ []) p ≡ []
  pattern_no h e = picked_no (λ h. pattern h.automaton) (λ h. eqb h.part p) h (ne_eqb h.part p e)

  module _ (r : Held → Pattern L) (hs : List Held) (k : ℕ) where
    pub patterns_more : k < length hs → pattern_operands (map r (take (k + 1) hs)) p ≡ pattern_operands (map r (take k hs)) p ++ pattern_operands (r (get_or hs k nowhere) ∷ []) p
    patterns_more low = ap (λ l. pattern_operands l p) (map_more r hs k nowhere low) ∙ picked_append (λ h. pattern h.automaton) (λ h. eqb h.part p) (map r (take k hs)) (r (get_or hs k nowhere) ∷ [])

    pub patterns_rest : pattern_operands (map r (take k hs)) p ++ pattern_operands (map r (drop k hs)) p ≡ pattern_operands (map r hs) p
    patterns_rest = sym (picked_append (λ h. pattern h.automaton) (λ h. eqb h.part p) (map r (take k hs)) (map r (drop k hs))) ∙ ap (λ l. pattern_operands l p) (sym (map-append r (take k hs) (drop k hs)) ∙ ap (map r) (take-append-drop k hs))

  module _ (ds : List (Done L)) where
    abbrev as_operand : Join → Operand L
    as_operand j = join (result_of ds j.left) (result_of ds j.right)

    pub join_yes : (j : Join) → j.whole ≡ p → join_operands ds (j ∷ []) p ≡ join (result_of ds j.left) (result_of ds j.right) ∷ []
    join_yes j e = picked_yes as_operand (λ j. eqb j.whole p) j (eq-eqb j.whole p e)

    pub join_no : (j : Join) → (j.whole ≡ p → ⊥) → join_operands ds (j ∷ []) p ≡ []
    join_no j e = picked_no as_operand (λ j. eqb j.whole p) j (ne_eqb j.whole p e)

    module _ (js : List Join) (k : ℕ) where
      pub joins_more : k < length js → join_operands ds (take (k + 1) js) p ≡ join_operands ds (take k js) p ++ join_operands ds (get_or js k none ∷ []) p
      joins_more low = ap (λ l. join_operands ds l p) (take_more js k none low) ∙ picked_append as_operand (λ j. eqb j.whole p) (take k js) (get_or js k none ∷ [])

      pub joins_rest : join_operands ds (take k js) p ++ join_operands ds (drop k js) p ≡ join_operands ds js p
      joins_rest = sym (picked_append as_operand (λ j. eqb j.whole p) (take k js) (drop k js)) ∙ ap (λ l. join_operands ds l p) (take-append-drop k js)

-- automata in kept rows
module _ {L : Type 0} (used : Rows) (states states' : List State) (arcs arcs' : List (Arc L)) (ks : Kept used.states states states') (ka : Kept used.arcs arcs arcs') where
  pub read_same : (h : Held) → Lies used h.place → read states' arcs' h ≡ read states arcs h
  read_same h lies = let same = at_same used states states' arcs arcs' ks ka h.place lies in λ i. record { part = h.part; automaton = same i }

  pub done_same : (h : Held) → Lies used h.place → done states' arcs' h ≡ done states arcs h
  done_same h lies = let same = at_same used states states' arcs arcs' ks ka h.place lies in λ i. record { part = h.part; result = same i }

  module _ (hs : List Held) (stand : AllStand states arcs used hs) where
    pub reads_same : map (read states' arcs') hs ≡ map (read states arcs) hs
    reads_same = map_same (read states' arcs') (read states arcs) hs (λ h has. read_same h (stand h has).lies)

    pub dones_same : dones states' arcs' hs ≡ dones states arcs hs
    dones_same = map_same (done states' arcs') (done states arcs) hs (λ h has. done_same h (stand h has).lies)

module _ {L : Type 0} (states : List State) (arcs : List (Arc L)) (hs : List Held) (q : ℕ) where
  -- the result of a part is the automaton at its place
  pub result_at : result_of (dones states arcs hs) q ≡ at states arcs (place_of hs q)
  result_at = ap result_or (find_map (λ h. h.part) (λ d. d.part) (done states arcs) (λ _. refl) hs q) ∙ by (find (λ h. h.part) hs q)
    where
      by : (o : Option Held) → result_or (option_map (done states arcs) o) ≡ at states arcs (place_or o)
      by None = refl
      by (Some h) = refl

  pub stands_found : (used : Rows) → AllStand states arcs used hs → Among hs q → Stands states arcs used (place_of hs q)
  stands_found used stand among = found_place hs q (Stands states arcs used) stand among
