-- The automaton of a fixed text accepts just the text.
use Rattle.std.proofs.Common.{◌≡◌, ℕ, suc, ◌+◌, ◌<◌, ◌≤◌, true, ltb, leb, List, [], ◌∷◌, length, get_or, drop, sym, refl, ap, ◌∙◌, subst, add-zero, zero-add, arith}
use Rattle.std.specs.List.{ContainsAt as Has, AllByRecursion as All}
use Rattle.std.proofs.lemmas.List.{drop_more, drop_all}
use Rattle.std.proofs.lemmas.Bool.{and_parts, and_from, lt-ltb, leb-true, le-leb, eqb-true, eq-eqb}
use Rattle.alphabet.specs.Labels.{Labels, Lawful, Ranged}
use Rattle.automaton.specs.declared.Arc.{Arc}
use Rattle.automaton.specs.Automaton.{Word, Walk, stay, step, Inside}
use Rattle.automaton.proofs.Walks.{walk_letters}
use Rattle.giver.specs.Told.{Sound}
use Rattle.giver.specs.Fixed.{chain, chain_arcs, AcceptsJust}
use Rattle.giver.proofs.Chain.{link, chain_arcs_length, get_or-chain_arcs, chain_marks_length, chain_marks_at}

has_head : {X : Type 0} (x : X) (xs : List X) → Has (x ∷ xs) x
has_head x xs = (0, omega arith, λ d. refl)

has_tail : {X : Type 0} (x : X) (xs : List X) (y : X) → Has xs y → Has (x ∷ xs) y
has_tail x xs y h = (suc h.0, omega (arith, h.1), λ d. h.2 d)

-- the arcs of a text lead from state to state
pub chain_inside : {L : Type 0} (range : ℕ → ℕ → L) (text : Word) → Inside (chain range text)
chain_inside range text b has =
    let i = has.0 in
    let n = chain_marks_length (length text) in
    let low : i < length text = omega (arith, has.1, chain_arcs_length range 0 text) in
    let is : b ≡ link range i (get_or text i 0) = sym (has.2 b) ∙ get_or-chain_arcs range 0 text i b low ∙ ap (λ k. link range k (get_or text i 0)) (zero-add i) in
    let from = ap (λ x. x.from) is in
    let to = ap (λ x. x.to) is in
    (omega arith, omega arith)

pub chain_sound : {L : Type 0} (range : ℕ → ℕ → L) (text : Word) → length text ≤ 255 → Sound (chain range text)
chain_sound range text h =
    ((omega (arith, chain_marks_length (length text)), omega (arith, chain_arcs_length range 0 text)), chain_inside range text)

module _ {L : Type 0} {a : Labels L} {range : ℕ → ℕ → L} (laws : Lawful a) (ranged : Ranged a range) where
  -- the label of one letter admits that letter, if the alphabet has it
  one_letter : (c : ℕ) → c < a.letters → a.admits (range c c) c ≡ true
  one_letter c h = ranged.range_means c c c ∙ and_from _ _ (lt-ltb c _ h) (and_from _ _ (le-leb c c (omega arith)) (le-leb c c (omega arith)))

  -- and no other
  no_other : (b c : ℕ) → a.admits (range b b) c ≡ true → c ≡ b
  no_other b c h =
      let both = and_parts (leb b c) (leb c b) (and_parts (ltb c a.letters) _ (sym (ranged.range_means b b c) ∙ h)).1 in
      omega (arith, leb-true b c both.0, leb-true c b both.1)

  spells : (arcs : List (Arc L)) (k : ℕ) (w : Word) → ((b : Arc L) → Has (chain_arcs range k w) b → Has arcs b) → All (λ c. c < a.letters) w → Walk a.admits arcs k w (k + length w)
  spells arcs k [] inc all = subst (λ q. Walk a.admits arcs k [] q) (sym (add-zero k)) stay
  spells arcs k (c ∷ w) inc all =
      let rest = spells arcs (k + 1) w (λ b h. inc b (has_tail _ _ b h)) all.1 in
      let there : k + 1 + length w ≡ k + suc (length w) = omega arith in
      subst (λ q. Walk a.admits arcs k (c ∷ w) q) there (step (link range k c) (inc _ (has_head _ _)) refl (one_letter c all.0) rest)

  spelt : (text : Word) {p q : ℕ} {w : Word} → Walk a.admits (chain_arcs range 0 text) p w q → q ≡ length text → w ≡ drop p text
  spelt text {p} stay e = sym (drop_all p text (omega arith))
  spelt text {p} (step {c} {w} b has from yes' h) e =
      let i = has.0 in
      let low : i < length text = omega (arith, has.1, chain_arcs_length range 0 text) in
      let is : b ≡ link range i (get_or text i 0) = sym (has.2 b) ∙ get_or-chain_arcs range 0 text i b low ∙ ap (λ n. link range n (get_or text i 0)) (zero-add i) in
      let rest = spelt text h e ∙ ap (λ n. drop n text) (ap (λ x. x.to) is) in
      let here : i ≡ p = sym (ap (λ x. x.from) is) ∙ from in
      let letter : c ≡ get_or text i 0 = no_other _ c (subst (λ l. a.admits l c ≡ true) (ap (λ x. x.label) is) yes') in
      subst (λ n. c ∷ w ≡ drop n text) here ((λ j. letter j ∷ rest j) ∙ sym (drop_more text i 0 low))

  pub accepts_just : (text : Word) → AcceptsJust a range text
  accepts_just text w = (
    λ x.
        let n = length text in
        let starts : x.start ≡ 0 = eqb-true x.start 0 (ap (λ s. s.initial) (chain_marks_at n x.start) ∙ x.starts) in
        let ends : x.end ≡ n = eqb-true x.end n (ap (λ s. s.accepting) (chain_marks_at n x.end) ∙ x.ends) in
        let is : w ≡ text = spelt text x.walk ends ∙ ap (λ k. drop k text) starts in
        (is, subst (All (λ c. c < a.letters)) is (walk_letters a laws x.walk)),
    λ h.
        let n = length text in
        record {
          start = 0;
          end = n;
          starts = sym (ap (λ s. s.initial) (chain_marks_at n 0));
          ends = sym (ap (λ s. s.accepting) (chain_marks_at n n)) ∙ eq-eqb n n refl;
          walk = subst (λ q. Walk a.admits (chain_arcs range 0 text) 0 w q) (zero-add n) (subst (λ v. Walk a.admits (chain_arcs range 0 text) 0 v (0 + n)) (sym h.0) (spells _ 0 text (λ b has. has) h.1));
        },
  )
