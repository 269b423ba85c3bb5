-- The rows of a fixed text's automaton, place by place.
use Rattle.std.proofs.Common.{◌≡◌, ℕ, zero, suc, ◌+◌, ◌<◌, ◌≤◌, [], ◌∷◌, map, length, get_or, sym, refl, ap, ◌∙◌, ⊎_elim, add-zero, zero-add, arith}
use Rattle.std.specs.List.{range_with_len}
use Rattle.std.proofs.lemmas.List.FromFn.{length-map-range_with_len, get_or-map-range_with_len}
use Rattle.std.proofs.lemmas.List.{get_or_past}
use Rattle.std.proofs.lemmas.Bool.{cases_lt, ne_eqb}
use Rattle.automaton.specs.declared.Arc.{Arc}
use Rattle.automaton.specs.Automaton.{Word, unmarked}
use Rattle.giver.specs.Fixed.{chain_marks, chain_arcs}

-- the arc of letter c from the state k
abbrev pub link : {L : Type 0} → (ℕ → ℕ → L) → ℕ → ℕ → Arc L
link range k c = record { from = k; label = range c c; to = k + 1 }

module _ {L : Type 0} (range : ℕ → ℕ → L) where
  pub chain_arcs_length : (k : ℕ) (w : Word) → length (chain_arcs range k w) ≡ length w
  chain_arcs_length k [] = refl
  chain_arcs_length k (c ∷ w) = ap suc (chain_arcs_length (k + 1) w)

  pub get_or-chain_arcs : (k : ℕ) (w : Word) (i : ℕ) (d : Arc L) → i < length w → get_or (chain_arcs range k w) i d ≡ link range (k + i) (get_or w i 0)
  get_or-chain_arcs k [] i d h = absurd (omega arith)
  get_or-chain_arcs k (c ∷ w) zero d h = ap (λ n. link range n c) (sym (add-zero k))
  get_or-chain_arcs k (c ∷ w) (suc i) d h =
      let there : k + 1 + i ≡ k + suc i = omega arith in
      get_or-chain_arcs (k + 1) w i d (omega arith) ∙ ap (λ n. link range n (get_or w i 0)) there

  pub chain_arc_at : (w : Word) (i c : ℕ) (d : Arc L) → i < length w → c ≡ get_or w i 0 → link range i c ≡ get_or (chain_arcs range 0 w) i d
  chain_arc_at w i c d h is = ap (link range i) is ∙ ap (λ n. link range n (get_or w i 0)) (sym (zero-add i)) ∙ sym (get_or-chain_arcs 0 w i d h)

  pub chain_arc_past : (w : Word) (i : ℕ) (d : Arc L) → length w ≤ i → d ≡ get_or (chain_arcs range 0 w) i d
  chain_arc_past w i d h = sym (get_or_past _ i d (rw (chain_arcs_length 0 w) h))

pub chain_marks_length : (n : ℕ) → length (map (chain_marks n) (range_with_len 0 (n + 1))) ≡ n + 1
chain_marks_length n = length-map-range_with_len (chain_marks n) 0 (n + 1)

-- past the last state neither mark is set
pub chain_marks_at : (n q : ℕ) → chain_marks n q ≡ get_or (map (chain_marks n) (range_with_len 0 (n + 1))) q unmarked
chain_marks_at n q =
    ⊎_elim (λ low. sym (get_or-map-range_with_len (chain_marks n) 0 (n + 1) q q unmarked low (zero-add q)))
    (λ high. (λ i. record { initial = ne_eqb q 0 (λ e. omega arith) i; accepting = ne_eqb q n (λ e. omega arith) i }) ∙ sym (get_or_past (map (chain_marks n) (range_with_len 0 (n + 1))) q unmarked (rw (chain_marks_length n) high)))
    (cases_lt q (n + 1))
