-- Splits of a word, and what it means that there is none.
use Rattle.std.proofs.Common.{◌≡◌, ℕ, ◌+◌, ◌<◌, List, length, take, drop, sym, ap, ◌∙◌, subst, arith, length-append}
use lib.Seq.{take-append_seam, drop-append_seam}
use Rattle.alphabet.specs.Labels.{Set}
use Rattle.automaton.specs.declared.Arc.{Arc}
use Rattle.automaton.specs.declared.State.{State}
use Rattle.automaton.specs.Automaton.{Automaton, Word, Accepts}
use Rattle.build.specs.declared.Place.{Place}
use Rattle.build.specs.declared.Rows.{Rows}
use Rattle.build.specs.Concats.{InTurn}
use Rattle.build.specs.Tables.{InUse, Stands, at}
use Rattle.words.specs.Splitting.{SplitsAt}
use Rattle.words.specs.Words.{Renumbered}
use Rattle.words.proofs.Renumbering.{at_renumbered, in_use_renumbered, stands_renumbered}

module _ {L : Type 0} (admits : L → Set) (arcs : List (Arc L)) (used : Rows) (left right : Place) (w : Word) where
  pub splits_renumbered : (n : ℕ) (states states' : List State) → Renumbered n states states' → (i : ℕ) → SplitsAt admits states arcs used left right w i → SplitsAt admits states' arcs used left right w i
  splits_renumbered n states states' h i s = record {
    in_use = in_use_renumbered n states states' arcs h used s.in_use;
    left_stands = stands_renumbered n states states' arcs h used left s.left_stands;
    right_stands = stands_renumbered n states states' arcs h used right s.right_stands;
    front = subst (λ (m : Automaton L). Accepts admits m (take i w)) (sym (at_renumbered n states states' arcs h left)) s.front;
    back = subst (λ (m : Automaton L). Accepts admits m (drop i w)) (sym (at_renumbered n states states' arcs h right)) s.back;
  }

  -- the rows in use and both automata among them, and no place at which the word splits
  pub splits_never : (states : List State) → ((i : ℕ) → i < length w + 1 → SplitsAt admits states arcs used left right w i → ⊥) →
      InUse states arcs used → Stands states arcs used left → Stands states arcs used right → InTurn admits (at states arcs left) (at states arcs right) w → ⊥
  splits_never states none use' one two turn =
      let u = turn.0 in
      let v = turn.1 in
      let long : length w ≡ length u + length v = ap length turn.2 ∙ length-append u v in
      let front_is : take (length u) w ≡ u = ap (take (length u)) turn.2 ∙ take-append_seam u v in
      let back_is : drop (length u) w ≡ v = ap (drop (length u)) turn.2 ∙ drop-append_seam u v in
      none (length u) (omega arith) (record {
        in_use = use';
        left_stands = one;
        right_stands = two;
        front = subst (Accepts admits (at states arcs left)) (sym front_is) turn.3;
        back = subst (Accepts admits (at states arcs right)) (sym back_is) turn.4;
      })
