-- One state with one arc to itself on the full label realizes all words.
use Rattle.std.proofs.Common.{◌≡◌, ℕ, zero, suc, ◌+◌, ◌<◌, ◌≤◌, true, false, ◌↔◌, List, [], ◌∷◌, length, get_or, set, sym, refl, subst, arith}
use Rattle.std.specs.List.{AllByRecursion as All}
use Rattle.std.proofs.lemmas.List.{length-set}
use Rattle.alphabet.specs.Labels.{Labels, Lawful}
use Rattle.automaton.specs.declared.Arc.{Arc}
use Rattle.automaton.specs.declared.State.{State}
use Rattle.automaton.specs.Automaton.{Word, Accepts, of_rows}
use Rattle.automaton.specs.Nfa.{Realizes, Follows, all_words}
use Rattle.automaton.specs.Numbers.{Numbers, MoreThan}
use Rattle.automaton.proofs.AllWords.{all_words_exact}
use Rattle.automaton.proofs.Realizing.{realizes_accepts}
use Rattle.build.specs.declared.Place.{Place}
use Rattle.build.specs.declared.Rows.{Rows}
use Rattle.build.specs.Outcome.{Built, NoStates, NoArcs}
use Rattle.build.specs.Tables.{part, at, state_room, arc_room}
use Rattle.build.proofs.Parts.{part_more}

one : Numbers {X = Unit {0}} (λ _. Unit {0}) 1 (λ _. tt)
one = record { each = λ i low. tt; every = λ x u. (0, omega arith, refl); once = λ i j low high e. omega arith }

none_more : (k : ℕ) → k ≡ 0 → MoreThan {X = Unit {0}} (λ _. Unit {0}) k (λ _. tt)
none_more k e = record { each = λ i low. tt; once = λ i j low high same. omega arith }

abbrev pub open_state : State
open_state = record { marks = record { initial = true; accepting = true }; left = 0; right = 0 }

abbrev pub loop_arc : {L : Type 0} → Labels L → Arc L
loop_arc a = record { from = 0; label = a.full; to = 0 }

module _ {L : Type 0} (a : Labels L) where
  pub covers : Realizes a (all_words a) (of_rows (open_state ∷ []) (loop_arc a ∷ []))
  covers = record {
    name = λ _. tt;
    states = one;
    starts = λ q low. (λ _. tt, λ _. open' q low);
    ends = λ q low. (λ _. tt, λ _. open'' q low);
    arrow = λ _. tt;
    arcs = one;
    follows = λ k low. follows' k low;
  }
    where
      open' : (q : ℕ) → q < 1 → (get_or (open_state.marks ∷ []) q (record { initial = false; accepting = false })).initial ≡ true
      open' zero low = refl
      open' (suc q) low = absurd (omega arith)

      open'' : (q : ℕ) → q < 1 → (get_or (open_state.marks ∷ []) q (record { initial = false; accepting = false })).accepting ≡ true
      open'' zero low = refl
      open'' (suc q) low = absurd (omega arith)

      follows' : (k : ℕ) → k < 1 → Follows a (all_words a) (of_rows (open_state ∷ []) (loop_arc a ∷ [])) (λ _. tt) k tt
      follows' zero low = record { from_state = omega arith; to_state = omega arith; from_is = refl; to_is = refl; label_is = refl }
      follows' (suc k) low = absurd (omega arith)

  pub covers_built : (used : Rows) (s : List State) (u : List (Arc L)) → used.states < state_room s → used.arcs < arc_room u → Built a (all_words a) used (set s used.states open_state) (set u used.arcs (loop_arc a)) (record { first = used; count = record { states = 1; arcs = 1 } })
  covers_built used s u low low' = record {
    behind = refl;
    states_fit = omega (arith, length-set s used.states open_state);
    arcs_fit = omega (arith, length-set u used.arcs (loop_arc a));
    realizes = subst (Realizes a (all_words a)) (λ i. of_rows (sym (first s used.states open_state (omega arith)) i) (sym (first u used.arcs (loop_arc a) (omega arith)) i)) covers;
  }
    where
      first : {X : Type 0} (xs : List X) (n : ℕ) (x : X) → n < length xs → part (set xs n x) n 1 ≡ x ∷ []
      first xs n x low =
          let zero_more : n + 0 ≡ n = omega arith in
          subst (λ k. part (set xs k x) n 1 ≡ x ∷ []) zero_more (part_more xs n 0 x (omega arith))

  pub covers_no_states : (used : Rows) (s : List State) → state_room s ≤ used.states → NoStates (all_words a) used s
  covers_no_states used s full = record { state = λ _. tt; too_many = none_more _ (omega arith) }

  pub covers_no_arcs : (used : Rows) (s : List State) (u : List (Arc L)) → used.states < state_room s → arc_room u ≤ used.arcs → NoArcs (all_words a) used s u
  covers_no_arcs used s u low full = record { count = 1; state = λ _. tt; counted = one; states_fit = omega arith; arrow = λ _. tt; too_many = none_more _ (omega arith) }

  pub covers_exact : Lawful a → (used : Rows) (t : List State) (u : List (Arc L)) (p : Place) → Built a (all_words a) used t u p → (w : Word) → Accepts a.admits (at t u p) w ↔ All (λ c. c < a.letters) w
  covers_exact laws used t u p h w =
      let real = realizes_accepts h.realizes w in
      let all = all_words_exact laws w in
      (λ x. all.0 (real.0 x), λ x. real.1 (all.1 x))
