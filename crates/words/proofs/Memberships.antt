-- What a run of an automaton along a word keeps.
use Rattle.std.proofs.Common.{◌≡◌, ℕ, ◌+◌, ◌<◌, Bool, true, ◌↔◌, List, [], ◌∷◌, ◌++◌, map, length, set, Decides, sym, refl, ap, ◌∙◌, subst, ⊎_elim, arith}
use Rattle.std.specs.List.{ContainsAt as Has}
use Rattle.std.proofs.ByRecursion.{has_get_or}
use Rattle.std.proofs.lemmas.List.{length-map, get_or-set_same, get_or-set_other}
use Rattle.std.proofs.lemmas.Bool.{cases_eq, cases_Bool, cond-true, cond-false}
use Rattle.alphabet.specs.Labels.{Labels}
use Rattle.automaton.specs.declared.Arc.{Arc}
use Rattle.automaton.specs.declared.State.{State}
use Rattle.automaton.specs.Automaton.{Automaton, Word, Walk, stay, Accepts, initial, accepting, arc_at}
use Rattle.automaton.proofs.Walks.{walk_nil, walk_split, walk_push, walk_letter}
use Rattle.automaton.proofs.Realizing.{accepting_below}
use Rattle.build.specs.Concats.{blank}
use Rattle.words.specs.States.{row, LeadWithin}
use Rattle.words.specs.Membership.{Begun, Fired, Followed, Advanced, Reached, SomeAccepts}
use Rattle.words.proofs.States.{marks_row}

-- a state of the next set
abbrev entered : State → State
entered s = record { marks = s.marks; left = s.left; right = 1 }

module _ {L : Type 0} (a : Labels L) (m : Automaton L) where
  module _ (c : ℕ) where
    -- one arc more that does not lead to q
    fired_skip : (states : List State) (k q : ℕ) (P : Type 0) →
        ((row states (arc_at a m k).from).left ≡ 1 → a.admits (arc_at a m k).label c ≡ true → (arc_at a m k).to ≡ q → ⊥) → P ↔ Fired a m states c k q → P ↔ Fired a m states c (k + 1) q
    fired_skip states k q P not h = (
      λ e. let f = h.0 e in (f.0, omega (arith, f.1), f.2, f.3, f.4),
      λ f. ⊎_elim
          (λ same. absurd (not (subst (λ i. (row states (arc_at a m i).from).left ≡ 1) same f.2) (subst (λ i. a.admits (arc_at a m i).label c ≡ true) same f.3) (subst (λ i. (arc_at a m i).to ≡ q) same f.4)))
          (λ other. h.1 (f.0, omega (arith, f.1), f.2, f.3, f.4)) (cases_eq f.0 k),
    )

    -- one arc more that is not on the letter, or not from a state of the set
    pub followed_pass : (k : ℕ) (before after : List State) (b : Arc L) → b ≡ arc_at a m k → Followed a m c k before after →
        ((row before b.from).left ≡ 1 → a.admits b.label c ≡ true → ⊥) → Followed a m c (k + 1) before after
    followed_pass k before after b is h not =
        let bar = subst (λ (x : Arc L). (row before x.from).left ≡ 1 → a.admits x.label c ≡ true → ⊥) is not in
        record {
          set = h.set;
          next = λ q low. fired_skip before k q ((row after q).right ≡ 1) (λ from yes' _. bar from yes') (h.next q low);
        }

    -- one arc more on the letter, from a state of the set
    pub followed_enter : (k : ℕ) (before after : List State) (b : Arc L) → b ≡ arc_at a m k → Followed a m c k before after → b.to < length after →
        (row before b.from).left ≡ 1 → a.admits b.label c ≡ true → Followed a m c (k + 1) before (set after b.to (entered (row after b.to)))
    followed_enter k before after b is h low from yes' =
        let x = entered (row after b.to) in
        let new = set after b.to x in
        let at_same : row new b.to ≡ x = get_or-set_same after b.to x blank low in
        let at_other : (q : ℕ) → (q ≡ b.to → ⊥) → row new q ≡ row after q = λ q other. get_or-set_other after b.to q x blank other in
        record {
          set = λ q.
              ⊎_elim (λ same. ap (λ i. (row new i).left) same ∙ ap (λ (s : State). s.left) at_same ∙ ap (λ i. (row after i).left) (sym same) ∙ h.set q)
              (λ other. ap (λ (s : State). s.left) (at_other q other) ∙ h.set q) (cases_eq q b.to);
          next = λ q qlow.
              ⊎_elim
              (λ same. (
                λ _. (k, omega arith, subst (λ (y : Arc L). (row before y.from).left ≡ 1) is from, subst (λ (y : Arc L). a.admits y.label c ≡ true) is yes', ap (λ (y : Arc L). y.to) (sym is) ∙ sym same),
                λ _. ap (λ i. (row new i).right) same ∙ ap (λ (s : State). s.right) at_same,
              ))
              (λ other.
              fired_skip before k q ((row new q).right ≡ 1) (λ _ _ to. other (sym to ∙ ap (λ (y : Arc L). y.to) (sym is)))
              (subst (λ (s : State). (s.right ≡ 1) ↔ Fired a m before c k q) (sym (at_other q other)) (h.next q qlow)))
              (cases_eq q b.to);
        }

  -- the initial states are those that the empty word leads to
  pub reached_begin : (states : List State) → Begun m states → Reached a.admits m [] states
  reached_begin states h = record {
    exact = λ q low. (
      λ e. (q, ⊎_elim (λ yes'. yes') (λ no'. absurd (omega (arith, sym e ∙ h.set q low ∙ cond-false (initial m q) 1 0 no'))) (cases_Bool (initial m q)), stay),
      λ r. h.set q low ∙ cond-true (initial m q) 1 0 (subst (λ o. initial m o ≡ true) (walk_nil r.2) r.1),
    );
    clear = h.clear;
  }

  -- one letter more
  pub reached_step : (before mid after : List State) (w : Word) (c : ℕ) → LeadWithin m.arcs (length before) → length mid ≡ length before → length after ≡ length mid →
      Reached a.admits m w before → Followed a m c (length m.arcs) before mid → Advanced mid after → Reached a.admits m (w ++ c ∷ []) after
  reached_step before mid after w c inside long long' h f r =
      let has : (k : ℕ) → k < length m.arcs → Has m.arcs (arc_at a m k) = λ k low. has_get_or m.arcs k _ low in
      record {
        exact = λ q low. (
          λ e.
              let fired = (f.next q (omega arith)).0 (sym (r.set q (omega arith)) ∙ e) in
              let b = arc_at a m fired.0 in
              let o = (h.exact b.from (inside b (has fired.0 fired.1)).0).0 fired.2 in
              (o.0, o.1, subst (Walk a.admits m.arcs o.0 (w ++ c ∷ [])) fired.4 (walk_push b o.2 (has fired.0 fired.1) refl fired.3)),
          λ o.
              let half = walk_split w o.2 in
              let l = walk_letter half.2 in
              let is : arc_at a m l.1.0 ≡ l.0 = l.1.2 _ in
              let there : (row before half.0).left ≡ 1 = (h.exact half.0 (omega (arith, (inside l.0 l.1).0, l.2))).1 (o.0, o.1, half.1) in
              r.set q (omega arith) ∙ (f.next q (omega arith)).1 (l.1.0, l.1.1, ap (λ i. (row before i).left) (ap (λ (y : Arc L). y.from) is ∙ l.2) ∙ there, ap (λ (y : Arc L). a.admits y.label c) is ∙ l.3, ap (λ (y : Arc L). y.to) is ∙ l.4),
        );
        clear = r.clear;
      }

  -- the set has an accepting state exactly if the automaton accepts
  pub reached_accepts : (states : List State) (w : Word) (b : Bool) → m.states ≡ map (λ s. s.marks) states → Reached a.admits m w states → Decides b (SomeAccepts states) → Decides b (Accepts a.admits m w)
  reached_accepts states w b marks h d =
      let accepts_is : (q : ℕ) → q < length states → accepting m q ≡ (row states q).marks.accepting = λ q low. ap (λ s. s.accepting) (marks_row m states marks q low) in (
        λ e.
            let s = d.0 e in
            let o = (h.exact s.0 s.1).0 s.2 in
            record { start = o.0; end = s.0; starts = o.1; ends = accepts_is s.0 s.1 ∙ s.3; walk = o.2 },
        λ x.
            let low : x.end < length states = omega (arith, accepting_below m x.end x.ends, ap length marks, length-map states (λ (s : State). s.marks)) in
            d.1 (x.end, low, (h.exact x.end low).1 (x.start, x.starts, x.walk), sym (accepts_is x.end low) ∙ x.ends),
      )
