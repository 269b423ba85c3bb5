-- What a run of an automaton along a word keeps.
use Rattle.std.proofs.Common.{◌≡◌, ℕ, ◌+◌, ◌<◌, ◌≤◌, Bool, true, false, List, [], ◌∷◌, ◌++◌, length, get_or, set, replicate, Decides, MatchBool, zero-add, sym, refl, ap, ◌∙◌, subst, ⊎_elim, arith}
use Rattle.std.specs.List.{ContainsAt as Has, range_with_len, AllWithin, HoldsAt}
use Rattle.std.proofs.ByRecursion.{has_get_or}
use Rattle.std.proofs.lemmas.List.{length-set, length-replicate, get_or-replicate, get_or_past, get_or-set_same, get_or-set_other}
use Rattle.std.proofs.lemmas.Bool.{cases_lt, cases_eq, both_ways, false≢true}
use Rattle.std.proofs.lemmas.List.FromFn.{length-range_with_len, get_or-range_with_len}
use Rattle.alphabet.specs.Labels.{Labels, Set}
use Rattle.automaton.specs.declared.Arc.{Arc}
use Rattle.automaton.specs.Automaton.{Automaton, Word, Walk, stay, Accepts, Inside, initial, unmarked, arc_at}
use Rattle.automaton.proofs.Walks.{walk_nil, walk_split, walk_push, walk_letter}
use Rattle.giver.specs.Run.{In, Reached, Stepped, SomeAccepts}

pub none_marked : (n q : ℕ) → get_or (replicate n false) q false ≡ false
none_marked n q =
    ⊎_elim (λ low. get_or-replicate n q false false low) (λ past. get_or_past (replicate n false) q false (rw length-replicate past)) (cases_lt q n)

module _ {L : Type 0} (a : Labels L) (m : Automaton L) where
  pub arc_has : (k : ℕ) → k < length m.arcs → Has m.arcs (arc_at a m k)
  arc_has k h = has_get_or m.arcs k _ h

  -- what holds of every arc that is told holds of every arc
  pub arc_every : (P : Arc L → Type 0) → ((k : ℕ) → k < length m.arcs → P (arc_at a m k)) → (b : Arc L) → Has m.arcs b → P b
  arc_every P h b has = subst P (has.2 _) (h has.0 has.1)

  -- the arc at a place leads from a state to a state
  abbrev pub ArcInside : ℕ → Type 0
  ArcInside k = ((arc_at a m k).from < length m.states) × ((arc_at a m k).to < length m.states)

  -- a test of the arcs in turn decides whether all do
  pub inside_told : (b : Bool) → let places = range_with_len 0 (length m.arcs) in
      MatchBool b (AllWithin ArcInside places 0 (length places)) ((k : ℕ) × (k < length places) × HoldsAt (λ i. ArcInside i → ⊥) places k) → Decides b (Inside m)
  inside_told true h = (
    λ _. arc_every (λ x. (x.from < length m.states) × (x.to < length m.states))
        (λ k low. subst ArcInside (get_or-range_with_len 0 (length m.arcs) k 0 low ∙ zero-add k) (h k 0 (omega arith) (omega (arith, low, length-range_with_len 0 (length m.arcs))))),
    λ _. refl,
  )
  inside_told false h = (
    λ e. absurd (false≢true e),
    λ inside.
        let low : h.0 < length m.arcs = omega (arith, h.1, length-range_with_len 0 (length m.arcs)) in
        absurd (h.2 0 (subst ArcInside (sym (get_or-range_with_len 0 (length m.arcs) h.0 0 low ∙ zero-add h.0)) (inside _ (arc_has h.0 low)))),
  )

  -- the arc i is on the letter and leads from a state of the set to q
  unfoldable pub Fires : List Bool → ℕ → ℕ → ℕ → Type 0
  Fires set c i q = In set (arc_at a m i).from × (a.admits (arc_at a m i).label c ≡ true) × ((arc_at a m i).to ≡ q)

  -- one of the first k arcs does
  abbrev pub Fired : List Bool → ℕ → ℕ → ℕ → Type 0
  Fired set c k q = (i : ℕ) × (i < k) × Fires set c i q

  pub fired_none : (before : List Bool) (c q : ℕ) → Decides false (Fired before c 0 q)
  fired_none before c q = (λ e. absurd (both_ways false refl e), λ f. absurd (omega (arith, f.1)))

  -- one arc more that does not lead to q
  pub fired_skip : (before : List Bool) (c k : ℕ) (r : Bool) (q : ℕ) → (Fires before c k q → ⊥) → Decides r (Fired before c k q) → Decides r (Fired before c (k + 1) q)
  fired_skip before c k r q not h =
      (λ e. let f = h.0 e in (f.0, omega (arith, f.1), f.2), λ f. ⊎_elim (λ same. absurd (not (subst (λ i. Fires before c i q) same f.2))) (λ other. h.1 (f.0, omega (arith, f.1), f.2)) (cases_eq f.0 k))

  -- one arc more on the letter, from a state of the set: the state that it leads to is marked
  fired_at : (before after : List Bool) (c k : ℕ) → ((q : ℕ) → Decides (get_or after q false) (Fired before c k q)) → (q : ℕ) → (arc_at a m k).to < length after → In before (arc_at a m k).from → a.admits (arc_at a m k).label c ≡ true →
      Decides (get_or (set after (arc_at a m k).to true) q false) (Fired before c (k + 1) q)
  unfolding Fires
  fired_at before after c k h q within from yes' =
      ⊎_elim
      (λ same. let there : get_or (set after (arc_at a m k).to true) q false ≡ true = ap (λ p. get_or (set after (arc_at a m k).to true) p false) same ∙ get_or-set_same after _ true false within in
      (λ _. (k, omega arith, (from, yes', sym same)), λ _. there))
      (λ other. let kept = get_or-set_other after (arc_at a m k).to q true false other in
      subst (λ b. Decides b (Fired before c (k + 1) q)) (sym kept) (fired_skip before c k _ q (λ f. other (sym f.2)) (h q)))
      (cases_eq q (arc_at a m k).to)

  -- exactly the states are marked to which the first k arcs lead
  abbrev pub Sofar : List Bool → ℕ → ℕ → List Bool → Type 0
  Sofar before c k after = (length after ≡ 256) × ((q : ℕ) → Decides (get_or after q false) (Fired before c k q))

  pub sofar_none : (before : List Bool) (c : ℕ) → Sofar before c 0 (replicate 256 false)
  sofar_none before c = (length-replicate 256 false, λ q. subst (λ b. Decides b (Fired before c 0 q)) (sym (none_marked 256 q)) (fired_none before c q))

  pub sofar_mark : (before after : List Bool) (c k : ℕ) (b : Arc L) → b ≡ arc_at a m k → Sofar before c k after → b.to < 256 → In before b.from → a.admits b.label c ≡ true → Sofar before c (k + 1) (set after b.to true)
  sofar_mark before after c k b is h within from yes' = (
    simp length-set h.0,
    λ q.
        subst (λ (x : Arc L). x.to < length after → In before x.from → a.admits x.label c ≡ true → Decides (get_or (set after x.to true) q false) (Fired before c (k + 1) q)) (sym is) (fired_at before after c k h.1 q)
        (omega (arith, h.0)) from yes',
  )

  -- one arc more that is not on the letter, or not from a state of the set
  pub sofar_pass : (before after : List Bool) (c k : ℕ) (b : Arc L) → b ≡ arc_at a m k → Sofar before c k after → (In before b.from → a.admits b.label c ≡ true → ⊥) → Sofar before c (k + 1) after
  unfolding Fires
  sofar_pass before after c k b is h not = (
    h.0,
    λ q.
        let bar = subst (λ (x : Arc L). In before x.from → a.admits x.label c ≡ true → ⊥) is not in
        fired_skip before c k _ q (λ f. bar f.0 f.1) (h.1 q),
  )

  pub stepped_all : (before after : List Bool) (c : ℕ) → Sofar before c (length m.arcs) after → Stepped a.admits m c before after
  unfolding Fires
  stepped_all before after c h = record {
    long = h.0;
    exact = λ q. (
      λ e. let f = (h.1 q).0 e in (arc_at a m f.0, arc_has f.0 f.1, f.2.0, f.2.1, f.2.2),
      λ l.
          let k = l.1.0 in
          let is = l.1.2 (record { from = 0; label = a.full; to = 0 }) in
          (h.1 q).1 (k, l.1.1, (subst (λ b. In before b.from) (sym is) l.2, subst (λ b. a.admits b.label c ≡ true) (sym is) l.3, ap (λ b. b.to) is ∙ l.4)),
    );
  }

module _ {L : Type 0} {admits : L → Set} (m : Automaton L) where
  pub reached_start : (set : List Bool) → length set ≡ 256 → ((q : ℕ) → get_or set q false ≡ initial m q) → Reached admits m [] set
  reached_start set long at = record {
    long = long;
    exact = λ q. (λ e. (q, sym (at q) ∙ e, stay), λ r. at q ∙ subst (λ p. initial m p ≡ true) (walk_nil r.2) r.1);
  }

  pub reached_step : (w : Word) (c : ℕ) (before after : List Bool) → Reached admits m w before → Stepped admits m c before after → Reached admits m (w ++ c ∷ []) after
  reached_step w c before after h s = record {
    long = s.long;
    exact = λ q. (
      λ e.
          let l = (s.exact q).0 e in
          let r = (h.exact l.0.from).0 l.2 in
          (r.0, r.1, subst (Walk admits m.arcs r.0 (w ++ c ∷ [])) l.4 (walk_push l.0 r.2 l.1 refl l.3)),
      λ r.
          let mid = walk_split w r.2 in
          let l = walk_letter mid.2 in
          (s.exact q).1 (l.0, l.1, subst (In before) (sym l.2) ((h.exact mid.0).1 (r.0, r.1, mid.1)), l.3, l.4),
    );
  }

  pub reached_accepts : (w : Word) (set : List Bool) (b : Bool) → Reached admits m w set → Decides b (SomeAccepts m set) → Decides b (Accepts admits m w)
  reached_accepts w set b h d = (
    λ e.
        let s = d.0 e in
        let r = (h.exact s.0).0 s.1 in
        record { start = r.0; end = s.0; starts = r.1; ends = s.2; walk = r.2 },
    λ x. d.1 (x.end, (h.exact x.end).1 (x.start, x.starts, x.walk), x.ends),
  )

-- a state that is not there has no mark
pub initial_past : {L : Type 0} (m : Automaton L) (q : ℕ) → length m.states ≤ q → initial m q ≡ false
initial_past m q h = ap (λ s. s.initial) (get_or_past m.states q unmarked h)
