-- The concatenation of two abstract automata recognizes a word of the first followed by a word of the second.
use Rattle.std.proofs.Common.{◌≡◌, ℕ, true, ◌⊎◌, ◌↔◌, [], ◌∷◌, ◌++◌, sym, refl, ap, ◌∙◌, subst, inl, inr, arith}
use Rattle.alphabet.specs.Labels.{Set}
use Rattle.automaton.specs.Automaton.{Word}
use Rattle.automaton.specs.Nfa.{Nfa, Trace, stop, move, Recognizes, concat}

module _ {S T : Type 0} where
  pub inl_same : {p r : S} → ◌≡◌ {A = S ⊎ T} (inl p) (inl r) → p ≡ r
  inl_same e = cc

  pub inr_same : {q s : T} → ◌≡◌ {A = S ⊎ T} (inr q) (inr s) → q ≡ s
  inr_same e = cc

  pub inl_inr : {p : S} {q : T} → ◌≡◌ {A = S ⊎ T} (inl p) (inr q) → ⊥
  inl_inr e = let z : ◌≡◌ {A = ℕ} 0 1 = cc in omega arith

-- a word of the first, followed by a word of the second
abbrev pub InTurn : {S E T F L : Type 0} → (L → Set) → Nfa S E L → Nfa T F L → Word → Type 0
InTurn admits m k w = (u : Word) × (v : Word) × (w ≡ u ++ v) × Recognizes admits m u × Recognizes admits k v

module _ {S E T F L : Type 0} {admits : L → Set} {m : Nfa S E L} {k : Nfa T F L} where
  -- a trace of the second
  pub concat_right : {q s : T} {w : Word} → Trace admits k q w s → Trace admits (concat m k) (inr q) w (inr s)
  concat_right stop = stop
  concat_right (move f arrow from yes' h) = move (inr (inl f)) arrow (ap inr from) yes' (concat_right h)

  -- an arc and a trace of the first, and then a trace of the second
  pub concat_join : {p r : S} {u : Word} → Trace admits m p u r → (e : E) → m.Arrow e → m.to e ≡ p → m.Ends r → {q : T} → k.Starts q → {c : ℕ} → admits (m.label e) c ≡ true → {v : Word} {t : T} → Trace admits k q v t →
      Trace admits (concat m k) (inl (m.from e)) (c ∷ u ++ v) (inr t)
  concat_join stop e arrow is ends {q} starts yes' h = move (inr (inr (e, q))) (arrow, subst m.Ends (sym is) ends, starts) refl yes' (concat_right h)
  concat_join (move {c} {w} e' arrow' from' yes'' rest) e arrow is ends starts yes' {v} {t} h =
      move (inl e) arrow refl yes' (subst (λ p. Trace admits (concat m k) (inl p) (c ∷ w ++ v) (inr t)) (from' ∙ sym is) (concat_join rest e' arrow' refl ends starts yes'' h))

  pub right_concat : {q s : T} {w : Word} → Trace admits (concat m k) (inr q) w (inr s) → Trace admits k q w s
  right_concat stop = stop
  right_concat (move (inl e) arrow from yes' h) = absurd (inl_inr from)
  right_concat (move (inr (inl f)) arrow from yes' h) = move f arrow (inr_same from) yes' (right_concat h)
  right_concat (move (inr (inr x)) arrow from yes' h) = absurd (inl_inr from)

  -- a trace from the first to the second takes one of the arcs between them
  pub concat_split : {p : S} {t : T} {w : Word} → Trace admits (concat m k) (inl p) w (inr t) →
      (u : Word) × (v : Word) × (w ≡ u ++ v) × (r : S) × m.Ends r × Trace admits m p u r × (q : T) × k.Starts q × Trace admits k q v t
  concat_split (move {c} (inl e) arrow from yes' h) =
      let rest = concat_split h in
      (c ∷ rest.0, rest.1, ap (λ u. c ∷ u) rest.2, rest.3, rest.4, move e arrow (inl_same from) yes' rest.5, rest.6, rest.7, rest.8)
  concat_split (move (inr (inl f)) arrow from yes' h) = absurd (inl_inr (sym from))
  concat_split (move {c} {w} (inr (inr x)) arrow from yes' h) =
      (c ∷ [], w, refl, m.to x.0, arrow.1, move x.0 arrow.0 (inl_same from) yes' stop, x.1, arrow.2, right_concat h)

  parts : {w : Word} (x y : S ⊎ T) → (concat m k).Starts x → (concat m k).Ends y → Trace admits (concat m k) x w y → InTurn admits m k w
  parts x (inl p) starts ends h = absurd ends
  parts (inl p) (inr t) starts ends h =
      let s = concat_split h in
      (s.0, s.1, s.2, record { start = p; end = s.3; starts = starts; ends = s.4; trace = s.5 }, record { start = s.6; end = t; starts = s.7; ends = ends; trace = s.8 })
  parts {w} (inr q) (inr t) starts ends h =
      let n = starts.0 in
      ([], w, refl, record { start = n.0; end = n.0; starts = n.1; ends = n.2; trace = stop }, record { start = q; end = t; starts = starts.1; ends = ends; trace = right_concat h })

  whole : {p r : S} {q t : T} {u v : Word} → m.Starts p → m.Ends r → Trace admits m p u r → k.Starts q → k.Ends t → Trace admits k q v t → Recognizes admits (concat m k) (u ++ v)
  whole {p} {q} {t} starts ends stop starts' ends' h = record { start = inr q; end = inr t; starts = ((p, starts, ends), starts'); ends = ends'; trace = concat_right h }
  whole {t} starts ends (move e arrow from yes' rest) starts' ends' h =
      record { start = inl (m.from e); end = inr t; starts = subst m.Starts (sym from) starts; ends = ends'; trace = concat_join rest e arrow refl ends starts' yes' h }

  pub concat_exact : (w : Word) → Recognizes admits (concat m k) w ↔ InTurn admits m k w
  concat_exact w = (
    λ x. parts x.start x.end x.starts x.ends x.trace,
    λ h. subst (Recognizes admits (concat m k)) (sym h.2) (whole h.3.starts h.3.ends h.3.trace h.4.starts h.4.ends h.4.trace),
  )
