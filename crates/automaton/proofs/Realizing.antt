-- Rows that realize an abstract automaton accept just the words that it recognizes.
use Rattle.std.proofs.Common.{◌≡◌, ℕ, ◌<◌, true, ◌↔◌, length, sym, refl, ap, ◌∙◌, subst, ⊎_elim}
use Rattle.std.specs.List.{ContainsAt as Has}
use Rattle.std.proofs.ByRecursion.{has_get_or}
use Rattle.std.proofs.lemmas.List.{get_or_past}
use Rattle.std.proofs.lemmas.Bool.{cases_lt, both_ways}
use Rattle.alphabet.specs.Labels.{Labels}
use Rattle.automaton.specs.declared.Arc.{Arc}
use Rattle.automaton.specs.Automaton.{Word, Automaton, Walk, stay, step, Accepts, Inside, initial, accepting, unmarked, arc_at}
use Rattle.automaton.specs.Nfa.{Nfa, Trace, stop, move, Recognizes, rows, Realizes}

-- a state with a mark is there
pub initial_below : {L : Type 0} (m : Automaton L) (q : ℕ) → initial m q ≡ true → q < length m.states
initial_below m q h = ⊎_elim (λ low. low) (λ past. absurd (both_ways _ (ap (λ s. s.initial) (get_or_past m.states q unmarked past)) h)) (cases_lt q (length m.states))

pub accepting_below : {L : Type 0} (m : Automaton L) (q : ℕ) → accepting m q ≡ true → q < length m.states
accepting_below m q h = ⊎_elim (λ low. low) (λ past. absurd (both_ways _ (ap (λ s. s.accepting) (get_or_past m.states q unmarked past)) h)) (cases_lt q (length m.states))

module _ {L : Type 0} (a : Labels L) (m : Automaton L) where
  -- the place of an arc
  pub arc_is : (b : Arc L) (has : Has m.arcs b) → arc_at a m has.0 ≡ b
  arc_is b has = has.2 _

  pub rows_walk : {p q : ℕ} {w : Word} → Trace a.admits (rows a m) p w q → Walk a.admits m.arcs p w q
  rows_walk stop = stay
  rows_walk (move k low from yes' h) = step (arc_at a m k) (has_get_or m.arcs k _ low) from yes' (rows_walk h)

  pub walk_rows : {p q : ℕ} {w : Word} → Walk a.admits m.arcs p w q → Trace a.admits (rows a m) p w q
  walk_rows stay = stop
  walk_rows {q} (step {c} {w} b has from yes' h) =
      let is = arc_is b has in
      move has.0 has.1 (ap (λ x. x.from) is ∙ from) (ap (λ x. a.admits x.label c) is ∙ yes')
      (subst (λ p. Trace a.admits (rows a m) p w q) (sym (ap (λ x. x.to) is)) (walk_rows h))

  pub rows_exact : (w : Word) → Recognizes a.admits (rows a m) w ↔ Accepts a.admits m w
  rows_exact w = (
    λ x. record { start = x.start; end = x.end; starts = x.starts.1; ends = x.ends; walk = rows_walk x.trace },
    λ x. record { start = x.start; end = x.end; starts = (initial_below m x.start x.starts, x.starts); ends = x.ends; trace = walk_rows x.walk },
  )

module _ {S E L : Type 0} {a : Labels L} {n : Nfa S E L} {m : Automaton L} (r : Realizes a n m) where
  pub realizes_inside : Inside m
  realizes_inside b has =
      let f = r.follows has.0 has.1 in
      subst (λ (x : Arc L). (x.from < length m.states) × (x.to < length m.states)) (arc_is a m b has) (f.from_state, f.to_state)

  pub walk_trace : {p q : ℕ} {w : Word} → Walk a.admits m.arcs p w q → Trace a.admits n (r.name p) w (r.name q)
  walk_trace stay = stop
  walk_trace {q} (step {c} {w} b has from yes' h) =
      let is = arc_is a m b has in
      let f = r.follows has.0 has.1 in
      move (r.arrow has.0) (r.arcs.each has.0 has.1) (sym f.from_is ∙ ap (λ x. r.name x.from) is ∙ ap r.name from)
      (ap (λ l. a.admits l c) (sym f.label_is ∙ ap (λ x. x.label) is) ∙ yes')
      (subst (λ s. Trace a.admits n s w (r.name q)) (sym (ap (λ x. r.name x.to) is) ∙ f.to_is) (walk_trace h))

  -- a trace from the state that p names is a walk from p
  pub trace_walk : {s t : S} {w : Word} → Trace a.admits n s w t → (p : ℕ) → p < length m.states → r.name p ≡ s → (q : ℕ) × (q < length m.states) × (r.name q ≡ t) × Walk a.admits m.arcs p w q
  trace_walk stop p low is = (p, low, is, stay)
  trace_walk (move {c} e arrow from yes' h) p low is =
      let there = r.arcs.every e arrow in
      let k = there.0 in
      let f = r.follows k there.1 in
      let rest = trace_walk h (arc_at a m k).to f.to_state (f.to_is ∙ ap n.to there.2) in
      let here = r.states.once (arc_at a m k).from p f.from_state low (f.from_is ∙ ap n.from there.2 ∙ from ∙ sym is) in
      (rest.0, rest.1, rest.2, step (arc_at a m k) (has_get_or m.arcs k _ there.1) here (ap (λ l. a.admits l c) (f.label_is ∙ ap n.label there.2) ∙ yes') rest.3)

  pub realizes_accepts : (w : Word) → Accepts a.admits m w ↔ Recognizes a.admits n w
  realizes_accepts w = (
    λ x. record {
      start = r.name x.start;
      end = r.name x.end;
      starts = (r.starts x.start (initial_below m x.start x.starts)).0 x.starts;
      ends = (r.ends x.end (accepting_below m x.end x.ends)).0 x.ends;
      trace = walk_trace x.walk;
    },
    λ x.
        let first = r.states.every x.start (n.starts_in x.start x.starts) in
        let last = trace_walk x.trace first.0 first.1 first.2 in
        record {
          start = first.0;
          end = last.0;
          starts = (r.starts first.0 first.1).1 (subst n.Starts (sym first.2) x.starts);
          ends = (r.ends last.0 last.1).1 (subst n.Ends (sym last.2) x.ends);
          walk = last.3;
        },
  )

-- an automaton whose arcs lead from state to state realizes itself
pub realizes_rows : {L : Type 0} (a : Labels L) (m : Automaton L) → Inside m → Realizes a (rows a m) m
realizes_rows a m inside = record {
  name = λ q. q;
  states = record { each = λ q low. low; every = λ q low. (q, low, refl); once = λ p q _ _ is. is };
  starts = λ q low. (λ h. (low, h), λ h. h.1);
  ends = λ q low. (λ h. h, λ h. h);
  arrow = λ k. k;
  arcs = record { each = λ k low. low; every = λ k low. (k, low, refl); once = λ j k _ _ is. is };
  follows = λ k low.
      let in' = inside (arc_at a m k) (has_get_or m.arcs k _ low) in
      record { from_state = in'.0; to_state = in'.1; from_is = refl; to_is = refl; label_is = refl };
}
