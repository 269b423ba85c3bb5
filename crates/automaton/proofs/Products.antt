-- The product of two abstract automata recognizes the words that both recognize.
use Rattle.std.proofs.Common.{◌≡◌, ℕ, true, ◌↔◌, is_some, Some, None, Option, sym, refl, ap, ◌∙◌, subst₂, MatchOption}
use Rattle.std.proofs.lemmas.Bool.{and_parts, and_from, both_ways}
use Rattle.alphabet.specs.Labels.{Labels, Lawful, Empty, Least}
use Rattle.automaton.specs.Automaton.{Word}
use Rattle.automaton.specs.Nfa.{Nfa, Trace, stop, move, Recognizes, Meets, Reachable, begin, go, product}

module _ {L : Type 0} {a : Labels L} (laws : Lawful a) where
  -- labels that admit a letter in common meet
  pub admitted_meets : {l k : L} {c : ℕ} → a.admits l c ≡ true → a.admits k c ≡ true → Meets a l k
  admitted_meets {l} {k} {c} left right = some (a.first (a.meet l k)) (laws.first_least (a.meet l k))
    where
      some : (o : Option ℕ) → MatchOption o (Empty (a.admits (a.meet l k))) (Least (a.admits (a.meet l k))) → is_some o ≡ true
      some None empty = absurd (both_ways _ (empty c) (laws.meet_both l k c ∙ and_from _ _ left right))
      some (Some _) _ = refl

  module _ {S E T F : Type 0} {m : Nfa S E L} {k : Nfa T F L} where
    pub product_left : {x y : S × T} {w : Word} → Trace a.admits (product a m k) x w y → Trace a.admits m x.0 w y.0
    product_left stop = stop
    product_left (move {c} e arrow from yes' h) =
        move e.0 arrow.0 (ap (λ x. x.0) from) (and_parts _ _ (sym (laws.meet_both _ _ c) ∙ yes')).0 (product_left h)

    pub product_right : {x y : S × T} {w : Word} → Trace a.admits (product a m k) x w y → Trace a.admits k x.1 w y.1
    product_right stop = stop
    product_right (move {c} e arrow from yes' h) =
        move e.1 arrow.1 (ap (λ x. x.1) from) (and_parts _ _ (sym (laws.meet_both _ _ c) ∙ yes')).1 (product_right h)

    -- two traces of one word from a reachable pair
    pub product_trace : {p r : S} {q s : T} {w : Word} → Trace a.admits m p w r → Trace a.admits k q w s → Reachable a m k p q → Trace a.admits (product a m k) (p, q) w (r, s)
    product_trace stop stop there = stop
    product_trace (move {c} e arrow from yes' h) (move f arrow' from' yes'' h') there =
        let meets = admitted_meets yes' yes'' in
        move (e, f) (arrow, arrow', subst₂ (Reachable a m k) (sym from) (sym from') there, meets) (λ i. (from i, from' i)) (laws.meet_both _ _ c ∙ and_from _ _ yes' yes'')
        (product_trace h h' (go e f there arrow arrow' from from' meets refl refl))

    pub product_exact : (w : Word) → Recognizes a.admits (product a m k) w ↔ (Recognizes a.admits m w × Recognizes a.admits k w)
    product_exact w = (
      λ x. (
        record { start = x.start.0; end = x.end.0; starts = x.starts.0; ends = x.ends.0; trace = product_left x.trace },
        record { start = x.start.1; end = x.end.1; starts = x.starts.1; ends = x.ends.1; trace = product_right x.trace },
      ),
      λ x. record {
        start = (x.0.start, x.1.start);
        end = (x.0.end, x.1.end);
        starts = (x.0.starts, x.1.starts);
        ends = (x.0.ends, x.1.ends);
        trace = product_trace x.0.trace x.1.trace (begin x.0.starts x.1.starts);
      },
    )
