-- The abstract automaton of all words recognizes every word of the alphabet's letters, and no other.
use Rattle.std.proofs.Common.{◌<◌, ◌↔◌, [], ◌∷◌, refl}
use Rattle.std.specs.List.{AllByRecursion as All}
use Rattle.alphabet.specs.Labels.{Labels, Lawful}
use Rattle.automaton.specs.Automaton.{Word}
use Rattle.automaton.specs.Nfa.{Nfa, Trace, stop, move, Recognizes, all_words}

module _ {L : Type 0} {a : Labels L} (laws : Lawful a) where
  -- an abstract automaton over an alphabet recognizes words of its letters alone
  pub trace_letters : {S E : Type 0} {n : Nfa S E L} {p q : S} {w : Word} → Trace a.admits n p w q → All (λ c. c < a.letters) w
  trace_letters stop = tt
  trace_letters {n} (move {c} e arrow from yes' h) = (laws.within (n.label e) c yes', trace_letters h)

  pub recognizes_letters : {S E : Type 0} {n : Nfa S E L} {w : Word} → Recognizes a.admits n w → All (λ c. c < a.letters) w
  recognizes_letters x = trace_letters x.trace

  all_trace : (w : Word) → All (λ c. c < a.letters) w → Trace a.admits (all_words a) tt w tt
  all_trace [] all = stop
  all_trace (c ∷ w) all = move tt tt refl (laws.full_all c all.0) (all_trace w all.1)

  pub all_words_exact : (w : Word) → Recognizes a.admits (all_words a) w ↔ All (λ c. c < a.letters) w
  all_words_exact w = (recognizes_letters, λ all. record { start = tt; end = tt; starts = tt; ends = tt; trace = all_trace w all })
