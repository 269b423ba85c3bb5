-- An abstract automaton in rows, from a list of its states and a list of its arcs.
use Rattle.std.proofs.Common.{◌≡◌, ℕ, ◌<◌, Bool, true, ◌&&◌, List, map, length, get_or, Decides, sym, refl, subst, arith}
use Rattle.std.specs.List.{ContainsAt as Has, AllByRecursion as All}
use Rattle.std.proofs.ByRecursion.{All-get_or}
use Rattle.std.proofs.lemmas.List.{length-map, get_or-map}
use Rattle.std.proofs.lemmas.Bool.{and_parts}
use Rattle.alphabet.specs.Labels.{Labels}
use Rattle.automaton.specs.declared.Arc.{Arc}
use Rattle.automaton.specs.declared.Marks.{Marks}
use Rattle.automaton.specs.Automaton.{Automaton, unmarked}
use Rattle.automaton.specs.Nfa.{Nfa, Realizes}
use Rattle.automaton.specs.Numbers.{Numbers}
use Rattle.build.specs.Emitted.{StandsFor}
use Rattle.build.proofs.Producing.{emitted_realizes}
use Rattle.bench.proofs.Finite.{mem, place, distinct, every, place_at, distinct_all, every_all}

module _ {S X L : Type 0} (nfa : Nfa S X L) (same : S → S → Bool) where
  abbrev pub row : List S → X → Arc L
  row ps z = record { from = place same ps (nfa.from z); label = nfa.label z; to = place same ps (nfa.to z) }

  abbrev pub numbered : (S → Marks) → List S → List X → Automaton L
  numbered mark ps zs = record { states = map mark ps; arcs = map (row ps) zs }

  -- both ends of an arc are in the list
  abbrev pub ends_in : List S → X → Bool
  ends_in ps z = mem same ps (nfa.from z) && mem same ps (nfa.to z)

  module _ (a : Labels L) (decides : (x y : S) → Decides (same x y) (x ≡ y)) (same' : X → X → Bool) (decides' : (x y : X) → Decides (same' x y) (x ≡ y)) (mark : S → Marks) (ps : List S) (zs : List X) (d : S) (e : X)
      (states : Numbers nfa.State (length ps) (λ i. get_or ps i d)) (starts : (x : S) → Decides (mark x).initial (nfa.Starts x)) (ends : (x : S) → Decides (mark x).accepting (nfa.Ends x))
      (arrows : All nfa.Arrow zs) (inside : every (ends_in ps) zs ≡ true) (complete : (z : X) → nfa.Arrow z → Has zs z) (once : distinct same' zs ≡ true) where
    long : length (map mark ps) ≡ length ps
    long = length-map ps mark

    marked : (q : ℕ) → q < length ps → get_or (map mark ps) q unmarked ≡ mark (get_or ps q d)
    marked q low = get_or-map mark ps q d unmarked low

    stands : (k : ℕ) (b : Arc L) (z : X) → k < length zs → StandsFor nfa (λ i. get_or ps i d) (length (map mark ps)) (get_or (map (row ps) zs) k b) (get_or zs k z)
    stands k b z low =
        let x = get_or zs k z in
        let both = and_parts (mem same ps (nfa.from x)) (mem same ps (nfa.to x)) (All-get_or (λ y. ends_in ps y ≡ true) zs k z low (every_all (ends_in ps) zs inside)) in
        let from = place_at same decides ps (nfa.from x) d both.0 in
        let to = place_at same decides ps (nfa.to x) d both.1 in
        subst (λ r. StandsFor nfa (λ i. get_or ps i d) (length (map mark ps)) r x) (sym (get_or-map (row ps) zs k z b low))
        (record { from_state = omega (arith, from.0, long); to_state = omega (arith, to.0, long); from_is = from.1; to_is = to.1; label_is = refl })

    pub realized : Realizes a nfa (numbered mark ps zs)
    realized =
        emitted_realizes a nfa (λ i. get_or ps i d) (numbered mark ps zs) zs e (subst (λ n. Numbers nfa.State n (λ i. get_or ps i d)) (sym long) states)
        (λ q low. subst (λ (s : Marks). Decides s.initial (nfa.Starts (get_or ps q d))) (sym (marked q (omega (arith, long)))) (starts (get_or ps q d)))
        (λ q low. subst (λ (s : Marks). Decides s.accepting (nfa.Ends (get_or ps q d))) (sym (marked q (omega (arith, long)))) (ends (get_or ps q d)))
        (record { long = length-map zs (row ps); stands = stands; arrows = arrows; once = distinct_all same' decides' zs once })
        complete
