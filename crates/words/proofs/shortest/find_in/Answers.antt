use Rattle.std.proofs.Common.{◌≡◌, None, List, length, get_or, refl, ap, ◌∙◌, rules, arith}
use Rattle.std.proofs.lemmas.List.{length-map}
use Rattle.automaton.specs.declared.State.{State}
use Rattle.automaton.specs.declared.Marks.{Marks}
use Rattle.automaton.specs.Automaton.{unmarked, of_rows}
use Rattle.words.specs.Layers.{layer}
use Rattle.words.proofs.Layers.{none_accepted}
use Rattle.words.proofs.States.{length_marks}
use Rattle.words.proofs.shortest.find_in.Goals as goal

pub returns-in_err-first-clause-finds : goal.returns-in_err-first-clause-finds
returns-in_err-first-clause-finds g c =
    let s = c.args.states.now in
    let t = c.layers.new.self in
    let m = of_rows s c.args.arcs.now in
    let same = c.layers.ensures.same in
    let long : length t.states.now ≡ length s = length_marks s t.states.now same.marks in
    let none : c.from_residual.result ≡ None = search rules in
    rw none (
      λ w x. none_accepted g.met.A.Alphabet.lawful m (length s) (layer t.states.now) c.layers.ensures.completes (length-map s (λ (x : State). x.marks)) (λ q low yes'. c.in_err-first.ensures.finds q (omega arith) (ap (λ (ms : List Marks). (get_or ms q unmarked).initial) same.marks ∙ yes')) w x,
      refl,
    )
