use Rattle.std.proofs.Common.{◌≡◌, cond, refl, sym, ap, ◌∙◌, rules}
use Rattle.words.specs.States.{row}
use Rattle.words.specs.Machines.{automaton}
use Rattle.words.proofs.States.{marks_row}
use Rattle.words.proofs.machine.Machine.begin_layers.Goals as goal

pub returns-clause-begins : goal.returns-clause-begins
returns-clause-begins g c = λ q low.
    let old = c.args.self.now.states.now in
    let e = c.renumber.ensures.numbers q low in
    (let is : (row c.renumber.new.self.states.now q).left ≡ cond (row old q).marks.accepting 1 0 = search rules in is) ∙ ap (λ s. cond s.accepting 1 0) (sym (marks_row (automaton c.args.self.now) old refl q low))
