use Rattle.std.proofs.Common.{◌≡◌, ℕ, ◌<◌, cond, length, sym, refl, ap, ◌∙◌, arith, rules}
use Rattle.words.specs.States.{row}
use Rattle.words.specs.Machines.{automaton}
use Rattle.words.proofs.States.{length_marks, marks_row}
use Rattle.words.proofs.machine.Machine.begin.Goals as goal

pub returns-clause-begins : goal.returns-clause-begins
returns-clause-begins g c =
    let old = c.args.self.now.states.now in
    let new = c.renumber.new.self.states.now in
    let e = c.renumber.ensures in
    let long : length new ≡ length old = length_marks old new e.same.marks in
    let both : (q : ℕ) → q < length old → ((row new q).left ≡ cond (row old q).marks.initial 1 0) × ((row new q).right ≡ 0) = λ q low. let h = e.numbers q low in search rules in
    record {
      set = λ q low. let l : q < length old = omega arith in (both q l).0 ∙ ap (λ s. cond s.initial 1 0) (sym (marks_row (automaton c.args.self.now) old refl q l));
      clear = λ q low. (both q (omega arith)).1;
    }
