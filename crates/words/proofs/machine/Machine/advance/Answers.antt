use Rattle.std.proofs.Common.{◌≡◌, length, arith, rules}
use Rattle.words.proofs.States.{length_marks}
use Rattle.words.proofs.machine.Machine.advance.Goals as goal

pub returns-clause-advances : goal.returns-clause-advances
returns-clause-advances g c =
    let old = c.args.self.now.states.now in
    let new = c.renumber.new.self.states.now in
    let e = c.renumber.ensures in
    let long : length new ≡ length old = length_marks old new e.same.marks in
    record {
      set = λ q low. let h = e.numbers q low in search rules;
      clear = λ q low. let h = e.numbers q (omega arith) in search rules;
    }
