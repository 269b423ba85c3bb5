use Rattle.std.proofs.Common.{length, get_or, take, sym, subst}
use Rattle.std.proofs.lemmas.List.{take_more}
use Rattle.automaton.specs.Automaton.{Automaton, Word}
use Rattle.words.specs.States.{LeadWithin}
use Rattle.words.specs.Machines.{automaton}
use Rattle.words.specs.Membership.{Followed, Reached}
use Rattle.words.proofs.Machines.{same_more, same_automaton}
use Rattle.words.proofs.Memberships.{reached_begin, reached_step}
use Rattle.words.proofs.States.{length_marks}
use Rattle.words.proofs.machine.Machine.run.Goals as goal

pub loop-letter-init : goal.loop-letter-init
loop-letter-init g c = record { same = c.begin.ensures.same; reached = reached_begin g.A.Alphabet.labels (automaton c.args.self.now) c.begin.new.self.states.now c.begin.ensures.begins }

pub loop-letter-preserved : goal.loop-letter-preserved
loop-letter-preserved g c =
    let a = g.A.Alphabet.labels in
    let start = c.args.self.now in
    let before = c.loop-letter.self in
    let mid = c.follow.new.self in
    let after = c.advance.new.self in
    let m = automaton start in
    let letter = get_or c.args.word.now c.loop-letter.letter-index 0 in
    let inv = c.loop-letter.invariant in
    let follow = c.follow.ensures in
    let is = same_automaton start before inv.same in
    let inside : LeadWithin m.arcs (length before.states.now) = subst (λ (k : Automaton g.row.L.Denot). LeadWithin k.arcs (length before.states.now)) is before.inside in
    record {
      same = same_more start before after inv.same (same_more before mid after follow.same c.advance.ensures.same);
      reached = subst (λ (w : Word). Reached a.admits m w after.states.now) (sym (take_more c.args.word.now c.loop-letter.letter-index 0 c.loop-letter-test.true))
          (reached_step a m before.states.now mid.states.now after.states.now (take c.loop-letter.letter-index c.args.word.now) letter inside (length_marks before.states.now mid.states.now follow.same.marks) (length_marks mid.states.now after.states.now c.advance.ensures.same.marks) inv.reached
          (subst (λ (k : Automaton g.row.L.Denot). Followed a k letter (length k.arcs) before.states.now mid.states.now) is follow.follows) c.advance.ensures.advances);
    }
