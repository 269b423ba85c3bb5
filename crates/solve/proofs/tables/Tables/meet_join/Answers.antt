use Rattle.std.proofs.Common.{[], ◌∷◌, sym, ap, ◌∙◌, subst}
use Rattle.automaton.specs.Automaton.{Automaton}
use Rattle.build.specs.Tables.{at, Stands}
use Rattle.verdict.specs.Course.{join, result_of}
use Rattle.solve.specs.Builds.{Went, with_rows}
use Rattle.solve.specs.Parts.{dones}
use Rattle.solve.proofs.Operands.{join_yes, result_at, stands_found}
use Rattle.solve.proofs.tables.Tables.meet_join.Goals as goal

pub meet_joined-requires-clause-left_stands : goal.meet_joined-requires-clause-left_stands
meet_joined-requires-clause-left_stands g c =
    let s = c.args.self.now.states.now in
    let e = c.args.self.now.arcs.now in
    let used = c.args.self.now.used in
    subst (Stands s e used) (sym c.place_of-left.ensures.finds) (stands_found s e c.args.finished.now c.args.join.left used c.requires.finished_stand (c.requires.parts_finished c.if-join-part.true).0)

pub meet_joined-requires-clause-right_stands : goal.meet_joined-requires-clause-right_stands
meet_joined-requires-clause-right_stands g c =
    let s = c.args.self.now.states.now in
    let e = c.args.self.now.arcs.now in
    let used = c.args.self.now.used in
    subst (Stands s e used) (sym c.place_of-right.ensures.finds) (stands_found s e c.args.finished.now c.args.join.right used c.requires.finished_stand (c.requires.parts_finished c.if-join-part.true).1)

pub returns-then-join-part-clause-goes : goal.returns-then-join-part-clause-goes
returns-then-join-part-clause-goes g c =
    let a = g.A.Alphabet.labels in
    let before = c.args.self.now in
    let after = c.meet_joined.new.self in
    let s = before.states.now in
    let e = before.arcs.now in
    let hs = c.args.finished.now in
    let j = c.args.join in
    let r = with_rows after.used c.meet_joined.result in
    let l = ap (at s e) c.place_of-left.ensures.finds ∙ sym (result_at s e hs j.left) in
    let k = ap (at s e) c.place_of-right.ensures.finds ∙ sym (result_at s e hs j.right) in
    let one = subst (λ (m : Automaton g.row.A-Label.Denot). Went a (join m (at s e c.place_of-right.result) ∷ []) (record { used = before.used; running = c.args.running }) s e after.states.now after.arcs.now r) l c.meet_joined.ensures.goes in
    let two = subst (λ (m : Automaton g.row.A-Label.Denot). Went a (join (result_of (dones s e hs) j.left) m ∷ []) (record { used = before.used; running = c.args.running }) s e after.states.now after.arcs.now r) k one in
    subst (λ os. Went a os (record { used = before.used; running = c.args.running }) s e after.states.now after.arcs.now r) (sym (join_yes c.args.part (dones s e hs) j c.if-join-part.true)) two
