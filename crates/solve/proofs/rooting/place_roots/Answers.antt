use Rattle.std.proofs.Common.{◌<◌, length, sym, refl, ◌∙◌, subst, arith}
use Rattle.std.proofs.lemmas.Bool.Decides.{not_from_Decides}
use Rattle.automaton.specs.Automaton.{Accepts}
use Rattle.solve.proofs.Judged.{automaton_still, standing_still}
use Rattle.solve.proofs.Laying.{laying_room, laying_same, laying_other, laying_root, laying_is}
use Rattle.solve.proofs.rooting.place_roots.Goals as goal
use Rattle.solve.proofs.rooting.place_roots.Goals.{then-is_root, else-is_root}

pub place_root-end-requires : goal.place_root-end-requires
place_root-end-requires g c =
    let p = c.loop-part.part in
    let inv = c.loop-part.invariant in
    let low = c.loop-part-test.true in
    let some = c.requires.accepts p low in
    let standing = standing_still inv.reworded (laying_same inv) c.requires.standing in
    record {
      has_row = omega (arith, low, standing.rows_there);
      has_room = laying_room inv low (c.is_root.ensures.decides.0 c.if-is_root.true) c.requires.has_room;
      in_use = standing.in_use;
      stands = standing.stands p low;
      accepts = (some.0, subst (λ m. Accepts g.A.Alphabet.labels.admits m some.0) (sym (automaton_still inv.reworded (laying_same inv) c.args.arcs.now p)) some.1);
    }

pub loop-part-preserved : goal.loop-part-preserved
loop-part-preserved g c =
    let inv = c.loop-part.invariant in
    let low = c.loop-part-test.true in
    elim c.if-is_root.branch [
      | then-is_root w ↦
          let found = w.place_root-end in
          let there : c.loop-part.part < length c.loop-part.report = omega (arith, low, c.requires.standing.rows_there, c.loop-part.auto.report) in
          laying_is (laying_root inv (w.if-is_root.ensures.decides.0 refl) low there found.ensures.renumbers found.ensures.finds) w.states-is (w.report-is ∙ found.ensures.writes) w.words-is w.end-is
      | else-is_root w ↦ laying_is (laying_other inv (not_from_Decides c.is_root.result c.is_root.ensures.decides w.if-is_root.false)) w.states-is w.report-is w.words-is w.end-is
    ]
