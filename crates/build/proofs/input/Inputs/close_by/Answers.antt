use Rattle.std.proofs.Common.{◌≡◌, ◌+◌, Ok, sym, ap, ◌∙◌, subst}
use Rattle.std.specs.List.{ContainsAt as Has}
use Rattle.std.proofs.lemmas.Bool.{both_ways}
use Rattle.automaton.specs.declared.Arc.{Arc}
use Rattle.automaton.specs.Automaton.{arc_at}
use Rattle.automaton.specs.Nfa.{Meets}
use Rattle.build.specs.Pairs.{pairs, Extended}
use Rattle.build.specs.Tails.{written, SameRows}
use Rattle.build.proofs.Exploring.{ClosedBelow, below_more, reached_by, turn, pass}
use Rattle.build.proofs.Inputs.{arc_read, has_at}
use Rattle.build.proofs.input.Inputs.close_by.Goals as goal
use Rattle.build.proofs.input.Inputs.close_by.Goals.{then-right-q+then-meets+in_ok-add, else-right-q, else-right-q-via-then-right-q+else-meets, else-right-q-via-else-right-q}

pub add-requires-clause-reachable : goal.add-requires-clause-reachable
add-requires-clause-reachable g c =
    let a = g.A.Alphabet.labels in
    let right = c.args.self.now.right in
    let b = c.right-item.result in
    let here = arc_read a right c.arcs-right-items.result.now c.loop-right.right-index b c.arcs-right-items.ensures.reads c.loop-right-test.true c.right-item.is in
    reached_by a c.args.self.now.left right c.args.left.now b c.args.q c.requires.is_arc (has_at a right c.loop-right.right-index b here.0 here.1) c.requires.reachable c.if-right-q.true (sym c.meets.ensures.decides ∙ c.if-meets.true)

pub loop-right-preserved : goal.loop-right-preserved
loop-right-preserved g c =
    let a = g.A.Alphabet.labels in
    let left = c.args.self.now.left in
    let right = c.args.self.now.right in
    let s = c.args.pairs.now in
    let t = c.loop-right.pairs in
    let b = c.args.left.now in
    let q = c.args.q in
    let y = c.loop-right.right-index in
    let here = (arc_read a right c.arcs-right-items.result.now y c.right-item.result c.arcs-right-items.ensures.reads c.loop-right-test.true c.right-item.is).1 in
    let next = ClosedBelow a right b q (y + 1) in
    let pass' = λ (not : c.right-item.result.from ≡ q → Meets a b.label c.right-item.result.label → ⊥).
    pass a left right s t (ClosedBelow a right b q y) next
    (λ before. below_more (λ z. (arc_at a right z).from ≡ q → Meets a b.label (arc_at a right z).label → Has (pairs (written t)) (b.to, (arc_at a right z).to)) y before
    (λ from meets. absurd (not (ap (λ x. x.from) (sym here) ∙ from) (subst (λ x. Meets a b.label x.label) here meets)))) c.loop-right.invariant in
    elim c.if-right-q.branch [
      | then-right-q+then-meets+in_ok-add w ↦
          let u = w.add.new.pairs in
          subst (λ u. Extended a left right s u next (Ok tt) × SameRows s u) (sym w.pairs-is)
          (turn a left right s t u (ClosedBelow a right b q y) (λ ps. Has ps (b.to, c.right-item.result.to)) next
          (λ more before new. below_more (λ z. (arc_at a right z).from ≡ q → Meets a b.label (arc_at a right z).label → Has (pairs (written u)) (b.to, (arc_at a right z).to)) y
          (λ z low from meets. more _ (before z low from meets)) (λ from meets. subst (λ (x : Arc g.row.A-Label.Denot). Has (pairs (written u)) (b.to, x.to)) (sym here) new))
          c.loop-right.invariant w.in_ok-add.ensures.adds w.in_ok-add.ensures.same_rows)
      | else-right-q w ↦
          subst (λ u. Extended a left right s u next (Ok tt) × SameRows s u) (sym w.pairs-is)
          (elim w.else-right-q.branch [
            | else-right-q-via-then-right-q+else-meets v ↦ pass' (λ from meets. both_ways _ v.if-meets.false (v.meets.ensures.decides ∙ meets))
            | else-right-q-via-else-right-q v ↦ pass' (λ from meets. v.if-right-q.false from)
          ])
    ]
