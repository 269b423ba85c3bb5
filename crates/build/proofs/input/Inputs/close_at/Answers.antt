use Rattle.std.proofs.Common.{◌≡◌, ◌+◌, Ok, sym, ap, ◌∙◌, subst}
use Rattle.automaton.specs.declared.Arc.{Arc}
use Rattle.automaton.specs.Automaton.{arc_at}
use Rattle.build.specs.Pairs.{Pair, pairs, Extended, ClosedAlong}
use Rattle.build.specs.Tails.{written, SameRows}
use Rattle.build.proofs.Exploring.{ClosedTo, below_more, turn, pass}
use Rattle.build.proofs.Inputs.{arc_read}
use Rattle.build.proofs.input.Inputs.close_at.Goals as goal
use Rattle.build.proofs.input.Inputs.close_at.Goals.{then-left-p+in_ok-close_by, else-left-p}

pub loop-left-preserved : goal.loop-left-preserved
loop-left-preserved g c =
    let a = g.A.Alphabet.labels in
    let left = c.args.self.now.left in
    let right = c.args.self.now.right in
    let s = c.args.pairs.now in
    let t = c.loop-left.pairs in
    let pair : Pair = (c.args.p, c.args.q) in
    let x = c.loop-left.left-index in
    let b = c.left-item.result in
    let here = (arc_read a left c.arcs-left-items.result.now x b c.arcs-left-items.ensures.reads c.loop-left-test.true c.left-item.is).1 in
    let next = ClosedTo a left right pair (x + 1) in
    elim c.if-left-p.branch [
      | then-left-p+in_ok-close_by w ↦
          let u = w.close_by.new.pairs in
          subst (λ u. Extended a left right s u next (Ok tt) × SameRows s u) (sym w.pairs-is)
          (turn a left right s t u (ClosedTo a left right pair x) (ClosedAlong a right b pair.1) next
          (λ more before new. below_more (λ z. (arc_at a left z).from ≡ pair.0 → ClosedAlong a right (arc_at a left z) pair.1 (pairs (written u))) x
          (λ z low from y ylow yfrom meets. more _ (before z low from y ylow yfrom meets)) (λ from. subst (λ (e : Arc g.row.A-Label.Denot). ClosedAlong a right e pair.1 (pairs (written u))) (sym here) new))
          c.loop-left.invariant w.in_ok-close_by.ensures.closes w.in_ok-close_by.ensures.same_rows)
      | else-left-p w ↦
          subst (λ u. Extended a left right s u next (Ok tt) × SameRows s u) (sym w.pairs-is)
          (pass a left right s t (ClosedTo a left right pair x) next
          (λ before. below_more (λ z. (arc_at a left z).from ≡ pair.0 → ClosedAlong a right (arc_at a left z) pair.1 (pairs (written t))) x before (λ from. absurd (w.if-left-p.false (ap (λ e. e.from) (sym here) ∙ from))))
          c.loop-left.invariant)
    ]
