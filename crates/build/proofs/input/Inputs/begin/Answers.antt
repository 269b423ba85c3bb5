use Rattle.std.proofs.Common.{◌≡◌, ◌+◌, true, Ok, sym, ap, ◌∙◌, subst}
use Rattle.std.proofs.lemmas.Bool.{both_ways}
use Rattle.automaton.specs.Automaton.{initial}
use Rattle.build.specs.Pairs.{pairs, Extended, BegunAt}
use Rattle.build.specs.Tails.{written, SameRows}
use Rattle.build.proofs.Exploring.{BegunTo, below_more, turn, pass}
use Rattle.build.proofs.Joining.{row_marks}
use Rattle.build.proofs.input.Inputs.begin.Goals as goal
use Rattle.build.proofs.input.Inputs.begin.Goals.{then-left+in_ok-begin_at, else-left}

pub loop-p-preserved : goal.loop-p-preserved
loop-p-preserved g c =
    let a = g.A.Alphabet.labels in
    let left = c.args.self.now.left in
    let right = c.args.self.now.right in
    let s = c.args.pairs.now in
    let t = c.loop-p.pairs in
    let p = c.loop-p.p in
    let is = ap (λ m. m.initial) (row_marks c.states-left-items.result.now left.states p _ c.states-left-items.ensures.reads c.loop-p-test.true) in
    elim c.if-left.branch [
      | then-left+in_ok-begin_at w ↦
          let u = w.begin_at.new.pairs in
          subst (λ u. Extended a left right s u (BegunTo left right (p + 1)) (Ok tt) × SameRows s u) (sym w.pairs-is)
          (turn a left right s t u (BegunTo left right p) (BegunAt right p) (BegunTo left right (p + 1))
          (λ more before new. below_more (λ r. initial left r ≡ true → BegunAt right r (pairs (written u))) p (λ r low yes' q qlow qyes. more _ (before r low yes' q qlow qyes)) (λ yes'. new))
          c.loop-p.invariant w.in_ok-begin_at.ensures.begins w.in_ok-begin_at.ensures.same_rows)
      | else-left w ↦
          subst (λ u. Extended a left right s u (BegunTo left right (p + 1)) (Ok tt) × SameRows s u) (sym w.pairs-is)
          (pass a left right s t (BegunTo left right p) (BegunTo left right (p + 1))
          (λ before. below_more (λ r. initial left r ≡ true → BegunAt right r (pairs (written t))) p before (λ yes'. absurd (both_ways _ w.if-left.false (sym is ∙ yes'))))
          c.loop-p.invariant)
    ]
