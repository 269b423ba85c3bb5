use Rattle.std.proofs.Common.{◌≡◌, ◌+◌, true, Ok, length, sym, ap, ◌∙◌, subst, arith}
use Rattle.std.specs.List.{ContainsAt as Has}
use Rattle.std.proofs.lemmas.Bool.{both_ways}
use Rattle.std.proofs.lemmas.List.{length-map}
use Rattle.automaton.specs.declared.State.{State}
use Rattle.automaton.specs.Automaton.{initial}
use Rattle.automaton.specs.Nfa.{begin}
use Rattle.build.specs.Pairs.{pairs, Extended}
use Rattle.build.specs.Tails.{written, SameRows}
use Rattle.build.proofs.Exploring.{BegunBelow, below_more, turn, pass}
use Rattle.build.proofs.Joining.{row_marks}
use Rattle.build.proofs.input.Inputs.begin_at.Goals as goal
use Rattle.build.proofs.input.Inputs.begin_at.Goals.{then-right+in_ok-add, else-right}

pub add-requires-clause-reachable : goal.add-requires-clause-reachable
add-requires-clause-reachable g c =
    let rows = c.states-right-items.result.now in
    let reads = c.states-right-items.ensures.reads in
    begin (c.requires.is_state, c.requires.is_initial) (
      omega (arith, c.loop-q-test.true, ap (λ l. length l) reads, length-map rows (λ (s : State). s.marks)),
      ap (λ m. m.initial) (row_marks rows c.args.self.now.right.states c.loop-q.q _ reads c.loop-q-test.true) ∙ c.if-right.true,
    )

pub loop-q-preserved : goal.loop-q-preserved
loop-q-preserved g c =
    let a = g.A.Alphabet.labels in
    let left = c.args.self.now.left in
    let right = c.args.self.now.right in
    let s = c.args.pairs.now in
    let t = c.loop-q.pairs in
    let p = c.args.p in
    let q = c.loop-q.q in
    let is = ap (λ m. m.initial) (row_marks c.states-right-items.result.now right.states q _ c.states-right-items.ensures.reads c.loop-q-test.true) in
    elim c.if-right.branch [
      | then-right+in_ok-add w ↦
          let u = w.add.new.pairs in
          subst (λ u. Extended a left right s u (BegunBelow right p (q + 1)) (Ok tt) × SameRows s u) (sym w.pairs-is)
          (turn a left right s t u (BegunBelow right p q) (λ ps. Has ps (p, q)) (BegunBelow right p (q + 1))
          (λ more before new. below_more (λ r. initial right r ≡ true → Has (pairs (written u)) (p, r)) q (λ r low yes'. more _ (before r low yes')) (λ yes'. new))
          c.loop-q.invariant w.in_ok-add.ensures.adds w.in_ok-add.ensures.same_rows)
      | else-right w ↦
          subst (λ u. Extended a left right s u (BegunBelow right p (q + 1)) (Ok tt) × SameRows s u) (sym w.pairs-is)
          (pass a left right s t (BegunBelow right p q) (BegunBelow right p (q + 1))
          (λ before. below_more (λ r. initial right r ≡ true → Has (pairs (written t)) (p, r)) q before (λ yes'. absurd (both_ways _ w.if-right.false (sym is ∙ yes'))))
          c.loop-q.invariant)
    ]
