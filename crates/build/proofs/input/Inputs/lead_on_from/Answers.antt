use Rattle.std.proofs.Common.{◌≡◌, ◌+◌, ◌++◌, length, filter, ap, ◌∙◌, sym, subst, length-append, arith}
use Rattle.std.specs.List.{range_with_len}
use Rattle.std.proofs.lemmas.List.{length-map}
use Rattle.automaton.specs.declared.State.{State}
use Rattle.automaton.specs.Automaton.{initial}
use Rattle.build.specs.Tails.{written, SameRows}
use Rattle.build.specs.Concats.{led_to, begun}
use Rattle.build.proofs.Joining.{led_more, led_less, led_part, row_marks, appended_err, same_rows_then}
use Rattle.build.proofs.input.Inputs.lead_on_from.Goals as goal
use Rattle.build.proofs.input.Inputs.lead_on_from.Goals.{then-state+in_ok-push, else-state}

pub returns-in_err-push-clause-appends : goal.returns-in_err-push-clause-appends
returns-in_err-push-clause-appends g c =
    let k = c.args.self.now.right in
    let rows = c.states-state-items.result.now in
    let q = c.loop-q.q in
    let n = length c.args.self.now.left.states in
    let is = row_marks rows k.states q _ c.states-state-items.ensures.reads c.loop-q-test.true in
    let part = led_part k n c.args.arc.now q (omega (arith, c.loop-q-test.true, ap (λ l. length l) c.states-state-items.ensures.reads, length-map rows (λ (s : State). s.marks))) (ap (λ s. s.initial) is ∙ c.if-state.true) in
    appended_err c.args.out.now c.push.new.self (led_to n (begun k) c.args.arc.now) c.from_residual.result c.from_residual.ensures.0
    (omega (arith, part, c.in_err-push.ensures.pushes.1, ap (λ l. length l) c.loop-q.invariant.rows, length-append (written c.args.out.now) (led_to n (filter (initial k) (range_with_len 0 q)) c.args.arc.now), c.loop-q.invariant.same.long))

pub loop-q-preserved : goal.loop-q-preserved
loop-q-preserved g c =
    let m = c.args.self.now.left in
    let k = c.args.self.now.right in
    let b = c.args.arc.now in
    let q = c.loop-q.q in
    let out = c.args.out.now in
    let counts = c.state_count-offset.ensures.counts in
    let is = row_marks c.states-state-items.result.now k.states q _ c.states-state-items.ensures.reads c.loop-q-test.true in
    elim c.if-state.branch [
      | then-state+in_ok-push w ↦
          let n = c.state_count-offset.result in
          let more = led_more k n b (written out) (written c.loop-q.out) q (subst (λ j. written c.loop-q.out ≡ written out ++ led_to j (filter (initial k) (range_with_len 0 q)) b) (sym counts) c.loop-q.invariant.rows) (ap (λ s. s.initial) is ∙ w.if-state.true) in
          record {
            rows = ap written w.out-is ∙ w.in_ok-push.ensures.pushes ∙ more ∙ ap (λ j. written out ++ led_to j (filter (initial k) (range_with_len 0 (q + 1))) b) counts;
            offset = counts;
            states = c.states-state-items.ensures.reads;
            same = same_rows_then out c.loop-q.out c.if-state.out c.loop-q.invariant.same (subst (SameRows c.loop-q.out) (sym w.out-is) w.push.ensures.same_rows);
          }
      | else-state w ↦ record {
        rows = ap written w.out-is ∙ c.loop-q.invariant.rows ∙ ap (λ l. written out ++ l) (led_less k (length m.states) b q (ap (λ s. s.initial) is ∙ w.if-state.false));
        offset = counts;
        states = c.states-state-items.ensures.reads;
        same = subst (SameRows out) (sym w.out-is) c.loop-q.invariant.same;
      }
    ]
