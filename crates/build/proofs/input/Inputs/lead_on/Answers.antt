use Rattle.std.proofs.Common.{◌≡◌, ◌++◌, ◌<◌, true, length, take, filter, flat_map, get_or, ap, ◌∙◌, sym, length-append, subst, arith}
use Rattle.automaton.specs.Automaton.{accepting}
use Rattle.build.specs.Concats.{led_to, led_on, begun}
use Rattle.build.specs.Tails.{written, SameRows}
use Rattle.build.proofs.Joining.{appended_err, flat_map_part_long, flat_map_yes, filter_no, same_rows_then}
use Rattle.build.proofs.input.Inputs.lead_on.Goals as goal
use Rattle.build.proofs.input.Inputs.lead_on.Goals.{then-marks+in_ok-lead_on_from, else-marks}

pub returns-in_err-lead_on_from-clause-appends : goal.returns-in_err-lead_on_from-clause-appends
returns-in_err-lead_on_from-clause-appends g c =
    let m = c.args.self.now.left in
    let k = c.args.self.now.right in
    let n = length m.states in
    let i = c.loop-arc.arc-index in
    let b = c.arc-item.result in
    let is : b ≡ get_or m.arcs i b = c.arc-item.is ∙ ap (λ l. get_or l i b) c.arcs-arc-items.ensures.reads in
    let into : accepting m (get_or m.arcs i b).to ≡ true = subst (λ x. accepting m x.to ≡ true) is (sym (ap (λ s. s.accepting) c.marks.ensures.reads) ∙ c.if-marks.true) in
    let part = flat_map_part_long (λ x. accepting m x.to) (led_to n (begun k)) m.arcs i b (omega (arith, c.loop-arc-test.true, ap (λ l. length l) c.arcs-arc-items.ensures.reads)) into in
    let before = flat_map (led_to n (begun k)) (filter (λ x. accepting m x.to) (take i m.arcs)) in
    appended_err c.args.out.now c.lead_on_from.new.out (led_on m k) c.from_residual.result c.from_residual.ensures.0
    (omega (arith, part, c.in_err-lead_on_from.ensures.appends, ap (λ x. length (led_to n (begun k) x)) is, ap (λ l. length l) c.loop-arc.invariant.rows, length-append (written c.args.out.now) before, c.loop-arc.invariant.same.long))

pub loop-arc-preserved : goal.loop-arc-preserved
loop-arc-preserved g c =
    let m = c.args.self.now.left in
    let k = c.args.self.now.right in
    let f = led_to (length m.states) (begun k) in
    let out = c.args.out.now in
    let i = c.loop-arc.arc-index in
    let b = c.arc-item.result in
    let is : b ≡ get_or m.arcs i b = c.arc-item.is ∙ ap (λ l. get_or l i b) c.arcs-arc-items.ensures.reads in
    let low : i < length m.arcs = omega (arith, c.loop-arc-test.true, ap (λ l. length l) c.arcs-arc-items.ensures.reads) in
    let marks = ap (λ x. accepting m x.to) (sym is) ∙ sym (ap (λ s. s.accepting) c.marks.ensures.reads) in
    elim c.if-marks.branch [
      | then-marks+in_ok-lead_on_from w ↦ record {
        rows = ap written w.out-is ∙ w.in_ok-lead_on_from.ensures.appends ∙ ap (λ x. written c.loop-arc.out ++ f x) is ∙ flat_map_yes (λ x. accepting m x.to) f m.arcs i b (written out) (written c.loop-arc.out) low (marks ∙ w.if-marks.true) c.loop-arc.invariant.rows;
        items = c.arcs-arc-items.ensures.reads;
        same = same_rows_then out c.loop-arc.out c.if-marks.out c.loop-arc.invariant.same (subst (SameRows c.loop-arc.out) (sym w.out-is) w.lead_on_from.ensures.same_rows);
      }
      | else-marks w ↦ record {
        rows = ap written w.out-is ∙ c.loop-arc.invariant.rows ∙ ap (λ l. written out ++ flat_map f l) (filter_no (λ x. accepting m x.to) m.arcs i b low (marks ∙ w.if-marks.false));
        items = c.arcs-arc-items.ensures.reads;
        same = subst (SameRows out) (sym w.out-is) c.loop-arc.invariant.same;
      }
    ]
