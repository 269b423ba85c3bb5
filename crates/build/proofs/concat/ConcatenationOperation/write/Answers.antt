use Rattle.std.proofs.Common.{rules, length, arith}
use Rattle.build.proofs.Concatenating.{sides_over, states_full, arcs_full, rows_fit}
use Rattle.build.proofs.concat.ConcatenationOperation.write.Goals as goal

pub returns-then-state_count-states : goal.returns-then-state_count-states
returns-then-state_count-states g c = record {
  fits = (_, sides_over g.A.Alphabet.labels c.args.inputs.now.left c.args.inputs.now.right (length c.args.states.now) (omega (arith, c.state_count.ensures.counts, c.state_count-2.ensures.counts, c.if-state_count-states.true)));
}

pub returns-in_err-map_err : goal.returns-in_err-map_err
returns-in_err-map_err g c = record {
  fits = states_full g.A.Alphabet.labels c.args.inputs.now.left c.args.inputs.now.right c.new-states.result c.put_states.new.out _ c.put_states.result c.new-states.ensures.empty c.put_states.ensures.appends _ c.from_residual.result (search rules) c.in_err-map_err.ensures.variant (search rules);
}

pub returns-in_err-map_err-2 : goal.returns-in_err-map_err-2
returns-in_err-map_err-2 g c = record {
  fits = arcs_full g.A.Alphabet.labels c.args.inputs.now.left c.args.inputs.now.right c.new-states.result c.put_states.new.out _ c.put_states.result c.new-states.ensures.empty c.put_states.ensures.appends c.in_ok-map_err.ensures.variant c.put_states.new.out.within (search rules)
      c.new-arcs.result c.put_arcs.new.out _ c.put_arcs.result c.new-arcs.ensures.empty c.put_arcs.ensures.appends c.from_residual-in_err-map_err-2.result (search rules) c.in_err-map_err-2.ensures.variant (search rules);
}

pub returns : goal.returns
returns g c = record {
  fits = rows_fit g.A.Alphabet.labels c.args.inputs.now.left c.args.inputs.now.right c.new-states.result c.put_states.new.out _ c.put_states.result c.new-states.ensures.empty c.put_states.ensures.appends c.in_ok-map_err.ensures.variant c.put_states.new.out.within (search rules)
      c.new-arcs.result c.put_arcs.new.out _ c.put_arcs.result c.new-arcs.ensures.empty c.put_arcs.ensures.appends _ _ c.requires.left_inside c.requires.right_inside c.put_arcs.new.out.within (search rules) c.in_ok-map_err-2.ensures.variant c.written.ensures.reads c.written-2.ensures.reads;
}
