use Rattle.std.proofs.Common.{rules, refl}
use Rattle.build.specs.Pairs.{left_of, right_of}
use Rattle.build.proofs.Producing.{built_sizes}
use Rattle.build.proofs.Standing.{answered, meant}
use Rattle.build.proofs.operation.build.Goals as goal

pub returns-in_err-count-clause-answers : goal.returns-in_err-count-clause-answers
returns-in_err-count-clause-answers g c =
    answered g.A.Alphabet.labels g.O.Operation.builds c.args.job c.args.states.now c.write_behind.new.states c.args.arcs.now c.write_behind.new.arcs _ _ (c.in_use.ensures.decides.0 c.if-not-in_use.false) c.state_room-state_room.ensures.counts c.arc_room-arc_room.ensures.counts
    c.write_behind.ensures.keeps_states.long c.write_behind.ensures.keeps_arcs.long _ c.from_residual.result (search rules) c.in_err-count.ensures.answers

pub returns-clause-answers : goal.returns-clause-answers
returns-clause-answers g c =
    answered g.A.Alphabet.labels g.O.Operation.builds c.args.job c.args.states.now c.write_behind.new.states c.args.arcs.now c.write_behind.new.arcs _ _ (c.in_use.ensures.decides.0 c.if-not-in_use.false) c.state_room-state_room.ensures.counts c.arc_room-arc_room.ensures.counts
    c.write_behind.ensures.keeps_states.long c.write_behind.ensures.keeps_arcs.long _ _ refl c.in_ok-count.ensures.answers

pub returns-clause-sizes : goal.returns-clause-sizes
returns-clause-sizes g c =
    let a = g.A.Alphabet.labels in
    let nfa = g.O.Operation.builds (left_of c.args.job c.args.states.now c.args.arcs.now) (right_of c.args.job c.args.states.now c.args.arcs.now) in
    meant _ a nfa c.args.job.used _ _ _ _ (returns-clause-answers g c) (built_sizes a nfa c.args.job.used _ _)
