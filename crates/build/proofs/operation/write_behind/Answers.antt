use Rattle.std.proofs.Common.{rules, sym, subst, inr}
use Rattle.automaton.specs.Automaton.{Inside}
use Rattle.build.proofs.Inputs.{not_ready_held}
use Rattle.build.proofs.Standing.{none_found, found, fits_behind}
use Rattle.build.proofs.operation.write_behind.Goals as goal

pub returns-in_err-inputs-clause-answers : goal.returns-in_err-inputs-clause-answers
returns-in_err-inputs-clause-answers g c =
    let held = c.split_at_mut-held_states in
    let held' = c.split_at_mut-held_arcs in
    let none = none_found _ _ c.at.result c.at.ensures.finds c.in_err-inputs.ensures.variant in
    inr (not_ready_held c.args.job c.args.states.now held.result.0.now c.args.arcs.now held'.result.0.now held.ensures.front held'.ensures.front c.requires.in_use none, search rules)

pub write-requires : goal.write-requires
write-requires g c =
    let both = found _ _ c.at.result _ c.in_ok-inputs.inputs c.at.ensures.finds c.in_ok-inputs.ensures.value in
    record { left_inside = subst Inside (sym both.1) both.0.0.inside; right_inside = subst Inside (sym both.2) both.0.1.inside }

pub returns-clause-answers : goal.returns-clause-answers
returns-clause-answers g c =
    let held = c.split_at_mut-held_states in
    let held' = c.split_at_mut-held_arcs in
    let inputs = c.in_ok-inputs.inputs in
    fits_behind g.A.Alphabet.labels g.O.Operation.builds c.args.job c.args.states.now held.result.0.now c.write.new.states c.args.arcs.now held'.result.0.now c.write.new.arcs inputs.left inputs.right c.write.result
    c.requires.in_use held.ensures.front held'.ensures.front (found _ _ c.at.result _ inputs c.at.ensures.finds c.in_ok-inputs.ensures.value) c.write.ensures.fits
