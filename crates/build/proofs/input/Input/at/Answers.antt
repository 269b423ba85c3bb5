use Rattle.std.proofs.Common.{rules, sym, subst}
use Rattle.automaton.specs.Automaton.{Inside, of_rows}
use Rattle.build.proofs.Inputs.{inside_rows}
use Rattle.build.proofs.input.Input.at.Goals as goal

pub invariant_of-result : goal.invariant_of-result
invariant_of-result g c = (inside_rows c.in_ok-states.states.now c.in_ok-arcs.arcs.now).0 (c.lead_inside.ensures.decides.0 c.if-lead_inside.true)

pub returns-then-lead_inside : goal.returns-then-lead_inside
returns-then-lead_inside g c =
    let states = c.in_ok-states.ensures.finds in
    let arcs = c.in_ok-arcs.ensures.finds in
    let inside = (inside_rows c.in_ok-states.states.now c.in_ok-arcs.arcs.now).0 (c.lead_inside.ensures.decides.0 c.if-lead_inside.true) in
    record {
      finds = (
        record { lies = record { states = states.0; arcs = arcs.0 }; inside = subst Inside (λ i. of_rows (states.1 i) (arcs.1 i)) inside },
        λ i. of_rows (states.1 i) (arcs.1 i),
      );
    }

pub returns-else-lead_inside : goal.returns-else-lead_inside
returns-else-lead_inside g c =
    let states = c.in_ok-states.ensures.finds in
    let arcs = c.in_ok-arcs.ensures.finds in
    record {
      finds = λ stands. let inside = c.lead_inside.ensures.decides.1 ((inside_rows c.in_ok-states.states.now c.in_ok-arcs.arcs.now).1 (subst Inside (sym (λ i. of_rows (states.1 i) (arcs.1 i))) stands.inside)) in
          search rules;
    }
