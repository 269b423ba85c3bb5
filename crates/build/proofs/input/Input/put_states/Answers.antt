use Rattle.std.proofs.Common.{◌++◌, map, ap, ◌∙◌, sym, take_all, arith}
use Rattle.build.specs.Concats.{kept_row}
use Rattle.build.specs.Tails.{written}
use Rattle.build.proofs.Joining.{map_map}
use Rattle.build.proofs.input.Input.put_states.Goals as goal

pub returns-clause-appends : goal.returns-clause-appends
returns-clause-appends g c =
    let rows = c.states-state-items.result.now in
    let keep = c.args.keep in
    let all = take_all c.loop-state.state-index rows (omega arith) in
    c.loop-state.invariant.rows ∙ ap (λ l. written c.args.out.now ++ l) (ap (map (λ s. kept_row keep s.marks)) all ∙ sym (map_map (λ s. s.marks) (kept_row keep) rows) ∙ ap (map (kept_row keep)) c.states-state-items.ensures.reads)
