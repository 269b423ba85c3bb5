use Rattle.std.proofs.Common.{◌≡◌, ◌++◌, length, map, ap, ◌∙◌, subst}
use Rattle.build.specs.Concats.{moved, led_on}
use Rattle.build.specs.Tails.{written}
use Rattle.build.proofs.Joining.{appended_then, moved_none}
use Rattle.build.proofs.input.Inputs.put_arcs.Goals as goal

pub returns-clause-appends : goal.returns-clause-appends
returns-clause-appends g c =
    let m = c.args.self.now.left in
    let k = c.args.self.now.right in
    let out = c.args.out.now in
    let first = c.put_arcs.new.out in
    let second = c.put_arcs-2.new.out in
    let copied : written first ≡ written out ++ m.arcs = c.in_ok-put_arcs.ensures.appends ∙ ap (λ l. written out ++ l) (moved_none m.arcs) in
    let both : written second ≡ written first ++ map (moved (length m.states)) k.arcs = subst (λ n. written second ≡ written first ++ map (moved n) k.arcs) c.state_count.ensures.counts c.in_ok-put_arcs-2.ensures.appends in
    appended_then out first c.lead_on.new.out m.arcs _ c.lead_on.result copied c.put_arcs.ensures.same_rows
    (appended_then first second c.lead_on.new.out _ (led_on m k) c.lead_on.result both c.put_arcs-2.ensures.same_rows c.lead_on.ensures.appends)
