use Rattle.std.proofs.Common.{◌≡◌, ◌++◌, IfOk, string_bytes, codes, decimal, subst}
use Rattle.gauges.proofs.solving.refused_line.Goals as goal

pub returns : goal.returns
returns c = record { says = subst (λ n. IfOk c.format.result (λ s. string_bytes s ≡ c.args.station.now ++ (codes " sheet: refused " ++ (decimal n ++ codes "\n")))) c.number-number.ensures.is_number c.format.ensures.ok }
