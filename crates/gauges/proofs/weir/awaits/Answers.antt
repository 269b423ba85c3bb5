use Rattle.std.proofs.Common.{Decides, subst}
use Rattle.std.proofs.lemmas.Bool.Decides.{Decides-like}
use Rattle.automaton.specs.Automaton.{of_rows, Accepts}
use Rattle.alphabet.specs.Modem.{modem}
use Rattle.giver.specs.Told.{Sound}
use Rattle.gauges.proofs.Wait.{exact, sound}
use Rattle.gauges.proofs.weir.awaits.Goals as goal

pub returns : goal.returns
returns c =
    let w = c.args.reply.now in
    let told = subst (λ m. Sound m → Decides c.takes.result (Accepts modem.admits m w)) (λ i. of_rows (c.wait_states.ensures.rows i) (c.wait_arcs.ensures.rows i)) c.takes.ensures.decides sound in
    record { decides = Decides-like _ (exact w).0 (exact w).1 told }
