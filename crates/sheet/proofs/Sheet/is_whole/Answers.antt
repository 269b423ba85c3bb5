use Rattle.std.proofs.Common.{arith, rules, tests}
use Rattle.std.proofs.lemmas.Iterator.{cases_from_all, YieldsList-from_slice}
use Rattle.sheet.proofs.Holding.{StandsHeld, LostHeld, whole_decides}
use Rattle.sheet.proofs.Sheet.is_whole.Goals as goal

pub returns-then-rows-arcs : goal.returns-then-rows-arcs
returns-then-rows-arcs g c =
    let s = c.args.self.now in
    let states = c.args.states.now in
    let arcs = c.args.arcs.now in
    let hs = s.patterns.items in
    let cases = cases_from_all _ _ c.all.result (StandsHeld states arcs s.held hs) (LostHeld states arcs s.held hs) c.all.ensures.ran (YieldsList-from_slice hs cc) (λ x q k. search (rules, tests)) (λ x q k. search (rules, tests)) in
    record { decides = whole_decides states arcs s.held hs c.all.result s.few_states s.few_arcs (omega arith) (omega arith) s.among cases }
