use Rattle.std.proofs.Common.{arith, rules, length}
use Rattle.std.proofs.lemmas.Iterator.{cases_from_all, YieldsList-from_range}
use borrow.Author.Tests.{tests}
use Rattle.giver.proofs.Running.{inside_told, ArcInside}
use Rattle.giver.proofs.accepts.leads_inside.Goals as goal

pub returns : goal.returns
returns g c =
    let a = g.A.Alphabet.labels in
    let m = g.G.Giver.automaton c.args.giver.now in
    let n = length m.arcs in
    record {
      decides = inside_told a m c.all.result
          (cases_from_all _ _ _ (ArcInside a m) (λ k. ArcInside a m k → ⊥) c.all.ensures.ran (YieldsList-from_range 0 n n (search rules) (omega arith)) (λ k q called. search (rules, tests)) (λ k q called. search (rules, tests)));
    }
