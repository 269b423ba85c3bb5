use Rattle.std.proofs.Common.{refl, inl, inr, arith, rules}
use Rattle.std.proofs.lemmas.Bool.Decides.{not_from_Decides}
use Rattle.sheet.specs.Joins.{Closes}
use Rattle.sheet.proofs.Circles.{circle, no_circle, known_and}
use Rattle.sheet.proofs.Sheet.join.Goals as goal

pub closes-requires-clause-known : goal.closes-requires-clause-known
closes-requires-clause-known c = rw c.deref.ensures.0 (λ j has. let k = c.args.self.now.known j has in let few = c.args.self.now.few_parts in (omega (arith, k.0), omega (arith, k.1), omega (arith, k.2)))

pub returns-then-closes : goal.returns-then-closes
returns-then-closes c =
    let joins = c.args.self.now.joins.items in
    let j = c.args.join in
    let closed : Closes joins j.left j.right j.whole = rw (← c.deref.ensures.0) (c.closes.ensures.decides.0 c.if-closes.true) in
    record {
      answers = (inr ((omega arith, omega arith, omega arith), inr (search rules, inl (refl, circle joins j closed))), refl);
    }

pub invariant_of-self-clause-known : goal.invariant_of-self-clause-known
invariant_of-self-clause-known c = rw c.push.ensures.items (known_and c.args.self.now.joins.items c.args.join c.args.self.now.parts c.args.self.now.known (omega arith) (omega arith) (omega arith))

pub invariant_of-self-clause-acyclic : goal.invariant_of-self-clause-acyclic
invariant_of-self-clause-acyclic c = rw c.push.ensures.items (no_circle c.args.self.now.joins.items c.args.join c.args.self.now.acyclic (rw (← c.deref.ensures.0) (not_from_Decides c.closes.result c.closes.ensures.decides c.if-closes.false)))
