use Rattle.std.proofs.Common.{◌<◌, get_or, length, subst}
use Rattle.std.proofs.ByRecursion.{has_get_or}
use Rattle.build.proofs.input.Input.arcs.Goals as goal

pub returns-clause-inside : goal.returns-clause-inside
returns-clause-inside g c k d low =
    let b = get_or c.self.inside.arcs.now k d in
    subst (λ m. (b.from < length m.states) × (b.to < length m.states)) c.self.view_is (c.self.invariant b (has_get_or c.self.inside.arcs.now k d low))
