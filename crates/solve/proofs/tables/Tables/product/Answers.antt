use Rattle.std.proofs.Common.{◌≡◌, Ok, rules, subst}
use Rattle.build.specs.Outcome.{Outcome}
use Rattle.build.specs.Pairs.{Ready}
use Rattle.build.specs.Pairs.{product_of}
use Rattle.solve.proofs.Going.{added, answered}
use Rattle.solve.proofs.tables.Tables.product.Goals as goal

pub returns-clause-adds : goal.returns-clause-adds
returns-clause-adds g c =
    let tables = c.args.self.now in
    let s = tables.states.now in
    let e = tables.arcs.now in
    let ready : Ready (record { used = tables.used; left = c.args.left; right = c.args.right }) s e = record { in_use = tables.in_use; left = c.requires.left_stands; right = c.requires.right_stands } in
    let is : c.product.result ≡ Ok c.in_ok-met.met = search rules in
    let built = subst (Outcome g.A.Alphabet.labels (product_of g.A.Alphabet.labels (record { used = tables.used; left = c.args.left; right = c.args.right }) s e) tables.used c.product.new.states c.product.new.arcs) is (answered c.product.ensures.answers ready) in
    record { answers = added c.end-self.ensures.ends built; states_kept = c.product.ensures.keeps_states; arcs_kept = c.product.ensures.keeps_arcs }
