use Rattle.build.specs.Pairs.{left_of, right_of, product_of}
use Rattle.build.proofs.Producing.{built_product_exact}
use Rattle.build.proofs.Standing.{meant}
use Rattle.build.proofs.product.product.Goals as goal

pub returns-clause-accepts_what_both_accept : goal.returns-clause-accepts_what_both_accept
returns-clause-accepts_what_both_accept g c =
    let a = g.A.Alphabet.labels in
    let job = c.args.job in
    let s = c.args.states.now in
    let u = c.args.arcs.now in
    meant _ a (product_of a job s u) job.used _ _ _ _ c.build.ensures.answers (built_product_exact a g.met.A.Alphabet.lawful (left_of job s u) (right_of job s u) job.used _ _)
