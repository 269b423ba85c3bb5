use Rattle.build.specs.Concats.{concat_of}
use Rattle.build.specs.Pairs.{left_of, right_of}
use Rattle.build.proofs.Concatenating.{built_concat_exact, built_concat_sizes}
use Rattle.build.proofs.Standing.{meant}
use Rattle.build.proofs.concat.concat.Goals as goal

pub returns-clause-accepts_in_turn : goal.returns-clause-accepts_in_turn
returns-clause-accepts_in_turn g c =
    let a = g.A.Alphabet.labels in
    let job = c.args.job in
    let s = c.args.states.now in
    let u = c.args.arcs.now in
    meant _ a (concat_of a job s u) job.used _ _ _ _ c.build.ensures.answers (built_concat_exact a (left_of job s u) (right_of job s u) job.used _ _)

pub returns-clause-sizes : goal.returns-clause-sizes
returns-clause-sizes g c =
    let a = g.A.Alphabet.labels in
    let job = c.args.job in
    let s = c.args.states.now in
    let u = c.args.arcs.now in
    meant _ a (concat_of a job s u) job.used _ _ _ _ c.build.ensures.answers (built_concat_sizes a (left_of job s u) (right_of job s u) job.used _ _)
