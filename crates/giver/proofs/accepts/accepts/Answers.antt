use Rattle.std.proofs.Common.{sym, subst}
use Rattle.std.proofs.lemmas.List.{take_more}
use Rattle.giver.specs.Run.{Reached}
use Rattle.giver.proofs.Running.{reached_step}
use Rattle.giver.proofs.accepts.accepts.Goals as goal

pub loop-letter-preserved : goal.loop-letter-preserved
loop-letter-preserved g c =
    let m = g.G.Giver.automaton c.args.giver.now in
    subst (λ w. Reached g.A.Alphabet.labels.admits m w c.step-set.result) (sym (take_more c.args.word.now c.loop-letter.letter-index 0 c.loop-letter-test.true))
    (reached_step m _ _ c.loop-letter.set _ c.loop-letter.invariant c.step-set.ensures.steps)
