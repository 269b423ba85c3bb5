use Rattle.giver.proofs.Running.{Sofar}
use Rattle.giver.proofs.accepts.step.Given as goal

abbrev pub invariant-loop-k : goal.invariant-loop-k
invariant-loop-k g l = Sofar g.A.Alphabet.labels (g.G.Giver.automaton l.giver) l.before l.letter l.k l.after
