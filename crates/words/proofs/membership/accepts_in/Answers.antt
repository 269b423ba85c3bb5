use Rattle.std.proofs.Common.{sym}
use Rattle.automaton.specs.Automaton.{of_rows}
use Rattle.words.proofs.Memberships.{reached_accepts}
use Rattle.words.proofs.membership.accepts_in.Goals as goal

pub returns-clause-decides : goal.returns-clause-decides
returns-clause-decides g c =
    reached_accepts g.A.Alphabet.labels (of_rows c.args.states.now c.args.arcs.now) c.run.new.self.states.now c.args.word.now c.some_accepts.result (sym c.run.ensures.same.marks) c.run.ensures.reaches c.some_accepts.ensures.decides
