use Rattle.std.proofs.Common.{◌≡◌, ℕ, ◌<◌, true, length, MatchOption}
use Rattle.automaton.specs.Automaton.{initial}
use Rattle.words.specs.Layers.{layer, Start}
use Rattle.words.specs.Machines.{automaton}
use Rattle.words.proofs.machine.Machine.start.Given as goal

abbrev pub invariant-loop-q : goal.invariant-loop-q
invariant-loop-q g l =
    MatchOption l.best ((r : ℕ) → r < l.q → initial (automaton l.self) r ≡ true → layer l.self.states.now r ≡ 0)
    (Start (automaton l.self) (length l.self.states.now) (layer l.self.states.now))
