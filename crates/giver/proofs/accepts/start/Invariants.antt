use Rattle.std.proofs.Common.{◌≡◌, ℕ, ◌<◌, ◌≤◌, false, length, get_or}
use Rattle.automaton.specs.Automaton.{initial}
use Rattle.giver.proofs.accepts.start.Given as goal

abbrev pub invariant-loop-q : goal.invariant-loop-q
invariant-loop-q g l =
    (length l.set ≡ 256) × ((p : ℕ) → p < l.q → get_or l.set p false ≡ initial (g.G.Giver.automaton l.giver) p) × ((p : ℕ) → l.q ≤ p → get_or l.set p false ≡ false)
