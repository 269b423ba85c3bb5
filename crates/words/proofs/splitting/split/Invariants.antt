use Rattle.std.proofs.Common.{ℕ, ◌<◌, ◌≤◌}
use Rattle.words.specs.Splitting.{SplitsAt}
use Rattle.words.specs.Words.{Renumbered}
use Rattle.words.proofs.splitting.split.Given as goal

abbrev pub invariant-loop-i : goal.invariant-loop-i
invariant-loop-i g l =
    ((n : ℕ) → n ≤ l.left.first.states → n ≤ l.right.first.states → Renumbered n l.initial.states l.states)
    × ((j : ℕ) → j < l.i → SplitsAt g.A.Alphabet.labels.admits l.initial.states l.arcs l.used l.left l.right l.word j → ⊥)
