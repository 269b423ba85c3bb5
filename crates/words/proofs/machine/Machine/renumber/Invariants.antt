use Rattle.std.proofs.Common.{◌≡◌, ℕ, ◌<◌, ◌≤◌, map}
use Rattle.words.specs.States.{row}
use Rattle.words.proofs.machine.Machine.renumber.Given as goal

abbrev pub invariant-loop-q : goal.invariant-loop-q
invariant-loop-q g l = record {
  marks : map (λ s. s.marks) l.states ≡ map (λ s. s.marks) l.initial.states;
  done : (k : ℕ) → k < l.q → goal.F-post g l.number (row l.initial.states k) ((row l.states k).left, (row l.states k).right);
  rest : (k : ℕ) → l.q ≤ k → row l.states k ≡ row l.initial.states k;
}
