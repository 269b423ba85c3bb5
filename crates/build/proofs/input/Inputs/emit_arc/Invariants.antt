use Rattle.std.proofs.Common.{◌≡◌, ℕ, ◌<◌, length}
use Rattle.automaton.specs.Automaton.{arc_at}
use Rattle.build.specs.Emitted.{PairsWritten}
use Rattle.build.specs.Tails.{SameRows}
use Rattle.build.proofs.input.Inputs.emit_arc.Given as goal

abbrev pub invariant-loop-right : goal.invariant-loop-right
invariant-loop-right g l =
    ((x : ℕ) → x < length l.self.left.arcs → arc_at g.A.Alphabet.labels l.self.left x ≡ l.left → PairsWritten g.A.Alphabet.labels l.self.left l.self.right l.pairs l.fn.out x 0 →
    PairsWritten g.A.Alphabet.labels l.self.left l.self.right l.pairs l.out x l.right-index) × SameRows l.fn.out l.out
