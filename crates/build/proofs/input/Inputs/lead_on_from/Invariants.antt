use Rattle.std.proofs.Common.{◌≡◌, ◌++◌, map, filter, length}
use Rattle.std.specs.List.{range_with_len}
use Rattle.automaton.specs.Automaton.{initial}
use Rattle.build.specs.Concats.{led_to}
use Rattle.build.specs.Tails.{written, SameRows}
use Rattle.build.proofs.input.Inputs.lead_on_from.Given as goal

abbrev pub invariant-loop-q : goal.invariant-loop-q
invariant-loop-q g l = record {
  rows : written l.out ≡ written l.fn.out ++ led_to (length l.self.left.states) (filter (initial l.self.right) (range_with_len 0 l.q)) l.arc;
  offset : l.offset ≡ length l.self.left.states;
  states : map (λ s. s.marks) l.state-items ≡ l.self.right.states;
  same : SameRows l.fn.out l.out;
}
