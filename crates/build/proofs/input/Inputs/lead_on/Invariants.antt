use Rattle.std.proofs.Common.{◌≡◌, ◌++◌, filter, flat_map, take, length}
use Rattle.automaton.specs.Automaton.{accepting}
use Rattle.build.specs.Concats.{led_to, begun}
use Rattle.build.specs.Tails.{written, SameRows}
use Rattle.build.proofs.input.Inputs.lead_on.Given as goal

abbrev pub invariant-loop-arc : goal.invariant-loop-arc
invariant-loop-arc g l = record {
  rows : written l.out ≡ written l.fn.out ++ flat_map (led_to (length l.self.left.states) (begun l.self.right)) (filter (λ b. accepting l.self.left b.to) (take l.arc-index l.self.left.arcs));
  items : l.arc-items ≡ l.self.left.arcs;
  same : SameRows l.fn.out l.out;
}
