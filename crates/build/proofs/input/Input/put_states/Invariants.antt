use Rattle.std.proofs.Common.{◌≡◌, ◌++◌, map, take}
use Rattle.build.specs.Concats.{kept_row}
use Rattle.build.specs.Tails.{written, SameRows}
use Rattle.build.proofs.input.Input.put_states.Given as goal

abbrev pub invariant-loop-state : goal.invariant-loop-state
invariant-loop-state g l = record {
  rows : written l.out ≡ written l.fn.out ++ map (λ s. kept_row l.keep s.marks) (take l.state-index l.state-items);
  items : map (λ s. s.marks) l.state-items ≡ l.self.states;
  same : SameRows l.fn.out l.out;
}
