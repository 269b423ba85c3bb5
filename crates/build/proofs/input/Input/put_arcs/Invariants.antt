use Rattle.std.proofs.Common.{◌≡◌, ◌++◌, map, take}
use Rattle.build.specs.Concats.{moved}
use Rattle.build.specs.Tails.{written, SameRows}
use Rattle.build.proofs.input.Input.put_arcs.Given as goal

abbrev pub invariant-loop-arc : goal.invariant-loop-arc
invariant-loop-arc g l = record {
  rows : written l.out ≡ written l.fn.out ++ map (moved l.offset) (take l.arc-index l.self.arcs);
  items : l.arc-items ≡ l.self.arcs;
  same : SameRows l.fn.out l.out;
}
