use Rattle.std.proofs.Common.{◌+◌, ◌-◌, ◌<◌, ◌≤◌, length}
use Rattle.words.specs.Layers.{layer, count, Upto}
use Rattle.words.specs.Machines.{automaton, SameMachine}
use Rattle.words.proofs.machine.Machine.layers.Given as goal

abbrev pub invariant-loop-top : goal.invariant-loop-top
invariant-loop-top g l = record {
  same : SameMachine l.fn.self l.self;
  upto : Upto g.A.Alphabet.labels (automaton l.fn.self) (length l.fn.self.states.now) (layer l.self.states.now) l.top;
  above : 0 < l.top;
  counted : l.top ≤ count (layer l.self.states.now) (length l.fn.self.states.now) + 1;
}

abbrev pub decreases-loop-top : goal.decreases-loop-top
decreases-loop-top g l = length l.fn.self.states.now + 1 - l.top
