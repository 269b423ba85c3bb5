use Rattle.std.proofs.Common.{◌≡◌, ◌+◌, ◌<◌, length}
use Rattle.automaton.specs.Automaton.{Walk}
use Rattle.build.specs.Tables.{part}
use Rattle.words.specs.Layers.{layer}
use Rattle.words.specs.Shortest.{Wrote}
use Rattle.words.proofs.machine.Machine.spell.Given as goal

abbrev pub invariant-loop-i : goal.invariant-loop-i
invariant-loop-i g l = record {
  low : l.q < length l.self.states.now;
  above : layer l.self.states.now l.q + l.i ≡ l.letters + 1;
  walk : Walk g.A.Alphabet.labels.admits l.self.arcs.now l.first (part l.words l.to l.i) l.q;
  wrote : Wrote l.to l.i l.initial.words l.words;
}
