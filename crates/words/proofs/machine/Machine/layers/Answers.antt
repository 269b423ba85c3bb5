use Rattle.std.proofs.Common.{ℕ, ◌+◌, ◌-◌, ◌<◌, length, sym, subst, subst₂, arith}
use Rattle.std.proofs.lemmas.List.{length-map}
use Rattle.automaton.specs.declared.State.{State}
use Rattle.automaton.specs.Automaton.{Automaton}
use Rattle.words.specs.Layers.{layer, count, Upto, Complete}
use Rattle.words.specs.Machines.{automaton}
use Rattle.words.proofs.Layers.{count_low, begun_upto}
use Rattle.words.proofs.Machines.{same_more, same_automaton, same_back}
use Rattle.words.proofs.States.{length_marks}
use Rattle.words.proofs.machine.Machine.layers.Goals as goal

pub loop-top-init : goal.loop-top-init
loop-top-init g c =
    let s = c.args.self.now in
    record {
      same = c.begin_layers.ensures.same;
      upto = begun_upto g.A.Alphabet.labels (automaton s) (length s.states.now) (layer c.begin_layers.new.self.states.now) (length-map s.states.now (λ (x : State). x.marks)) c.begin_layers.ensures.begins;
      above = omega arith;
      counted = omega arith;
    }

pub round-requires-clause-upto : goal.round-requires-clause-upto
round-requires-clause-upto g c =
    let t = c.loop-top.self in
    let inv = c.loop-top.invariant in
    subst₂ (λ (m : Automaton g.row.L.Denot) (n : ℕ). Upto g.A.Alphabet.labels m n (layer t.states.now) c.loop-top.top) (sym (same_automaton c.args.self.now t inv.same)) (sym (length_marks c.args.self.now.states.now t.states.now inv.same.marks)) inv.upto

pub round-requires-clause-low : goal.round-requires-clause-low
round-requires-clause-low g c =
    let t = c.loop-top.self.states.now in
    let s = c.args.self.now.states.now in
    let inv = c.loop-top.invariant in
    omega (arith, inv.counted, count_low (layer t) (length s), length_marks s t inv.same.marks)

pub overflow_add-top : goal.overflow_add-top
overflow_add-top g c =
    let t = c.loop-top.self.states.now in
    let s = c.args.self.now.states.now in
    let inv = c.loop-top.invariant in
    omega (arith, inv.counted, count_low (layer t) (length s), length_marks s t inv.same.marks)

pub loop-top-smaller : goal.loop-top-smaller
loop-top-smaller g c =
    let n = length c.args.self.now.states.now in
    let top = c.loop-top.top in
    let same = length_marks c.args.self.now.states.now c.loop-top.self.states.now c.loop-top.invariant.same.marks in
    let f = layer c.loop-top.self.states.now in
    let f' = layer c.round.new.self.states.now in
    let rose : count f n < count f' n = subst (λ k. count f k < count f' k) same c.loop-top-test.ensures.layers.1 in
    let less : n + 1 - (top + 1) < n + 1 - top = omega (arith, c.loop-top.invariant.counted, rose, count_low f' n) in
    less

pub loop-top-preserved : goal.loop-top-preserved
loop-top-preserved g c =
    let s = c.args.self.now in
    let t = c.loop-top.self in
    let u = c.round.new.self in
    let f = layer t.states.now in
    let f' = layer u.states.now in
    let inv = c.loop-top.invariant in
    let layers = c.loop-top-test.ensures.layers in
    let rose = subst (λ k. count f k < count f' k) (length_marks s.states.now t.states.now inv.same.marks) layers.1 in
    record {
      same = same_more s t u inv.same c.round.ensures.same;
      upto = same_back s t inv.same (λ m n. Upto g.A.Alphabet.labels m n f' (c.loop-top.top + 1)) layers.0;
      above = omega arith;
      counted = omega (arith, inv.counted, rose);
    }

pub returns-clause-completes : goal.returns-clause-completes
returns-clause-completes g c = same_back c.args.self.now c.loop-top.self c.loop-top.invariant.same (λ m n. Complete g.A.Alphabet.labels m n (layer c.round.new.self.states.now)) c.loop-top-test.ensures.layers

pub returns-clause-same : goal.returns-clause-same
returns-clause-same g c = same_more c.args.self.now c.loop-top.self c.round.new.self c.loop-top.invariant.same c.round.ensures.same
