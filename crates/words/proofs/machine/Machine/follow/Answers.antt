use Rattle.std.proofs.Common.{◌≡◌, ◌+◌, ◌<◌, List, length, map, sym, refl, ◌∙◌, subst, arith}
use lib.Seq.{map-set_same}
use Rattle.std.proofs.lemmas.Bool.{both_ways}
use Rattle.automaton.specs.declared.State.{State}
use Rattle.automaton.specs.Automaton.{arc_at}
use Rattle.build.specs.Concats.{blank}
use Rattle.words.specs.Machines.{automaton}
use Rattle.words.specs.Membership.{Followed}
use Rattle.words.proofs.Memberships.{followed_pass, followed_enter}
use Rattle.words.proofs.States.{arc_ends, is_arc_at}
use Rattle.words.proofs.machine.Machine.follow.Goals as goal
use Rattle.words.proofs.machine.Machine.follow.Goals.{then-states-arc-eq1+then-admits, else-states-arc-eq1, else-states-arc-eq1-via-then-states-arc-eq1+else-admits, else-states-arc-eq1-via-else-states-arc-eq1}

pub offset_bounds-states-arc : goal.offset_bounds-states-arc
offset_bounds-states-arc g c = let both = arc_ends _ _ _ c.loop-arc-test.true c.arc-item.is _ c.args.self.now.inside in omega arith

pub bounds-states-arc : goal.bounds-states-arc
bounds-states-arc g c = let both = arc_ends _ _ _ c.loop-arc-test.true c.arc-item.is _ c.args.self.now.inside in omega arith

pub offset_bounds-states-arc-then-admits : goal.offset_bounds-states-arc-then-admits
offset_bounds-states-arc-then-admits g c = let both = arc_ends _ _ _ c.loop-arc-test.true c.arc-item.is _ c.args.self.now.inside in omega arith

pub bounds-states-arc-then-admits : goal.bounds-states-arc-then-admits
bounds-states-arc-then-admits g c = let both = arc_ends _ _ _ c.loop-arc-test.true c.arc-item.is _ c.args.self.now.inside in omega arith

pub loop-arc-preserved : goal.loop-arc-preserved
loop-arc-preserved g c =
    let a = g.A.Alphabet.labels in
    let old = c.args.self.now.states.now in
    let m = automaton c.args.self.now in
    let states = c.loop-arc.states in
    let k = c.loop-arc.arc-index in
    let b = c.arc-item.result in
    let inv = c.loop-arc.invariant in
    let is : b ≡ arc_at a m k = is_arc_at c.args.self.now.arcs.now k b c.loop-arc-test.true c.arc-item.is a m refl in
    let to : b.to < length states = omega (arith, (arc_ends _ _ _ c.loop-arc-test.true c.arc-item.is _ c.args.self.now.inside).1) in
    let next = λ (after : List State). record { marks : map (λ s. s.marks) after ≡ map (λ s. s.marks) old; followed : Followed a m c.args.letter (k + 1) old after } in
    let pass = followed_pass a m c.args.letter k old states b is inv.followed in
    elim c.if-states-arc-eq1.branch [
      | then-states-arc-eq1+then-admits w ↦
          subst next (sym w.states-is) (record {
            marks = map-set_same (λ (s : State). s.marks) states b.to _ blank refl ∙ inv.marks;
            followed = followed_enter a m c.args.letter k old states b is inv.followed to (sym (inv.followed.set b.from) ∙ w.if-states-arc-eq1.true) (sym w.if-admits.ensures.in_set);
          })
      | else-states-arc-eq1 w ↦
          subst next (sym w.states-is) (record {
            marks = inv.marks;
            followed = elim w.else-states-arc-eq1.branch [
              | else-states-arc-eq1-via-then-states-arc-eq1+else-admits v ↦ pass (λ _ yes'. both_ways (a.admits b.label c.args.letter) (sym v.if-admits.ensures.in_set) yes')
              | else-states-arc-eq1-via-else-states-arc-eq1 v ↦ pass (λ from _. v.if-states-arc-eq1.false (inv.followed.set b.from ∙ from))
            ];
          })
    ]
