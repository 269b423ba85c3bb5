use Rattle.std.proofs.Common.{◌≡◌, ◌+◌, Bool, List, length, map, get_or, set, sym, refl, ap, ◌∙◌, subst, subst₂, arith}
use lib.Seq.{map-set_same}
use Rattle.std.proofs.lemmas.List.{get_or-set_same, get_or-set_other}
use Rattle.std.proofs.lemmas.Bool.{both_ways}
use Rattle.automaton.specs.declared.State.{State}
use Rattle.automaton.specs.Automaton.{arc_at}
use Rattle.build.specs.Concats.{blank}
use Rattle.words.specs.Layers.{layer, Rises}
use Rattle.words.specs.Machines.{automaton}
use Rattle.words.proofs.Layers.{Rounding, rounding_none, rounding_pass, rounding_raise, rounding_end}
use Rattle.words.proofs.States.{arc_ends, is_arc_at}
use Rattle.words.proofs.machine.Machine.round.Goals as goal
use Rattle.words.proofs.machine.Machine.round.Goals.{then-rises, else-rises}

pub rises-requires : goal.rises-requires
rises-requires g c = let both = arc_ends _ _ _ c.loop-arc-test.true c.arc-item.is _ c.args.self.now.inside in record { begins_within = omega arith; ends_within = omega arith }

pub loop-arc-init : goal.loop-arc-init
loop-arc-init g c =
    let s = c.args.self.now in
    record { marks = refl; rounding = rounding_none g.A.Alphabet.labels (automaton s) (length s.states.now) s.inside (layer s.states.now) c.args.top c.requires.upto }

pub loop-arc-preserved : goal.loop-arc-preserved
loop-arc-preserved g c =
    let a = g.A.Alphabet.labels in
    let s = c.args.self.now in
    let m = automaton s in
    let n = length s.states.now in
    let f = layer s.states.now in
    let t = c.loop-arc.states in
    let k = c.loop-arc.arc-index in
    let top = c.args.top in
    let b = c.arc-item.result in
    let inv = c.loop-arc.invariant in
    let is : b ≡ arc_at a m k = is_arc_at s.arcs.now k b c.loop-arc-test.true c.arc-item.is a m refl in
    let both = arc_ends s.arcs.now k b c.loop-arc-test.true c.arc-item.is n s.inside in
    let next = λ (u : List State) (more : Bool). record { marks : map (λ s. s.marks) u ≡ map (λ s. s.marks) s.states.now; rounding : Rounding a m n f (layer u) top (k + 1) more } in
    elim c.if-rises.branch [
      | then-rises w ↦
          let x : State = record { marks = (get_or t b.from blank).marks; left = top + 1; right = (get_or t b.from blank).right } in
          let here : layer (set t b.from x) b.from ≡ top + 1 = ap (λ (s : State). s.left) (get_or-set_same t b.from x blank (omega (arith, both.0))) in
          subst₂ next (sym w.states-is) (sym w.more-is) (record {
            marks = map-set_same (λ (s : State). s.marks) t b.from x blank refl ∙ inv.marks;
            rounding = rounding_raise a m n s.inside f (layer t) (layer (set t b.from x)) top k c.loop-arc.more c.loop-arc-test.true c.requires.above inv.rounding (subst (Rises a (layer t) top) is (c.rises.ensures.decides.0 w.if-rises.true))
                (ap (λ (y : _). layer (set t b.from x) y) (sym (ap (λ (y : _). y.from) is)) ∙ here)
                (λ r other. ap (λ (s : State). s.left) (get_or-set_other t b.from r x blank (λ e. other (e ∙ ap (λ (y : _). y.from) is))));
          })
      | else-rises w ↦
          subst₂ next (sym w.states-is) (sym w.more-is) (record {
            marks = inv.marks;
            rounding = rounding_pass a m n s.inside f (layer t) top k c.loop-arc.more inv.rounding (λ r. both_ways _ w.if-rises.false (c.rises.ensures.decides.1 (subst (Rises a (layer t) top) (sym is) r)));
          })
    ]

pub offset_bounds-states-arc : goal.offset_bounds-states-arc
offset_bounds-states-arc g c = let both = arc_ends _ _ _ c.loop-arc-test.true c.arc-item.is _ c.args.self.now.inside in omega arith

pub bounds-states-arc : goal.bounds-states-arc
bounds-states-arc g c = let both = arc_ends _ _ _ c.loop-arc-test.true c.arc-item.is _ c.args.self.now.inside in omega arith

pub returns-clause-layers : goal.returns-clause-layers
returns-clause-layers g c =
    let s = c.args.self.now in
    rounding_end g.A.Alphabet.labels (automaton s) (length s.states.now) s.inside (layer s.states.now) (layer c.loop-arc.states) c.args.top c.loop-arc.arc-index c.loop-arc.more c.loop-arc-test.false c.requires.upto c.loop-arc.invariant.rounding
