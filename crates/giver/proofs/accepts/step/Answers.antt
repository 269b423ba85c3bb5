use Rattle.std.proofs.Common.{◌≡◌, ◌+◌, ◌<◌, length, sym, subst, arith}
use Rattle.std.proofs.lemmas.Bool.{both_ways}
use Rattle.automaton.specs.declared.Arc.{Arc}
use Rattle.giver.proofs.Running.{arc_has, Sofar, sofar_none, sofar_mark, sofar_pass, stepped_all}
use Rattle.giver.proofs.accepts.step.Given as given
use Rattle.giver.proofs.accepts.step.Goals as goal
use Rattle.giver.proofs.accepts.step.Goals.{After-arc-arc, then-before-arc+then-admits, else-before-arc, else-before-arc-via-then-before-arc+else-admits, else-before-arc-via-else-before-arc}

-- the arc that was told leads inside
ends : (g : given.Over) (c : After-arc-arc g) → (c.arc-arc.result.from < 256) × (c.arc-arc.result.to < 256)
ends g c =
    let m = g.G.Giver.automaton c.args.giver.now in
    let both = c.requires.1 _ (arc_has g.A.Alphabet.labels m c.loop-k.k (omega arith)) in
    subst (λ (b : Arc g.row.A-Label.Denot). (b.from < 256) × (b.to < 256)) (sym c.arc-arc.ensures.tells_arc) (omega (arith, both.0, c.requires.0.0), omega (arith, both.1, c.requires.0.0))

pub bounds-before-arc : goal.bounds-before-arc
bounds-before-arc g c = (ends g (goal.at.bounds-before-arc g c).After-arc-arc).0

pub bounds-after-arc : goal.bounds-after-arc
bounds-after-arc g c = (ends g (goal.at.bounds-after-arc g c).After-arc-arc).1

pub loop-k-init : goal.loop-k-init
loop-k-init g c = sofar_none g.A.Alphabet.labels (g.G.Giver.automaton c.args.giver.now) c.args.before.now c.args.letter

pub loop-k-preserved : goal.loop-k-preserved
loop-k-preserved g c =
    let a = g.A.Alphabet.labels in
    let m = g.G.Giver.automaton c.args.giver.now in
    let next = Sofar a m c.args.before.now c.args.letter (c.loop-k.k + 1) in
    let pass = sofar_pass a m c.args.before.now c.loop-k.after c.args.letter c.loop-k.k c.arc-arc.result c.arc-arc.ensures.tells_arc c.loop-k.invariant in
    elim c.if-before-arc.branch [
      | then-before-arc+then-admits w ↦
          subst next (sym w.after-is)
          (sofar_mark a m _ _ _ _ _ c.arc-arc.ensures.tells_arc c.loop-k.invariant (ends g (goal.at.loop-k-preserved g c).After-arc-arc).1 w.if-before-arc.true (sym w.if-admits.ensures.in_set))
      | else-before-arc w ↦
          subst next (sym w.after-is)
          (elim w.else-before-arc.branch [
            | else-before-arc-via-then-before-arc+else-admits v ↦ pass (λ _ yes'. both_ways _ (sym v.if-admits.ensures.in_set) yes')
            | else-before-arc-via-else-before-arc v ↦ pass (λ from _. both_ways _ v.if-before-arc.false from)
          ])
    ]

pub returns : goal.returns
returns g c =
    let m = g.G.Giver.automaton c.args.giver.now in
    let all : c.loop-k.k ≡ length m.arcs = omega arith in
    record { steps = stepped_all g.A.Alphabet.labels m c.args.before.now c.loop-k.after c.args.letter (subst (λ k. Sofar g.A.Alphabet.labels m c.args.before.now c.args.letter k c.loop-k.after) all c.loop-k.invariant) }
