use Rattle.std.proofs.Common.{sym, refl, ap, ◌∙◌, ⊎_elim, arith, below_more}
use Rattle.std.proofs.lemmas.List.{length-set, get_or-set_same, get_or-set_other}
use Rattle.std.proofs.lemmas.Bool.{cases_lt}
use Rattle.giver.proofs.Running.{none_marked, reached_start, initial_past}
use Rattle.giver.proofs.accepts.start.Goals as goal

pub loop-q-init : goal.loop-q-init
loop-q-init g c = (
  refl,
  λ p low. absurd (omega arith),
  λ p high. none_marked 256 p,
)

pub loop-q-preserved : goal.loop-q-preserved
loop-q-preserved g c =
    let inv = c.loop-q.invariant in
    let q = c.loop-q.q in
    let set = c.loop-q.set in (
      simp length-set inv.0,
      below_more _ _ (λ p low. get_or-set_other set q p _ _ (λ e. omega arith) ∙ inv.1 p low) (get_or-set_same set q _ _ (omega arith) ∙ ap (λ s. s.initial) c.marks.ensures.tells_marks),
      λ p high. get_or-set_other set q p _ _ (λ e. omega arith) ∙ inv.2 p (omega arith),
    )

pub returns : goal.returns
returns g c =
    let m = g.G.Giver.automaton c.args.giver.now in
    record {
      reaches = reached_start m c.loop-q.set c.loop-q.invariant.0
          (λ q. ⊎_elim (λ low. c.loop-q.invariant.1 q low) (λ high. c.loop-q.invariant.2 q high ∙ sym (initial_past m q (omega arith))) (cases_lt q c.loop-q.q));
    }
