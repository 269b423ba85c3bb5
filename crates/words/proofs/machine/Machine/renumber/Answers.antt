use Rattle.std.proofs.Common.{◌≡◌, ℕ, set, sym, refl, ◌∙◌, subst, arith, below_more}
use Rattle.std.proofs.lemmas.List.{get_or-set_same, get_or-set_other}
use lib.Seq.{map-set_same}
use Rattle.automaton.specs.declared.State.{State}
use Rattle.build.specs.Concats.{blank}
use Rattle.words.specs.States.{row}
use Rattle.words.proofs.machine.Machine.renumber.Goals as goal

pub loop-q-preserved : goal.loop-q-preserved
loop-q-preserved g c =
    let q = c.loop-q.q in
    let states = c.loop-q.states in
    let inv = c.loop-q.invariant in
    let x : State = record { marks = (row states q).marks; left = c.number-left.result.0; right = c.number-left.result.1 } in
    let here : row (set states q x) q ≡ x = get_or-set_same states q x blank (omega arith) in
    let other : (k : ℕ) → (k ≡ q → ⊥) → row (set states q x) k ≡ row states k = λ k ne. get_or-set_other states q k x blank ne in
    let become : State → State → Type 0 = λ s t. goal.F-post g c.args.number s (t.left, t.right) in
    record {
      marks = map-set_same (λ (s : State). s.marks) states q x blank refl ∙ inv.marks;
      done = below_more (λ k. become (row c.args.self.now.states.now k) (row (set states q x) k)) q (λ k low. subst (become (row c.args.self.now.states.now k)) (sym (other k (λ e. omega arith))) (inv.done k low))
          (subst (λ s. become s (row (set states q x) q)) (inv.rest q (omega arith)) (subst (become (row states q)) (sym here) c.number-left.ensures));
      rest = λ k above. other k (λ e. omega arith) ∙ inv.rest k (omega arith);
    }
