use Rattle.std.proofs.Common.{◌≡◌, rules, tests}
use Rattle.std.proofs.lemmas.Iterator.{IsFirst-from_position, YieldsList-from_slice}
use Rattle.build.proofs.Exploring.{find_pair}
use Rattle.build.proofs.pairs.find.Goals as goal

pub returns : goal.returns
returns c =
    record {
      finds = find_pair c.args.rows.now c.args.p c.args.q c.position.result
          (IsFirst-from_position _ _ _ (λ s. (s.left ≡ c.args.p) × (s.right ≡ c.args.q)) (λ s. s.left ≡ c.args.p → s.right ≡ c.args.q → ⊥) c.position.ensures.ran (YieldsList-from_slice c.args.rows.now cc) (λ x q k. search (rules, tests)) (λ x q k. search (rules, tests)));
    }
