use Rattle.std.proofs.Common.{ℕ, ◌<◌, ◌≤◌, Some, None, Option, MatchOption, rules, tests, arith}
use Rattle.std.proofs.lemmas.Iterator.{first_from_Range}
use Rattle.solve.specs.Parts.{Open}
use Rattle.solve.proofs.parts.next.Goals as goal

-- the least number from 0 on
least : (P : ℕ → Type 0) (n : ℕ) (r : Option ℕ) → MatchOption r ((k : ℕ) → 0 ≤ k → k < n → P k → ⊥) (λ i. (0 ≤ i) × (i < n) × P i × ((k : ℕ) → 0 ≤ k → k < i → P k → ⊥)) →
    MatchOption r ((k : ℕ) → k < n → P k → ⊥) (λ i. (i < n) × P i × ((k : ℕ) → k < i → P k → ⊥))
least P n None none = λ k. none k (omega arith)
least P n (Some i) (_, low, is, none) = (low, is, λ k. none k (omega arith))

pub returns : goal.returns
returns c =
    let open' = Open c.args.joins.now c.args.finished.now in
    let first = first_from_Range _ _ _ c.find.result open' (λ p. open' p → ⊥) c.find.ensures.ran (λ x q k. search (rules, tests)) (λ x q k. search (rules, tests)) in
    record { finds = least open' c.args.parts c.find.result first }
