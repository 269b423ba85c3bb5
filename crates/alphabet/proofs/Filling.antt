-- What an array holds that a closure filled.
use Rattle.std.proofs.Common.{◌≡◌, ℕ, zero, suc, ◌+◌, ◌<◌, ◌≤◌, List, get_or, map, sym, subst, ◌∙◌, ⊎_elim, arith}
use Rattle.std.specs.List.{range_with_len}
use Rattle.std.specs.Array.{IsFromFnResultFrom, IsFromFnResult}
use Rattle.std.proofs.lemmas.List.FromFn.{fill_by_all}
use Rattle.std.proofs.lemmas.Bool.{cases_eq}
use denote.Param.Members.{Mut, Called}

-- a closure that keeps its captures, and answers s k at each index k
module _ {F B : Type 0} (g : Mut F (ℕ × Unit {0}) B) (Kept : F → Type 0) (s : ℕ → B) (n : ℕ)
    (call : (p q : F) (k : ℕ) (b : B) → k < n → Kept p → Called g p (k, tt) b q → (b ≡ s k) × Kept q) (d : B) where
  filled_from : (m i : ℕ) (f : F) (xs : List B) → i + m ≤ n → Kept f → IsFromFnResultFrom g f xs i m → (k : ℕ) → i ≤ k → k < i + m → get_or xs k d ≡ s k
  filled_from zero i f xs fits kept filled k low high = absurd (omega arith)
  filled_from (suc m) i f xs fits kept filled k low high =
      let there = call f filled.0 i filled.1 (omega arith) kept filled.3 in
      ⊎_elim (λ same. subst (λ k. get_or xs k d ≡ s k) (sym same) (filled.2.1 d ∙ there.0))
      (λ other. filled_from m (i + 1) filled.0 xs (omega arith) there.1 filled.4 k (omega arith) (omega arith))
      (cases_eq k i)

  pub filled_at : (f : F) (xs : List B) → Kept f → IsFromFnResult g f xs n → (k : ℕ) → k < n → get_or xs k d ≡ s k
  filled_at f xs kept filled k low = filled_from n 0 f xs (omega arith) kept filled.each k (omega arith) (omega arith)

  pub filled : (f : F) (xs : List B) → Kept f → IsFromFnResult g f xs n → xs ≡ map s (range_with_len 0 n)
  filled f xs kept all = fill_by_all s xs n d all.long (filled_at f xs kept all)
