-- Letters that are written one by one.
use Rattle.std.proofs.Common.{◌≡◌, ℕ, ◌+◌, ◌-◌, ◌<◌, List, drop, set, sym, refl, ap, ◌∙◌, arith}
use Rattle.std.proofs.lemmas.List.{length-set, take-set-le, drop-set-lt, drop-drop}
use Rattle.alphabet.specs.Labels.{Labels}
use Rattle.automaton.specs.Automaton.{Automaton}
use Rattle.words.specs.Layers.{Layered, Start}
use Rattle.words.specs.Shortest.{Wrote}
use Rattle.words.proofs.Layers.{count_low}

pub wrote_none : (at : ℕ) (xs : List ℕ) → Wrote at 0 xs xs
wrote_none at xs = record { long = refl; front = refl; back = refl }

pub wrote_more : (at n : ℕ) (xs ys : List ℕ) (x : ℕ) → Wrote at n xs ys → Wrote at (n + 1) xs (set ys (at + n) x)
wrote_more at n xs ys x h = record {
  long = length-set ys (at + n) x ∙ h.long;
  front = take-set-le at ys (at + n) x (omega arith) ∙ h.front;
  back = drop-set-lt (at + (n + 1)) ys (at + n) x (omega arith) ∙ sym (one ys) ∙ ap (drop 1) h.back ∙ one xs;
}
  where
    one : (zs : List ℕ) → drop 1 (drop (at + n) zs) ≡ drop (at + (n + 1)) zs
    one zs = let e : at + n + 1 ≡ at + (n + 1) = omega arith in drop-drop 1 (at + n) zs ∙ ap (λ k. drop k zs) e

-- fewer letters than states
pub few_letters : {L : Type 0} (a : Labels L) (m : Automaton L) (n : ℕ) (f : ℕ → ℕ) (q v : ℕ) → Layered a m n f → Start m n f q → v ≡ f q → v - 1 < n
few_letters a m n f q v h start is = omega (arith, h.low q start.low, start.layered, count_low f n)
