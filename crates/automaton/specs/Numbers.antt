-- How many things of a kind there are.
use Rattle.std.specs.Prelude.{◌≡◌, ℕ, ◌<◌, ◌≤◌}

-- f numbers the things of the kind P from 0 to n − 1, each once: there are n of them
pub record Numbers {X : Type 0} (P : X → Type 0) (n : ℕ) (f : ℕ → X) : Type 0 where
  pub each : (i : ℕ) → i < n → P (f i)
  pub every : (x : X) → P x → (i : ℕ) × (i < n) × (f i ≡ x)
  pub once : (i j : ℕ) → i < n → j < n → f i ≡ f j → i ≡ j

-- f gives things of the kind P for 0 to n, no two the same: there are more than n of them
pub record MoreThan {X : Type 0} (P : X → Type 0) (n : ℕ) (f : ℕ → X) : Type 0 where
  pub each : (i : ℕ) → i ≤ n → P (f i)
  pub once : (i j : ℕ) → i ≤ n → j ≤ n → f i ≡ f j → i ≡ j
