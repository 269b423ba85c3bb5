-- What a search tells.
use Rattle.std.proofs.Common.{Decides, Option, Some, None, MatchOption, is_some, refl}
use Rattle.std.proofs.lemmas.Bool.{false≢true}

-- it finds something just where P holds
pub found_decides : {X : Type 0} (P : Type 0) (Q : X → Type 0) → ((x : X) → Q x → P) → (o : Option X) → MatchOption o (P → ⊥) Q → Decides (is_some o) P
found_decides P Q f None h = (λ e. absurd (false≢true e), λ p. absurd (h p))
found_decides P Q f (Some x) h = (λ e. f x h, λ p. refl)
