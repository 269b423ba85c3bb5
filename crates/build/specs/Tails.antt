-- Rows written one behind another into lent ones.
use Rattle.std.specs.Prelude.{◌≡◌, ℕ, ◌+◌, ◌<◌, List, [], ◌∷◌, ◌++◌, length, take, Ok, Err, Result}
use Rattle.build.specs.declared.tail.Full.{Full}
use Rattle.build.specs.declared.tail.Tail.{Tail}

-- the rows written so far, and how many there is room for in all
abbrev pub written : {T : Type 0} → Tail T → List T
written t = take t.count t.rows.now

abbrev pub room : {T : Type 0} → Tail T → ℕ
room t = length t.rows.now

-- both write into the same lent rows; each function on a tail says it, or its lender's rows are not known afterwards
pub record SameRows {T : Type 0} (before after : Tail T) : Type 0 where
  pub rows : after.rows.ghost_name ≡ before.rows.ghost_name
  pub long : room after ≡ room before

-- a row was written behind the others, or there was no room for it
abbrev pub Pushed : {T : Type 0} → Tail T → Tail T → T → Result (Unit {0}) Full → Type 0
Pushed before after x (Ok u) = written after ≡ written before ++ x ∷ []
Pushed before after x (Err e) = (written after ≡ written before) × (length (written before) ≡ room before)

-- rows were written behind the others, or there is no room for all of them
abbrev pub Appended : {T : Type 0} → Tail T → Tail T → List T → Result (Unit {0}) Full → Type 0
Appended before after xs (Ok u) = written after ≡ written before ++ xs
Appended before after xs (Err e) = room before < length (written before) + length xs
