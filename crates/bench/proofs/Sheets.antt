-- The verdict on each sheet: its course is computed.
use Rattle.std.proofs.Common.{ℕ, ◌≤◌, Bool, true, false, cond, eqb, [], ◌∷◌, refl, inl, inr, ⊎_elim, arith}
use Rattle.std.proofs.lemmas.Bool.{cases_eq, cond-false, ne_eqb}
use Rattle.alphabet.specs.Text.{text}
use Rattle.sheet.specs.Calls.{rows}
use Rattle.verdict.specs.declared.Table.TheVariants.{States}
use Rattle.verdict.specs.declared.Verdict.TheVariants.{OutOfRoom, Impossible, Unknown, Possible}
use Rattle.verdict.specs.Verdicts.{Given, SingleUse}
use Rattle.bench.specs.Bench.{BenchStands, answer, wide, joins, none, one, one_text, two_texts, empty_first, twice_either, twice_same, join_twice}
use Rattle.bench.proofs.Running.{went, given}

single_none : SingleUse []
single_none p = omega arith

pub none_given : Given text wide 16 none (answer Possible 0 0)
unfolding went
none_given = given text wide none [] 16 (answer Possible 0 0) refl (inr (inl (single_none, omega arith, refl)))

pub one_given : Given text wide 16 one (answer Possible 1 1)
unfolding went
one_given = given text wide one (0 ∷ []) 16 (answer Possible 1 1) refl (inr (inl (single_none, omega arith, refl)))

pub one_text_given : Given text wide 16 one_text (answer Possible 3 2)
unfolding went
one_text_given = given text wide one_text (0 ∷ []) 16 (answer Possible 3 2) refl (inr (inl (single_none, omega arith, refl)))

pub two_texts_given : Given text wide 16 two_texts (answer (Impossible 0) 4 2)
unfolding went
two_texts_given = given text wide two_texts (0 ∷ []) 16 (answer (Impossible 0) 4 2) refl refl

once : (b : Bool) → cond b 1 0 ≤ 1
once true = omega arith
once false = omega arith

single_join : SingleUse (joins 2 0 1 ∷ [])
single_join p = ⊎_elim
    (λ is. omega (arith, once (eqb 0 p), cond-false {A = ℕ} (eqb 1 p) 1 0 (ne_eqb 1 p (λ e. omega arith))))
    (λ other. omega (arith, cond-false {A = ℕ} (eqb 0 p) 1 0 (ne_eqb 0 p other), once (eqb 1 p)))
    (cases_eq 0 p)

pub empty_first_given : Given text (rows 19 9) 2 empty_first (answer Possible 14 7)
unfolding went
empty_first_given = given text (rows 19 9) empty_first (0 ∷ 1 ∷ 2 ∷ []) 2 (answer Possible 14 7) refl (inr (inl (single_join, omega arith, refl)))

pub empty_first_stopped : Given text (rows 18 9) 2 empty_first (answer (OutOfRoom States 2) 11 6)
unfolding went
empty_first_stopped = given text (rows 18 9) empty_first (0 ∷ 1 ∷ 2 ∷ []) 2 (answer (OutOfRoom States 2) 11 6) refl refl

pub twice_either_given : Given text wide 16 twice_either (answer Unknown 15 11)
unfolding went
twice_either_given = given text wide twice_either (0 ∷ 1 ∷ []) 16 (answer Unknown 15 11) refl (inl ((λ single. omega (arith, single 0)), refl))

pub twice_same_given : Given text wide 16 twice_same (answer (Impossible 1) 14 10)
unfolding went
twice_same_given = given text wide twice_same (0 ∷ 1 ∷ []) 16 (answer (Impossible 1) 14 10) refl refl

pub join_twice_given : Given text wide 16 join_twice (answer Unknown 13 21)
unfolding went
join_twice_given = given text wide join_twice (0 ∷ 1 ∷ 2 ∷ []) 16 (answer Unknown 13 21) refl (inl ((λ single. omega (arith, single 0)), refl))

pub all_given : BenchStands
all_given = (none_given, one_given, one_text_given, two_texts_given, empty_first_given, empty_first_stopped, twice_either_given, twice_same_given, join_twice_given)
