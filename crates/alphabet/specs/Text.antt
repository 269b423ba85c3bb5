-- The text alphabet: 196,608 letters, a label is the two ends of a range.
use Rattle.std.specs.Prelude.{ℕ, min, max, cond, ◌&&◌, Some, None, nat_le, nat_lt}
use Rattle.alphabet.specs.Labels.{Labels, from_to}
use Rattle.alphabet.specs.declared.text.TextLabel.{TextLabel}

abbrev pub ends : ℕ → ℕ → TextLabel
ends lo hi = record { lo = lo; hi = hi }

abbrev pub text : Labels TextLabel
text = record {
  letters = 196608;
  admits = λ l. from_to 196608 l.lo l.hi;
  full = ends 0 196607;
  meet = λ l k. ends (max l.lo k.lo) (min l.hi k.hi);
  first = λ l. cond (nat_le l.lo l.hi && nat_lt l.lo 196608) (Some l.lo) None;
}
