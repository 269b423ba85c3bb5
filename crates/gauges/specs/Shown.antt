-- The lines of a station's sheet, as bytes.
use Rattle.std.specs.Prelude.{ℕ, List, ◌++◌, codes, decimal}
use Rattle.sheet.specs.declared.Refusal.{Refusal}
use Rattle.sheet.specs.Calls.{number}
use Rattle.verdict.specs.declared.Solved.{Solved}
use Rattle.verdict.specs.Shown.{in_words}

-- the line of a station's sheet that is solved, and of one that is refused
abbrev pub verdict_line : List ℕ → Solved → List ℕ
verdict_line station x = station ++ (codes " sheet: " ++ (in_words x.verdict ++ (codes ", " ++ (decimal x.totals.states ++ (codes " states and " ++ (decimal x.totals.arcs ++ codes " arcs built\n"))))))

abbrev pub refused_line : List ℕ → Refusal → List ℕ
refused_line station e = station ++ (codes " sheet: refused " ++ (decimal (number e) ++ codes "\n"))
