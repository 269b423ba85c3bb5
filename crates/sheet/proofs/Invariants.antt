-- What holds of the view of every sheet.
use Rattle.std.proofs.Common.{◌≤◌, length}
use Rattle.sheet.specs.declared.Sheet.{Sheet}
use Rattle.sheet.specs.Calls.{view}
use Rattle.sheet.specs.Joins.{Acyclic, Known}
use Rattle.sheet.specs.Patterns.{Among, ForParts}

pub few_parts : (s : Sheet) → (view s).parts ≤ 64
few_parts s = s.few_parts

pub few_joins : (s : Sheet) → length (view s).joins ≤ 64
few_joins s = s.few_joins

pub few_states : (s : Sheet) → (view s).held.states ≤ 65536
few_states s = s.few_states

pub few_arcs : (s : Sheet) → (view s).held.arcs ≤ 1048576
few_arcs s = s.few_arcs

pub for_parts : (s : Sheet) → ForParts (view s).parts (view s).patterns
for_parts s = s.for_parts

pub among : (s : Sheet) → Among (view s).held (view s).patterns
among s = s.among

pub known : (s : Sheet) → Known (view s).parts (view s).joins
known s = s.known

pub acyclic : (s : Sheet) → Acyclic (view s).joins
acyclic s = s.acyclic
