-- A table and a verdict in words, as bytes.
use Rattle.std.specs.Prelude.{ℕ, List, ◌++◌, codes, decimal}
use Rattle.verdict.specs.declared.Table.{Table}
use Rattle.verdict.specs.declared.Table.TheVariants.{States, Arcs, Words}
use Rattle.verdict.specs.declared.Verdict.{Verdict}
use Rattle.verdict.specs.declared.Verdict.TheVariants.{OutOfRoom, Impossible, Unknown, Possible}

abbrev pub table_name : Table → List ℕ
table_name States = codes "states"
table_name Arcs = codes "arcs"
table_name Words = codes "words"

abbrev pub in_words : Verdict → List ℕ
in_words (OutOfRoom t p) = codes "out of room for " ++ (table_name t ++ (codes " at part " ++ decimal p))
in_words (Impossible p) = codes "impossible at part " ++ decimal p
in_words Unknown = codes "unknown"
in_words Possible = codes "possible"
