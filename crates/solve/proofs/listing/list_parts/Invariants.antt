use Rattle.solve.specs.Report.{Listed}
use Rattle.solve.proofs.listing.list_parts.Given as goal

abbrev pub invariant-loop-part : goal.invariant-loop-part
invariant-loop-part l = Listed l.finished l.part l.initial.report l.report
