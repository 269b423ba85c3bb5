use Rattle.std.proofs.Common.{arith}
use Rattle.sheet.proofs.Sheet.part.Goals as goal

pub invariant_of-self-clause-few_parts : goal.invariant_of-self-clause-few_parts
invariant_of-self-clause-few_parts c = omega arith
