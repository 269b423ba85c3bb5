use Rattle.std.proofs.Common.{refl}
use Rattle.bench.proofs.sheets_stand.Goals as goal
use Rattle.bench.proofs.Sheets.{all_given}

pub returns : goal.returns
returns c = record { counted = refl; stand = all_given }
