use Rattle.series.proofs.KeptWords.{tables_compare}
use Rattle.series.proofs.tables_compare.Goals as goal

pub returns : goal.returns
returns g c = record { decided = tables_compare g.F.Field.field }
