use Rattle.report.proofs.Single.{one_line}
use Rattle.report.proofs.theorems.one_line.Goals as goal

pub returns : goal.returns
returns g c = record { one = one_line g.F.Field.field c.one_text_one_table.ensures.told_apart c.one_verdict.ensures.decided }
