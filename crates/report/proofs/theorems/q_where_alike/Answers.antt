use Rattle.report.proofs.Single.{q_exactly}
use Rattle.report.proofs.theorems.q_where_alike.Goals as goal

pub returns : goal.returns
returns g c = record { exactly = q_exactly g.F.Field.field c.one_text_one_table.ensures.told_apart c.one_verdict.ensures.decided }
