use Rattle.std.proofs.Common.{arith}
use Rattle.field.proofs.Rows.{filled_more}
use Rattle.rows.proofs.row.clear_row.Goals as goal

pub loop-x-preserved : goal.loop-x-preserved
loop-x-preserved g c = filled_more g.F.Field.field g.F.Field.value c.zero-zero.result c.loop-x.invariant (omega arith) c.zero-zero.ensures.is_zero
