use Rattle.std.proofs.Common.{◌-◌}
use Rattle.rows.specs.Seen.{table_of}
use Rattle.spanning.specs.Backward.{ColumnDue}
use Rattle.spanning.proofs.backward.close_columns.Given as goal

abbrev pub invariant-loop-i : goal.invariant-loop-i
invariant-loop-i g l =
    let K = g.F.Field.field in let v = g.F.Field.value in
    ColumnDue K v (table_of K v l.table) l.i 1 l.pivots.items l.columns l.echelon

abbrev pub decreases-loop-i : goal.decreases-loop-i
decreases-loop-i g l = l.table.shape.states - l.i
