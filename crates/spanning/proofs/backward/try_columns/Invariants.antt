use Rattle.std.proofs.Common.{◌<◌, length}
use Rattle.rows.specs.Seen.{table_of}
use Rattle.spanning.specs.Backward.{ColumnDue}
use Rattle.spanning.proofs.backward.try_columns.Given as goal

abbrev pub invariant-loop-letter : goal.invariant-loop-letter
invariant-loop-letter g l =
    let K = g.F.Field.field in let v = g.F.Field.value in
    ColumnDue K v (table_of K v l.table) l.i l.letter l.pivots.items l.columns l.echelon × (l.i < length l.pivots.items)
