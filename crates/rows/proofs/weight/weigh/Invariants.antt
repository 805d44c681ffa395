use Rattle.std.proofs.Common.{◌≡◌, length, take}
use Rattle.series.specs.Words.{Over}
use Rattle.field.specs.Rows.{Agree, at}
use Rattle.series.specs.Tables.{row}
use Rattle.rows.specs.Seen.{table_of}
use Rattle.rows.proofs.weight.weigh.Given as goal

abbrev pub invariant-loop-i : goal.invariant-loop-i
invariant-loop-i g l =
    let K = g.F.Field.field in let v = g.F.Field.value in
    Over l.table.shape.letters (take l.i l.word)
    × (length l.row ≡ l.table.shape.states)
    × (length l.next ≡ l.table.shape.states)
    × Agree l.table.shape.states (at K v l.row) (row K (table_of K v l.table) (take l.i l.word))
