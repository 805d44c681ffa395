use Rattle.std.proofs.Common.{arith, ◌*◌, ◌+◌, ◌≤◌, length, ◌∙◌}
use Rattle.rows.proofs.Layouts.{matrix_row}
use Rattle.field.proofs.Rows.{length_part}
use Rattle.rows.proofs.Held.{stands_part}
use Rattle.rows.proofs.Writing.{progress_none, progress_more, progress_all}
use Rattle.rows.proofs.table_parts.write_rows.Goals as goal

pub slice_bounds-write_row-end : goal.slice_bounds-write_row-end
slice_bounds-write_row-end g c =
    let at = matrix_row c.letters.result c.states-n.result c.loop-r.r (omega arith) in
    let whole = rw (← c.letters.ensures.told, ← c.states-n.ensures.told) at c.requires.as_long in
    omega (arith, at.within)

pub write_row-requires : goal.write_row-requires
write_row-requires g c =
    let at = matrix_row c.letters.result c.states-n.result c.loop-r.r (omega arith) in
    let whole = rw (← c.letters.ensures.told, ← c.states-n.ensures.told) at c.requires.as_long in
    c.requires.rows_taken _ _ _ (omega arith) (omega (arith, at.letter)) (omega (arith, at.state))
    (length_part _ _ c.loop-r.to (omega arith) (omega (arith, at.within)) ∙ omega arith)

pub loop-r-init : goal.loop-r-init
loop-r-init g c = progress_none g.R.Fn c.args.write_row c.states-n.result c.args.to.now

pub loop-r-preserved : goal.loop-r-preserved
loop-r-preserved g c =
    let at = matrix_row c.letters.result c.states-n.result c.loop-r.r (omega arith) in
    let whole = rw (← c.letters.ensures.told, ← c.states-n.ensures.told) at c.requires.as_long in
    let within : c.loop-r.r * c.states-n.result + c.states-n.result ≤ length c.loop-r.to = omega (arith, at.within) in
    let n = c.states-n.result in
    let a = c.loop-r.r * n in
    progress_more g.R.Fn c.args.write_row n _ c.loop-r.invariant (omega arith) within
    (length_part _ _ c.loop-r.to (omega arith) within ∙ omega arith) (omega arith) (stands_part a (a + n) n c.loop-r.to (omega arith) within) c.write_row.ensures

pub returns : goal.returns
returns g c = record {
  rows_written =
      rw (← c.letters.ensures.told, ← c.states-n.ensures.told)
      (progress_all g.R.Fn c.args.write_row c.states-n.result c.loop-r.invariant (omega arith));
}
