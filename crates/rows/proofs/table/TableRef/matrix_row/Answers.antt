use Rattle.std.proofs.Common.{ap, ◌∙◌, ◌+◌, ◌-◌, ◌*◌, ◌≤◌, slice_range, arith}
use Rattle.std.proofs.lemmas.Nat.{mul-le}
use Rattle.field.specs.Rows.{at}
use Rattle.rows.specs.Layout.{matrix_offset}
use Rattle.rows.proofs.Slices.{part_of_part, row_part}
use Rattle.rows.proofs.table.TableRef.matrix_row.Goals as goal

pub returns : goal.returns
returns g c =
    let K = g.F.Field.field in let v = g.F.Field.value in
    let t = c.args.self in
    let n = t.shape.states in
    let row = c.args.row in
    let m = c.matrix.ensures.matrix_of_letter in
    let within : row * n + n ≤ n * n = omega (arith, mul-le (row + 1) n n n (omega arith) (omega arith)) in
    record {
      very_elements = ap (λ xs. slice_range xs (row * n) (row * n + n)) c.matrix.ensures.very_elements
          ∙ part_of_part (matrix_offset t.base n c.args.letter) (n * n) (row * n) n t.memory.now within;
      row_of_matrix = row_part K v (row * n) (row * n + n) n _ c.matrix.result.now (omega arith) (omega (arith, m.len, within)) (λ i l. ap (at K v c.matrix.result.now) (omega arith) ∙ m.same row (omega arith) i l);
    }
