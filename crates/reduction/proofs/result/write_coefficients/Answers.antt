use Rattle.std.proofs.Common.{◌+◌, length, refl, arith}
use Rattle.field.specs.Rows.{row_at}
use Rattle.rows.proofs.Slices.{row_part}
use Rattle.rows.proofs.Held.{row_copied}
use Rattle.spanning.specs.Places.{coefficients_at}
use Rattle.reduction.proofs.result.write_coefficients.Goals as goal

pub returns : goal.returns
returns g c =
    let K = g.F.Field.field in let v = g.F.Field.value in
    let n = length c.args.row.now in
    let ks = c.args.coefficients.now in
    let from = coefficients_at c.args.i c.args.letter in
    record {
      coefficients_written = row_copied K v c.copy_from_slice.ensures.after (row_part K v from (from + n) n (row_at K v ks from) ks refl (omega arith) (λ j l. refl));
    }
