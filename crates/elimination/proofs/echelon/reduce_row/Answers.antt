use Rattle.std.proofs.Common.{length, get_or}
use Rattle.field.specs.Rows.{at, square_at}
use Rattle.elimination.proofs.Taken.{taken_remainder}
use Rattle.elimination.proofs.echelon.reduce_row.Goals as goal

pub returns : goal.returns
returns g c =
    let K = g.F.Field.field in let v = g.F.Field.value in
    let a = c.args in
    let n = length a.row.now in
    record {
      remainder = taken_remainder K n (length a.pivots.now) (square_at K v a.basis.now 0 n) (λ b. get_or a.pivots.now b 0) c.requires.echelon_form c.requires.ones_at_pivots (at K v a.row.now) _ c.subtract_rows.ensures.rest_written.same;
    }
