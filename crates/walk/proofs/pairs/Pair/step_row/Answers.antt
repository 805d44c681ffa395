use Rattle.std.proofs.Common.{arith}
use Rattle.walk.specs.Pairs.{left_table, right_table}
use Rattle.walk.proofs.PairRows.{split_parts, stepped}
use Rattle.walk.proofs.pairs.Pair.step_row.Goals as goal

pub returns : goal.returns
returns g c =
    let K = g.F.Field.field in let v = g.F.Field.value in
    let a = c.args in
    let S = left_table K v a.self in
    let T = right_table K v a.self in
    let s = c.split_at in
    let parts = split_parts a.row.now s.result.0.now s.result.1.now c.states-n.result s.ensures.front s.ensures.back in
    record {
      one_letter_further =
          stepped K v S T a.row.now s.result.0.now s.result.1.now parts (omega arith) (omega arith) a.letter c.matrix.result.now c.matrix-2.result.now
          c.row_times_matrix.new.to c.row_times_matrix-2.new.to c.matrix.ensures.matrix_of_letter c.matrix-2.ensures.matrix_of_letter
          c.row_times_matrix.ensures.product_written c.row_times_matrix-2.ensures.product_written;
    }
