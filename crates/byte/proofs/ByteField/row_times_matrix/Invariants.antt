use Rattle.std.proofs.Common.{length}
use Rattle.field.specs.Sums.{move}
use Rattle.field.specs.Rows.{at, square_at, matrix_product, RowOf}
use Rattle.field.proofs.Rows.{Filled}
use Rattle.byte.specs.Bytes.{bytes}
use Rattle.byte.proofs.Rows.{value_of}
use Rattle.byte.proofs.ByteField.row_times_matrix.Given as goal

abbrev pub invariant-loop-j : goal.invariant-loop-j
invariant-loop-j l = Filled bytes value_of l.j (matrix_product bytes value_of l.row l.matrix) l.initial.to l.to

abbrev pub invariant-loop-j-2 : goal.invariant-loop-j-2
invariant-loop-j-2 l = Filled bytes value_of l._j (λ _. bytes.zero) l.initial.to l.to

-- the first i rows of the matrix are added
abbrev pub invariant-loop-i : goal.invariant-loop-i
invariant-loop-i l =
    let n = length l.row in
    RowOf bytes value_of n (move bytes l.i (square_at bytes value_of l.matrix 0 n) (at bytes value_of l.row)) l.to
