use Rattle.std.proofs.Common.{length, ◌*◌}
use Rattle.field.specs.Sums.{move}
use Rattle.field.specs.Rows.{at, square_at, RowOf}
use Rattle.field.proofs.Rows.{Filled}
use Rattle.residue.specs.Operations.{residue_of}
use Rattle.residue.specs.Residues.{residues}
use Rattle.residue.specs.Sums.{value_of, UpTo}
use Rattle.residue.proofs.ResidueField.row_times_matrix.Given as goal

abbrev pub invariant-loop-j : goal.invariant-loop-j
invariant-loop-j g l =
    let K = residues g.row.P g.bound-1.prime in
    let n = length l.row in
    Filled K value_of l.j (move K n (square_at K value_of l.matrix 0 n) (at K value_of l.row)) l.initial.to l.to

abbrev pub invariant-loop-i : goal.invariant-loop-i
invariant-loop-i g l =
    let pr = g.bound-1.prime in let K = residues g.row.P pr in
    let n = length l.row in
    record {
      stand : RowOf K (residue_of g.row.P pr) n (move K l.i (square_at K value_of l.matrix 0 n) (at K value_of l.row)) l.sums;
      small : UpTo (l.i * (65537 * 65537)) l.sums;
    }
