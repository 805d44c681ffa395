use Rattle.std.proofs.Common.{length, get_or, ◌+◌, ◌*◌}
use Rattle.field.specs.Sums.{less_rows}
use Rattle.field.specs.Rows.{at, square_at, RowOf}
use Rattle.residue.specs.Operations.{residue_of}
use Rattle.residue.specs.Residues.{residues}
use Rattle.residue.specs.Sums.{value_of, UpTo}
use Rattle.residue.proofs.ResidueField.subtract_rows.Given as goal

abbrev pub invariant-loop-b : goal.invariant-loop-b
invariant-loop-b g l =
    let K = residues g.row.P g.bound-1.prime in
    let n = length l.initial.row in
    RowOf K value_of n (less_rows K l.b (square_at K value_of l.rows 0 n) (λ b. get_or l.pivots b 0) (at K value_of l.initial.row)) l.row

abbrev pub invariant-loop-b-2 : goal.invariant-loop-b-2
invariant-loop-b-2 g l =
    let pr = g.bound-1.prime in let K = residues g.row.P pr in
    let n = length l.row in
    record {
      stand : RowOf K (residue_of g.row.P pr) n (less_rows K l.b (square_at K value_of l.rows 0 n) (λ b. get_or l.pivots b 0) (at K value_of l.row)) l.sums;
      small : UpTo ((l.b + 1) * (65537 * 65537)) l.sums;
    }
