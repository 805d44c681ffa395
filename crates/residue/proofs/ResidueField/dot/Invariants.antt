use Rattle.std.proofs.Common.{◌≡◌, ◌≤◌, ◌+◌, ◌*◌, ◌^◌}
use Rattle.field.specs.Rows.{at}
use Rattle.field.specs.Sums.{dot}
use Rattle.residue.specs.Operations.{residue_of}
use Rattle.residue.specs.Residues.{residues}
use Rattle.residue.specs.Sums.{value_of}
use Rattle.residue.proofs.ResidueField.dot.Given as goal

abbrev pub invariant-loop-i : goal.invariant-loop-i
invariant-loop-i g l =
    let p = g.row.P in let pr = g.bound-1.prime in
    record {
      small : l.sum ≤ 2 ^ 63;
      stands : residue_of p pr l.sum ≡ dot (residues p pr) l.i (at (residues p pr) value_of l.row) (λ i. at (residues p pr) value_of l.ys (l.column + i * l.step));
    }
