use Rattle.std.proofs.Common.{◌≡◌, ◌≤◌, ◌+◌, ◌*◌}
use Rattle.field.specs.Rows.{at}
use Rattle.field.specs.Sums.{dot}
use Rattle.residue.specs.Operations.{residue_of}
use Rattle.residue.specs.Residues.{residues}
use Rattle.residue.specs.Sums.{value_of}
use Rattle.residue.proofs.sums.narrow_dot.Given as goal

abbrev pub invariant-loop-i : goal.invariant-loop-i
invariant-loop-i g l =
    let K = residues g.row.P g.bound-1.prime in
    record {
      small : l.sum ≤ l.i * (65537 * 65537);
      stands : residue_of g.row.P g.bound-1.prime l.sum ≡ dot K l.i (at K value_of l.row) (λ i. at K value_of l.ys (l.column + i * l.step));
    }
