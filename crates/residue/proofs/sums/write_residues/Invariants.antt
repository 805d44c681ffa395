use Rattle.field.specs.Rows.{at}
use Rattle.field.proofs.Rows.{Filled}
use Rattle.residue.specs.Operations.{residue_of}
use Rattle.residue.specs.Residues.{residues}
use Rattle.residue.specs.Sums.{value_of}
use Rattle.residue.proofs.sums.write_residues.Given as goal

abbrev pub invariant-loop-j : goal.invariant-loop-j
invariant-loop-j g l =
    let p = g.row.P in let pr = g.bound-1.prime in
    Filled (residues p pr) value_of l.j (at (residues p pr) (residue_of p pr) l.sums) l.initial.to l.to
