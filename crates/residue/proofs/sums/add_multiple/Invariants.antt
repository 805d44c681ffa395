use Rattle.std.proofs.Common.{ℕ, ◌≡◌, ◌≤◌, ◌+◌, ◌*◌, get_or}
use Rattle.field.specs.Rows.{at}
use Rattle.field.proofs.Rows.{Filled}
use Rattle.residue.specs.Operations.{residue_of}
use Rattle.residue.specs.Residues.{residues}
use Rattle.residue.specs.Sums.{UpTo, value_of, plus_multiple}
use Rattle.residue.proofs.sums.add_multiple.Given as goal

abbrev pub invariant-loop-j : goal.invariant-loop-j
invariant-loop-j g l =
    let p = g.row.P in let pr = g.bound-1.prime in
    record {
      filled : Filled (residues p pr) (residue_of p pr) l.j (plus_multiple pr (at (residues p pr) (residue_of p pr) l.initial.sums) l.factor (at (residues p pr) value_of l.row)) l.initial.sums l.sums;
      rest : (i : ℕ) → l.j ≤ i → get_or l.sums i 0 ≡ get_or l.initial.sums i 0;
      little : (b : ℕ) → UpTo b l.initial.sums → UpTo (b + 65537 * 65537) l.sums;
    }
