use Rattle.std.proofs.Common.{◌∙◌, arith}
use Rattle.field.proofs.Rows.{filled_more}
use Rattle.residue.specs.Residues.{residues}
use Rattle.residue.specs.Sums.{value_of}
use Rattle.residue.proofs.Late.{at_number}
use Rattle.residue.proofs.sums.write_residues.Goals as goal

pub loop-j-preserved : goal.loop-j-preserved
loop-j-preserved g c =
    let pr = g.bound-1.prime in
    filled_more (residues g.row.P pr) value_of c.residue.result c.loop-j.invariant (omega arith)
    (c.residue.ensures.is_residue ∙ at_number pr c.args.sums.now c.loop-j.j (omega (arith, c.requires.as_long)))
