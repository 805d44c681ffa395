use Rattle.residue.specs.Proofs.Inverses.{OnWay}
use Rattle.residue.proofs.ResidueField.inverse.Given as goal

abbrev pub invariant-loop-r : goal.invariant-loop-r
invariant-loop-r g l = OnWay g.row.P l.fn.self.n l.a l.r

abbrev pub decreases-loop-r : goal.decreases-loop-r
decreases-loop-r g l = l.r
