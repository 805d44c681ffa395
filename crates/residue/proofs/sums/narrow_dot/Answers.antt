use Rattle.std.proofs.Common.{◌≡◌, ◌+◌, ◌*◌, ◌≤◌, arith, mod-eq_of_lt}
use Rattle.field.specs.Below.{same_below}
use Rattle.field.specs.Rows.{at}
use Rattle.field.proofs.Rows.{at_read}
use Rattle.residue.specs.Operations.{positive}
use Rattle.residue.specs.Residues.{residues}
use Rattle.residue.specs.Sums.{value_of}
use Rattle.residue.proofs.Late.{dot_more, product_small}
use Rattle.residue.proofs.sums.narrow_dot.Goals as goal

pub loop-i-init : goal.loop-i-init
loop-i-init g c = record {
  small = omega arith;
  stands = same_below _ _ (mod-eq_of_lt (positive g.row.P g.bound-1.prime));
}

pub loop-i-preserved : goal.loop-i-preserved
loop-i-preserved g c =
    let p = g.row.P in let pr = g.bound-1.prime in
    let K = residues p pr in
    let a = c.args in
    let i = c.loop-i.i in
    let w = c.loop-i.invariant in
    let x = c.index-row-i.result in
    let y = c.index-ys-column.result in
    let e : c.from.result * c.from-in-loop-i.result ≡ x.n * y.n = cc in
    let small : x.n * y.n ≤ 65537 * 65537 = product_small x.n y.n (omega (arith, x.below, pr.high)) (omega (arith, y.below, pr.high)) in
    record {
      small = omega (arith, e, small, w.small);
      stands =
          dot_more pr i c.loop-i.sum (c.from.result * c.from-in-loop-i.result) (at K value_of a.row.now) (λ k. at K value_of a.ys.now (a.column + k * a.step)) (value_of x) (value_of y) w.stands e
          (at_read K value_of a.row.now i x (omega arith) c.index-row-i.is)
          (at_read K value_of a.ys.now (a.column + i * a.step) y (c.requires.column_within i (omega arith)) c.index-ys-column.is);
    }
