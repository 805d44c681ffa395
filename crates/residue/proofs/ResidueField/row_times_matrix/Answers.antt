use Rattle.std.proofs.Common.{◌+◌, ◌*◌, ap, ◌∙◌, arith, length}
use Rattle.std.proofs.lemmas.List.{length-take-le}
use Rattle.std.proofs.lemmas.Nat.{mul-le}
use Rattle.field.specs.Rows.{at, square_at}
use Rattle.field.proofs.Rows.{filled_more, move_by_dot, at_read, at_part}
use Rattle.residue.specs.Residues.{residues}
use Rattle.residue.specs.Sums.{value_of}
use Rattle.residue.proofs.Late.{residue_same, zeros, up_to_start, stand_zero, stand_times}
use Rattle.residue.proofs.ResidueField.row_times_matrix.Goals as goal

pub loop-j-preserved : goal.loop-j-preserved
loop-j-preserved g c =
    let K = residues g.row.P g.bound-1.prime in
    filled_more K value_of c.dot.result c.loop-j.invariant (omega arith)
    (c.dot.ensures.is_dot_product ∙ move_by_dot K value_of (length c.args.row.now) c.loop-j.j c.args.row.now c.args.matrix.now)

pub loop-i-init : goal.loop-i-init
loop-i-init g c =
    let n = length c.args.row.now in
    let u = up_to_start n 32 in
    record {
      stand = stand_zero g.bound-1.prime n _ (length-take-le n (zeros 32) c.if-n-gt-NARROW.false) u;
      small = u;
    }

pub loop-i-preserved : goal.loop-i-preserved
loop-i-preserved g c =
    let pr = g.bound-1.prime in let K = residues g.row.P pr in
    let a = c.args in
    let n = length a.row.now in
    let i = c.loop-i.i in
    let w = c.loop-i.invariant in
    let x = c.index-row-i.result in
    let room = mul-le (i + 1) n n n (omega arith) (omega arith) in
    let more = c.add_multiple.ensures.grown_by_one_product (i * (65537 * 65537)) w.small in
    record {
      stand = stand_times pr n i x.n (square_at K value_of a.matrix.now 0 n) (at K value_of a.row.now) _ c.loop-i.sums _ w.stand c.add_multiple.ensures.multiple_added
          (residue_same pr (value_of x) ∙ at_read K value_of a.row.now i x (omega arith) c.index-row-i.is)
          (λ j l. at_part K value_of (i * n) (i * n + n) a.matrix.now j (omega arith) ∙ ap (at K value_of a.matrix.now) (omega arith));
      small = λ j. omega (arith, more j);
    }
