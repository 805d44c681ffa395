use Rattle.std.proofs.Common.{◌≡◌, ◌+◌, ◌*◌, ◌≤◌, ◌<◌, get_or, ap, ap₂, ◌∙◌, arith, length}
use Rattle.std.proofs.lemmas.List.{get_or-set_other}
use Rattle.field.proofs.Rows.{filled_more, at_read}
use Rattle.residue.specs.Operations.{residue_of}
use Rattle.residue.specs.Residues.{residues}
use Rattle.residue.specs.Sums.{value_of}
use Rattle.residue.proofs.Late.{residue_more, at_number, product_small, up_to_set}
use Rattle.residue.proofs.sums.add_multiple.Goals as goal

pub loop-j-preserved : goal.loop-j-preserved
loop-j-preserved g c =
    let p = g.row.P in let pr = g.bound-1.prime in
    let K = residues p pr in let r = residue_of p pr in
    let w = c.loop-j.invariant in
    let j = c.loop-j.j in
    let xs = c.loop-j.sums in
    let y = c.index-row-j.result in
    let inside : j < length xs = omega (arith, w.filled.len, c.requires.as_long) in
    let factor = c.args.factor in
    let e : c.from.result * c.from-in-loop-j.result ≡ factor * y.n = cc in
    let small : factor * y.n ≤ 65537 * 65537 = product_small factor y.n (c.requires.small_factor) (omega (arith, y.below, pr.high)) in
    record {
      filled = filled_more K r _ w.filled inside
          (ap (λ z. r (get_or xs j 0 + z)) e
          ∙ residue_more pr (get_or xs j 0) factor (value_of y)
          ∙ ap₂ K.plus (at_number pr xs j inside ∙ w.filled.rest j (omega arith)) (ap (K.times (r factor)) (at_read K value_of c.args.row.now j y (omega arith) c.index-row-j.is)));
      rest = λ i l. get_or-set_other xs j i _ 0 (omega arith) ∙ w.rest i (omega arith);
      little = λ b u. up_to_set (b + 65537 * 65537) xs j _ inside (w.little b u) (omega (arith, e, small, w.rest j (omega arith), u j));
    }
