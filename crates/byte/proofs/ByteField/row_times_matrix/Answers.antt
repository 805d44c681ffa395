use Rattle.std.proofs.Common.{◌+◌, ◌*◌, ap, ap₂, ◌∙◌, arith, length}
use Rattle.std.proofs.lemmas.Nat.{mul-le}
use Rattle.field.specs.Rows.{at, square_at}
use Rattle.field.proofs.Rows.{filled_more, move_by_dot, at_read, at_part, sum_more}
use Rattle.byte.specs.Bytes.{bytes}
use Rattle.byte.proofs.Rows.{value_of}
use Rattle.byte.proofs.ByteField.row_times_matrix.Goals as goal

pub loop-j-preserved : goal.loop-j-preserved
loop-j-preserved c =
    filled_more bytes value_of c.dot.result c.loop-j.invariant (omega arith)
    (c.dot.ensures.is_dot_product
    ∙ move_by_dot bytes value_of (length c.args.row.now) c.loop-j.j c.args.row.now c.args.matrix.now)

pub loop-j-2-preserved : goal.loop-j-2-preserved
loop-j-2-preserved c =
    filled_more bytes value_of c.zero.result c.loop-j-2.invariant (omega arith) c.zero.ensures.is_zero

pub loop-i-preserved : goal.loop-i-preserved
loop-i-preserved c =
    let a = c.args in
    let n = length a.row.now in
    let i = c.loop-i.i in
    let w = c.loop-i.invariant in
    let x = at bytes value_of a.row.now in
    let m = square_at bytes value_of a.matrix.now 0 n in
    let room = mul-le (i + 1) n n n (omega arith) (omega arith) in
    let added = c.subtract_multiple.ensures.difference_written in
    record {
      len = added.len ∙ w.len;
      same = λ j l.
          added.same j (omega (arith, w.len))
          ∙ ap₂ bytes.plus (w.same j l)
          (ap₂ bytes.times (at_read bytes value_of a.row.now i _ (omega arith) c.index-row-i.is)
          (at_part bytes value_of (i * n) (i * n + n) a.matrix.now j (omega arith)
          ∙ ap (at bytes value_of a.matrix.now) (omega arith)))
          ∙ sum_more bytes i (λ k. bytes.times (x k) (m k j));
    }
