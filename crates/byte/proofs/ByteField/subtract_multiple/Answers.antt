use Rattle.std.proofs.Common.{get_or, ap, ap₂, ◌∙◌, arith}
use Rattle.field.proofs.Rows.{at_read, filled_more}
use Rattle.byte.specs.Bytes.{bytes}
use Rattle.byte.proofs.Rows.{value_of, at_got, product_value}
use Rattle.byte.proofs.ByteField.subtract_multiple.Goals as goal

pub loop-j-preserved : goal.loop-j-preserved
loop-j-preserved c =
    let f = c.loop-j.invariant in
    let j = c.loop-j.j in
    filled_more bytes value_of c.add.result f (omega arith)
    (c.add.ensures.is_sum
    ∙ ap₂ bytes.plus (at_got c.loop-j.row j _ (omega arith) ∙ f.rest j (omega arith))
    (c.mul.ensures.is_product
    ∙ ap (bytes.times (value_of c.args.factor))
    (at_read bytes value_of c.args.other.now j _ (omega arith) c.index-other-j.is)))

pub loop-j-2-preserved : goal.loop-j-2-preserved
loop-j-2-preserved c =
    let f = c.loop-j-2.invariant in
    let j = c.loop-j-2.j in
    filled_more bytes value_of c.add-in-loop-j-2.result f (omega (arith, f.len))
    (c.add-in-loop-j-2.ensures.is_sum
    ∙ ap₂ bytes.plus (at_read bytes value_of c.loop-j-2.row j _ (omega (arith, f.len)) c.index-row-j-in-loop-j-2.is
    ∙ f.rest j (omega arith))
    (product_value c.args.factor (get_or c.args.other.now j c.index-other-j-in-loop-j-2.result) c.from.result
    c.product_by_shifts.result c.from.ensures c.product_by_shifts.ensures.is_product
    ∙ ap (bytes.times (value_of c.args.factor)) (at_got c.args.other.now j _ (omega arith))))

pub loop-j-3-preserved : goal.loop-j-3-preserved
loop-j-3-preserved c =
    let f = c.loop-j-3.invariant in
    let j = c.loop-j-3.j in
    filled_more bytes value_of c.add-in-loop-j-3.result f (omega (arith, f.len))
    (c.add-in-loop-j-3.ensures.is_sum
    ∙ ap₂ bytes.plus (at_read bytes value_of c.loop-j-3.row j _ (omega (arith, f.len)) c.index-row-j-in-loop-j-3.is
    ∙ f.rest j (omega arith))
    (c.mul-in-loop-j-3.ensures.is_product
    ∙ ap (bytes.times (value_of c.args.factor))
    (at_read bytes value_of c.args.other.now j _ (omega arith) c.index-other-j-in-loop-j-3.is)))
