use Rattle.std.proofs.Common.{◌≡◌, ◌+◌, ◌*◌, get_or, sym, ap, ap₂, ◌∙◌, arith}
use Rattle.field.specs.Rows.{at}
use Rattle.field.proofs.Rows.{at_read}
use Rattle.byte.specs.Bytes.{bytes}
use Rattle.byte.proofs.Rows.{value_of, at_got, product_value, summed_more}
use Rattle.byte.proofs.ByteField.dot.Goals as goal

pub loop-i-preserved : goal.loop-i-preserved
loop-i-preserved c =
    let a = c.args in
    let i = c.loop-i.i in
    summed_more a.row.now a.ys.now a.column a.step i c.loop-i.sum c.mul.result c.add-sum.result c.loop-i.invariant
    c.add-sum.ensures.is_sum
    (c.mul.ensures.is_product
    ∙ ap₂ bytes.times (at_read bytes value_of a.row.now i _ (omega arith) c.index-row-i.is)
    (at_read bytes value_of a.ys.now (a.column + i * a.step) _ (c.requires.column_within i (omega arith))
    c.index-ys-column.is))

pub loop-i-2-preserved : goal.loop-i-2-preserved
loop-i-2-preserved c =
    let a = c.args in
    let i = c.loop-i-2.i in
    let within = c.requires.column_within i (omega arith) in
    let here : a.column + i ≡ a.column + i * a.step =
    omega arith ∙ ap (λ s. a.column + i * s) {x = 1} {y = a.step} (sym c.if-step-ne1.false) in
    let x = get_or a.row.now i c.index-row-i-in-loop-i-2.result in
    let y = get_or a.ys.now (a.column + i) c.index-ys-column-in-loop-i-2.result in
    summed_more a.row.now a.ys.now a.column a.step i c.loop-i-2.sum c.from.result c.add-sum-in-loop-i-2.result
    c.loop-i-2.invariant c.add-sum-in-loop-i-2.ensures.is_sum
    (product_value x y c.from.result c.product_by_shifts.result c.from.ensures c.product_by_shifts.ensures.is_product
    ∙ ap₂ bytes.times (at_got a.row.now i _ (omega arith))
    (at_got a.ys.now (a.column + i) _ (omega (arith, within, here)) ∙ ap (at bytes value_of a.ys.now) here))

pub loop-i-3-preserved : goal.loop-i-3-preserved
loop-i-3-preserved c =
    let a = c.args in
    let i = c.loop-i-3.i in
    let within = c.requires.column_within i (omega arith) in
    let here : a.column + i ≡ a.column + i * a.step =
    omega arith ∙ ap (λ s. a.column + i * s) {x = 1} {y = a.step} (sym c.if-step-ne1.false) in
    summed_more a.row.now a.ys.now a.column a.step i c.loop-i-3.sum c.mul-in-loop-i-3.result
    c.add-sum-in-loop-i-3.result c.loop-i-3.invariant c.add-sum-in-loop-i-3.ensures.is_sum
    (c.mul-in-loop-i-3.ensures.is_product
    ∙ ap₂ bytes.times (at_read bytes value_of a.row.now i _ (omega arith) c.index-row-i-in-loop-i-3.is)
    (at_read bytes value_of a.ys.now (a.column + i) _ (omega (arith, within, here)) c.index-ys-column-in-loop-i-3.is
    ∙ ap (at bytes value_of a.ys.now) here))
