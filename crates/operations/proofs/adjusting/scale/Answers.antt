use Rattle.std.proofs.Common.{◌≡◌, ◌+◌, ◌-◌, length, sym, ap, ◌∙◌, subst, arith}
use Rattle.series.specs.Operations.{scaled_table}
use Rattle.series.proofs.Operations.{scaled_weight}
use Rattle.field.specs.Rows.{at}
use Rattle.rows.specs.Layout.{end_offset}
use Rattle.rows.specs.Seen.{table_of, HoldsTable}
use Rattle.field.proofs.Rows.{length_part, at_part}
use Rattle.rows.proofs.Held.{row_long, row_same, held_but_end, held_weighs}
use Rattle.operations.proofs.adjusting.scale.Goals as goal

pub returns : goal.returns
returns g c =
    let K = g.F.Field.field in let v = g.F.Field.value in
    let T = table_of K v c.args.table in
    let x = v c.args.factor in
    let xs = c.copy_from_slice.new.self in
    let copied : HoldsTable K v T xs = subst (HoldsTable K v T) (sym c.copy_from_slice.ensures.after) c.elements.ensures.holds_it in
    let e = length xs - c.states.result in
    let from : e ≡ end_offset 0 T.states T.letters = omega (arith, copied.len) in
    let end =
    row_same K v (row_long K v c.scale_row.ensures.multiple_written (length_part e (length xs) xs (omega arith) (omega arith) ∙ omega (arith, copied.len)))
    (λ i l. ap (K.times x) (at_part K v e (length xs) xs i (omega (arith, copied.len)) ∙ ap (λ b. at K v xs (b + i)) from ∙ copied.same.end i l)) in
    let made = held_but_end K v T e (length xs - e) xs c.scale_row.new.row copied end from (omega arith) in
    record { scaled_written = made; weighs_the_multiple = λ w o. held_weighs K v (scaled_table K x T) _ made w o ∙ scaled_weight K x T w }
