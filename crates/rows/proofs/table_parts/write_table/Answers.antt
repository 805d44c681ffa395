use Rattle.std.proofs.Common.{◌≡◌, ◌++◌, sym, ap, ◌∙◌, subst, arith, mul_assoc}
use Rattle.rows.specs.Layout.{end_offset}
use Rattle.rows.specs.Writing.{WritesPart, WritesRows}
use Rattle.rows.proofs.Writing.{part_first, rows_moved, part_moved}
use Rattle.rows.proofs.table_parts.write_table.Goals as goal

pub returns-clause-start_written : goal.returns-clause-start_written
returns-clause-start_written g c =
    let n = c.args.shape.states in
    let front = c.split_at_mut-start in
    let back = c.split_at_mut-rows in
    let whole : c.args.to.now ≡ front.result.0.now ++ (back.result.0.now ++ back.result.1.now) = front.ensures.value ∙ ap (λ xs. front.result.0.now ++ xs) back.ensures.value in
    subst (λ xs. WritesPart g.S.FnOnce c.args.write_start n 0 xs (c.write_start.new.arg2 ++ (c.write_rows.new.to ++ c.write_end.new.arg2))) (sym whole)
    (part_first g.S.FnOnce c.args.write_start n (back.result.0.now ++ back.result.1.now) (c.write_rows.new.to ++ c.write_end.new.arg2) (omega arith) c.write_start.ensures (omega arith))

pub returns-clause-rows_written : goal.returns-clause-rows_written
returns-clause-rows_written g c =
    let n = c.args.shape.states in
    let k = c.args.shape.letters in
    let front = c.split_at_mut-start in
    let back = c.split_at_mut-rows in
    let whole : c.args.to.now ≡ front.result.0.now ++ (back.result.0.now ++ back.result.1.now) = front.ensures.value ∙ ap (λ xs. front.result.0.now ++ xs) back.ensures.value in
    subst (λ xs. WritesRows g.R.Fn c.args.write_row n k n xs (c.write_start.new.arg2 ++ (c.write_rows.new.to ++ c.write_end.new.arg2))) (sym whole)
    (rows_moved g.R.Fn c.args.write_row n front.result.0.now c.write_start.new.arg2 back.result.1.now c.write_end.new.arg2 c.write_rows.ensures.rows_written
    (omega arith) (omega arith) (omega (arith, mul_assoc k n n)) (omega (arith, mul_assoc k n n)))

pub returns-clause-end_written : goal.returns-clause-end_written
returns-clause-end_written g c =
    let n = c.args.shape.states in
    let k = c.args.shape.letters in
    let front = c.split_at_mut-start in
    let back = c.split_at_mut-rows in
    let whole : c.args.to.now ≡ front.result.0.now ++ (back.result.0.now ++ back.result.1.now) = front.ensures.value ∙ ap (λ xs. front.result.0.now ++ xs) back.ensures.value in
    subst (λ xs. WritesPart g.E.FnOnce c.args.write_end n (end_offset 0 n k) xs (c.write_start.new.arg2 ++ (c.write_rows.new.to ++ c.write_end.new.arg2))) (sym whole)
    (part_moved g.E.FnOnce c.args.write_end n front.result.0.now c.write_start.new.arg2 back.result.0.now c.write_rows.new.to (omega arith) c.write_end.ensures
    (omega (arith, mul_assoc k n n)) (omega (arith, mul_assoc k n n)))
