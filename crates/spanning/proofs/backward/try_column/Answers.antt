use Rattle.std.proofs.Common.{arith}
use Rattle.rows.specs.Seen.{table_of}
use Rattle.spanning.proofs.SpanningColumns.{tried_skip, tried_keep}
use Rattle.spanning.proofs.backward.try_column.Goals as goal

pub returns-in-Some-clause-next_due : goal.returns-in-Some-clause-next_due
returns-in-Some-clause-next_due g c =
    let a = c.args in
    let t = a.table in
    let split = c.split_at_mut-found in
    let kept = c.in-Some.ensures in
    tried_keep g.F.Field.field g.F.Field.value (table_of g.F.Field.field g.F.Field.value t) t.shape.few_states a.i a.letter c.states-n.result c.states-n.ensures.told a.pivots.now.items a.columns.now a.echelon.now split.result.0.now split.result.1.now
    c.matrix.result.now c.matrix_times_column.new.to c.requires.due c.requires.word_found (omega arith) (omega arith) split.ensures.value (omega arith) c.matrix.ensures.matrix_of_letter c.matrix_times_column.ensures.product_written
    c.in-Some.pivot c.deref.result.now c.push.new.self.items c.keep_row.new.echelon c.deref.ensures.0 c.push.ensures.items (kept.all_else_unchanged, kept.nothing_left_or_new_row)

pub returns-in_default-clause-next_due : goal.returns-in_default-clause-next_due
returns-in_default-clause-next_due g c =
    let a = c.args in
    let t = a.table in
    let split = c.split_at_mut-found in
    let kept = c.in_default.ensures in
    tried_skip g.F.Field.field g.F.Field.value (table_of g.F.Field.field g.F.Field.value t) t.shape.few_states a.i a.letter c.states-n.result c.states-n.ensures.told a.pivots.now.items a.columns.now a.echelon.now split.result.0.now split.result.1.now
    c.matrix.result.now c.matrix_times_column.new.to c.requires.due c.requires.word_found (omega arith) (omega arith) split.ensures.value (omega arith) c.matrix.ensures.matrix_of_letter c.matrix_times_column.ensures.product_written
    c.deref.result.now c.keep_row.new.echelon c.deref.ensures.0 (kept.all_else_unchanged, kept.nothing_left_or_new_row)
