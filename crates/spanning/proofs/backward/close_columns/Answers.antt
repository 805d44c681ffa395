use Rattle.std.proofs.Common.{length, arith}
use Rattle.rows.specs.Seen.{table_of}
use Rattle.spanning.proofs.SpanningColumns.{due_next, due_done}
use Rattle.spanning.proofs.backward.close_columns.Goals as goal

pub loop-i-preserved : goal.loop-i-preserved
loop-i-preserved g c =
    let K = g.F.Field.field in let v = g.F.Field.value in
    let t = c.args.table in
    let tried = c.try_columns in
    due_next K v (table_of K v t) t.shape.few_states c.loop-i.i (length tried.new.pivots.items) tried.new.pivots.items tried.new.columns tried.new.echelon tried.ensures.word_found tried.ensures.all_tried

pub returns-clause-spanned : goal.returns-clause-spanned
returns-clause-spanned g c =
    let K = g.F.Field.field in let v = g.F.Field.value in
    let t = c.args.table in
    let due = c.loop-i.invariant in
    let upto = due.upto in
    let ps = c.loop-i.pivots.items in
    due_done K v (table_of K v t) t.shape.few_states c.loop-i.i (length ps) ps c.loop-i.columns c.loop-i.echelon (omega arith) due
