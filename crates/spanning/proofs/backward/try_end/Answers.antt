use Rattle.std.proofs.Common.{sym, ◌∙◌, subst}
use Rattle.field.specs.Rows.{RowOf}
use Rattle.rows.specs.Seen.{table_of}
use Rattle.spanning.proofs.SpanningColumns.{end_skip, end_keep}
use Rattle.spanning.proofs.backward.try_end.Goals as goal

pub returns-in-Some : goal.returns-in-Some
returns-in-Some g c =
    let K = g.F.Field.field in let v = g.F.Field.value in
    let a = c.args in
    let T = table_of K v a.table in
    let made = subst (RowOf K v T.states T.end) (sym c.copy_from_slice.ensures.after) c.end.ensures.end_column in
    let kept = c.in-Some.ensures in
    record {
      due =
          end_keep K v T a.table.shape.few_states c.states.result c.states.ensures.told a.columns.now a.echelon.now c.copy_from_slice.new.self c.requires.room made
          c.in-Some.pivot c.deref.result.now a.pivots.now.items c.push.new.self.items c.keep_row.new.echelon (c.deref.ensures.0 ∙ c.requires.none_found) c.requires.none_found c.push.ensures.items
          (kept.all_else_unchanged, kept.nothing_left_or_new_row);
    }

pub returns-in_default : goal.returns-in_default
returns-in_default g c =
    let K = g.F.Field.field in let v = g.F.Field.value in
    let a = c.args in
    let T = table_of K v a.table in
    let made = subst (RowOf K v T.states T.end) (sym c.copy_from_slice.ensures.after) c.end.ensures.end_column in
    let kept = c.in_default.ensures in
    record {
      due =
          end_skip K v T a.table.shape.few_states c.states.result c.states.ensures.told a.columns.now a.echelon.now c.copy_from_slice.new.self c.requires.room made
          c.deref.result.now a.pivots.now.items c.keep_row.new.echelon (c.deref.ensures.0 ∙ c.requires.none_found) c.requires.none_found (kept.all_else_unchanged, kept.nothing_left_or_new_row);
    }
