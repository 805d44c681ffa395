use Rattle.std.proofs.Common.{◌≡◌, ◌+◌, ◌-◌, ◌*◌, ◌++◌, length, take, drop, ap, subst, ◌∙◌, arith}
use Rattle.columns.specs.Lines.{due_letter, line}
use Rattle.reader.specs.Items.{line_items, exact_items, after, close, Stops}
use Rattle.reader.specs.Steps.{left, Went, RowsDue}
use Rattle.text.specs.Texts.{code_items}
use Rattle.text.specs.Rows.{codes_of}
use Rattle.reader.proofs.Moves.{errs}
use Rattle.text.proofs.Codes.{high_small, lined_next}
use Rattle.text.proofs.Joins.{rows_fit, part_length}
use Rattle.text.proofs.Limits.{most, shape_limits}
use Rattle.text.proofs.Rows.{lined_none, lined_stops, part_stops}
use Rattle.text.proofs.Bodies.{row_due_some, rows_due_next}
use Rattle.text.proofs.lines.matrices.Goals as goal

pub loop-j-init : goal.loop-j-init
loop-j-init g c = (lined_none _ _ _ _ c.requires.starts.start, let z : c.args.shape.letters * c.args.shape.states ≡ c.args.shape.letters * c.args.shape.states - 0 = omega arith in subst (RowsDue c.args.reader.now) z c.requires.rows_due)

pub slice_bounds-elements-end : goal.slice_bounds-elements-end
slice_bounds-elements-end g c = let h = rows_fit c.loop-j.j (c.args.shape.letters * c.args.shape.states) c.args.shape.states c.loop-j-test.true in omega (arith, c.requires.room)

pub returns-in_err-codes_line-clause-stops : goal.returns-in_err-codes_line-clause-stops
returns-in_err-codes_line-clause-stops g c =
    let K = g.F.Field.field in
    let from = c.loop-j.j * c.args.shape.states in
    let to = from + c.args.shape.states in
    let h = rows_fit c.loop-j.j (c.args.shape.letters * c.args.shape.states) c.args.shape.states c.loop-j-test.true in
    let long = part_length (c.loop-j.j * c.args.shape.states) c.args.shape.states c.loop-j.elements (omega (arith, c.requires.room)) in
    let is_row = ap due_letter (c.loop-j.invariant.1.due ∙ row_due_some (c.args.shape.letters * c.args.shape.states - c.loop-j.j) (omega arith)) in
    errs _ _ _ c.from_residual.ensures.1
    (lined_stops c.args.shape.states (K.q - 1) (high_small K g.F.Field.value) _ c.loop-j.reader _ c.loop-j.j (c.args.shape.letters * c.args.shape.states) _ c.requires.starts.start c.loop-j-test.true c.loop-j.invariant.0
    (part_stops (due_letter c.loop-j.reader.due) c.loop-j.j c.args.shape.states _ (K.q - 1) _ _ _ is_row long (subst (λ hs. Stops (line_items (due_letter c.loop-j.reader.due) (exact_items hs ++ code_items K (length (take (to - from) (drop from c.loop-j.elements))))) c.loop-j.reader.position (left c.loop-j.reader) c.in_err-codes_line.field-0.0) c.heads.ensures.numbered c.in_err-codes_line.ensures.stops)))

pub loop-j-preserved : goal.loop-j-preserved
loop-j-preserved g c =
    let K = g.F.Field.field in
    let value = g.F.Field.value in
    let h = rows_fit c.loop-j.j (c.args.shape.letters * c.args.shape.states) c.args.shape.states c.loop-j-test.true in
    let long = part_length (c.loop-j.j * c.args.shape.states) c.args.shape.states c.loop-j.elements (omega (arith, c.requires.room)) in
    let is_row = ap due_letter (c.loop-j.invariant.1.due ∙ row_due_some (c.args.shape.letters * c.args.shape.states - c.loop-j.j) (omega arith)) in
    let read = c.in_ok-codes_line.ensures.line in (
      lined_next K value c.args.shape.states c.loop-j.elements c.codes_line.new.elements c.loop-j.j _ (omega (arith, most c.args.shape.states c.args.shape.letters (shape_limits c.args.shape))) (omega (arith, c.requires.room)) (c.codes_line.auto.elements ∙ long) _ c.loop-j.reader c.codes_line.new.reader (due_letter c.loop-j.reader.due) is_row c.loop-j.invariant.0 (subst (λ hs. Went c.loop-j.reader c.codes_line.new.reader (line (due_letter c.loop-j.reader.due) (hs ++ codes_of K value c.codes_line.new.elements)) (after close c.loop-j.reader.position)) c.heads.ensures.numbered read),
      rows_due_next _ _ c.loop-j.j (c.args.shape.letters * c.args.shape.states) c.loop-j-test.true c.loop-j.invariant.1 c.in_ok-codes_line.ensures.turned,
    )

pub returns-clause-end_due : goal.returns-clause-end_due
returns-clause-end_due g c = let z : c.args.shape.letters * c.args.shape.states - c.loop-j.j ≡ 0 = omega arith in subst (RowsDue c.loop-j.reader) z c.loop-j.invariant.1
