use Rattle.std.proofs.Common.{◌≡◌, ◌-◌, ◌*◌, List, ◌++◌, length, replicate, ap, ◌∙◌, arith}
use Rattle.std.specs.List.{range_with_len, flat_map}
use Rattle.std.proofs.lemmas.List.{length-map}
use Rattle.columns.specs.Lines.{due_letter, next}
use Rattle.reader.specs.Items.{Item, ranged, line_items, Stops}
use Rattle.reader.specs.Steps.{left}
use Rattle.text.specs.Rows.{codes_of}
use Rattle.faults.specs.declared.LoadFault.{LoadFault}
use Rattle.text.proofs.Codes.{high_small, codes_high}
use Rattle.reader.proofs.Moves.{errs}
use Rattle.reader.proofs.Runs.{stops_here, head_stops, stops_front}
use Rattle.text.proofs.Rows.{items_at, row_stops, row_past, lines_past}
use Rattle.text.proofs.Bodies.{start_turned, body_went, went_first, went_byte, first_stops}
use Rattle.text.proofs.Laid.{read_laid, flat_stops}
use Rattle.text.proofs.Limits.{most, parts_fit, shape_limits}
use Rattle.text.proofs.table.body.Given as given
use Rattle.text.proofs.table.body.Goals as goal
use Rattle.text.proofs.table.body.Goals.{In_ok-codes_line, In_ok-matrices, In_ok-codes_line-2}

-- how many elements each part took
start_long : (g : given.Over) (c : In_ok-codes_line g) → length c.codes_line.new.elements ≡ c.args.shape.states
start_long g c = c.codes_line.auto.elements ∙ c.split_at_mut-start.ensures.front_len

rows_long : (g : given.Over) (c : In_ok-matrices g) → length c.matrices.new.elements ≡ c.args.shape.letters * c.args.shape.states * c.args.shape.states
rows_long g c = c.matrices.auto.elements ∙ c.split_at_mut-rows.ensures.front_len

end_long : (g : given.Over) (c : In_ok-codes_line-2 g) → length c.codes_line-2.new.elements ≡ c.args.shape.states
end_long g c = omega (arith, c.codes_line-2.auto.elements, c.split_at_mut-start.ensures.back_len, c.split_at_mut-rows.ensures.back_len, parts_fit c.args.shape.states c.args.shape.letters (length c.args.elements.now) c.requires.room)

-- a reader that stops past the start line, past the matrix lines, past the end line
past_start : (g : given.Over) (c : In_ok-codes_line g) (js : List Item) (f : LoadFault) → Stops js c.codes_line.new.reader.position (left c.codes_line.new.reader) f → Stops (line_items 83 (replicate c.args.shape.states (ranged 0 (g.F.Field.field.q - 1))) ++ js) c.args.reader.now.position (left c.args.reader.now) f
past_start g c js f stops =
    let K = g.F.Field.field in
    let value = g.F.Field.value in
    let n = c.args.shape.states in
    let k = c.args.shape.letters in
    row_past (K.q - 1) n (k * n) (high_small K value) (due_letter c.args.reader.now.due) 83 js c.args.reader.now c.codes_line.new.reader (codes_of K value c.codes_line.new.elements) f (ap due_letter c.requires.start_due.due) (length-map c.codes_line.new.elements (λ x. K.code (value x)) ∙ start_long g c) (codes_high K value c.codes_line.new.elements) c.in_ok-codes_line.ensures.line stops

past_rows : (g : given.Over) (c : In_ok-matrices g) (js : List Item) (f : LoadFault) → Stops js c.matrices.new.reader.position (left c.matrices.new.reader) f → Stops (flat_map (items_at (g.F.Field.field.q - 1) c.args.shape.states) (range_with_len 0 (c.args.shape.letters * c.args.shape.states)) ++ js) c.codes_line.new.reader.position (left c.codes_line.new.reader) f
past_rows g c js f stops =
    let K = g.F.Field.field in
    let value = g.F.Field.value in
    let n = c.args.shape.states in
    let k = c.args.shape.letters in
    lines_past (K.q - 1) n (k * n) (high_small K value) js c.codes_line.new.reader c.matrices.new.reader (codes_of K value c.matrices.new.elements) f (omega (arith, most n k (shape_limits c.args.shape))) (length-map c.matrices.new.elements (λ x. K.code (value x)) ∙ rows_long g c) (codes_high K value c.matrices.new.elements) (ap (λ p. p.column) c.in_ok-codes_line.ensures.line.position) c.in_ok-matrices.ensures.lines stops

past_end : (g : given.Over) (c : In_ok-codes_line-2 g) (js : List Item) (f : LoadFault) → Stops js c.codes_line-2.new.reader.position (left c.codes_line-2.new.reader) f → Stops (line_items 69 (replicate c.args.shape.states (ranged 0 (g.F.Field.field.q - 1))) ++ js) c.matrices.new.reader.position (left c.matrices.new.reader) f
past_end g c js f stops =
    let K = g.F.Field.field in
    let value = g.F.Field.value in
    let n = c.args.shape.states in
    let k = c.args.shape.letters in
    row_past (K.q - 1) n (k * n) (high_small K value) (due_letter c.matrices.new.reader.due) 69 js c.matrices.new.reader c.codes_line-2.new.reader (codes_of K value c.codes_line-2.new.elements) f (ap due_letter c.in_ok-matrices.ensures.end_due.due) (length-map c.codes_line-2.new.elements (λ x. K.code (value x)) ∙ end_long g c) (codes_high K value c.codes_line-2.new.elements) c.in_ok-codes_line-2.ensures.line stops

-- the last line is due
closing : (g : given.Over) (c : In_ok-codes_line-2 g) → due_letter c.codes_line-2.new.reader.due ≡ 90
closing g c = ap due_letter (c.in_ok-codes_line-2.ensures.turned.due ∙ ap (next c.matrices.new.reader.rows) c.in_ok-matrices.ensures.end_due.due)

pub returns-in_err-codes_line-clause-stops : goal.returns-in_err-codes_line-clause-stops
returns-in_err-codes_line-clause-stops g c =
    let K = g.F.Field.field in
    let value = g.F.Field.value in
    let n = c.args.shape.states in
    let k = c.args.shape.letters in
    errs _ _ _ c.from_residual.ensures.1
    (flat_stops K value n k c.args.reader.now _
    (row_stops (K.q - 1) n (k * n) (high_small K value) (due_letter c.args.reader.now.due) 83 _ _ _ _ _ (ap due_letter c.requires.start_due.due) c.split_at_mut-start.ensures.front_len c.in_err-codes_line.ensures.stops))

pub returns-in_err-matrices-clause-stops : goal.returns-in_err-matrices-clause-stops
returns-in_err-matrices-clause-stops g c =
    let at = goal.at.returns-in_err-matrices-clause-stops g c in
    errs _ _ _ c.from_residual-in_err-matrices.ensures.1
    (flat_stops g.F.Field.field g.F.Field.value c.args.shape.states c.args.shape.letters c.args.reader.now _
    (past_start g at.In_ok-codes_line _ _ (stops_front _ _ _ _ _ c.in_err-matrices.ensures.stops)))

pub returns-in_err-codes_line-2-clause-stops : goal.returns-in_err-codes_line-2-clause-stops
returns-in_err-codes_line-2-clause-stops g c =
    let at = goal.at.returns-in_err-codes_line-2-clause-stops g c in
    let K = g.F.Field.field in
    let value = g.F.Field.value in
    let n = c.args.shape.states in
    let k = c.args.shape.letters in
    let long : length c.split_at_mut-rows.result.1.now ≡ n = omega (arith, c.split_at_mut-start.ensures.back_len, c.split_at_mut-rows.ensures.back_len, parts_fit n k (length c.args.elements.now) c.requires.room) in
    errs _ _ _ c.from_residual-in_err-codes_line-2.ensures.1
    (flat_stops K value n k c.args.reader.now _
    (past_start g at.In_ok-codes_line _ _
    (past_rows g at.In_ok-matrices _ _
    (row_stops (K.q - 1) n (k * n) (high_small K value) (due_letter c.matrices.new.reader.due) 69 _ _ _ _ _ (ap due_letter c.in_ok-matrices.ensures.end_due.due) long c.in_err-codes_line-2.ensures.stops))))

pub returns-in_err-head-clause-stops : goal.returns-in_err-head-clause-stops
returns-in_err-head-clause-stops g c =
    let at = goal.at.returns-in_err-head-clause-stops g c in
    errs _ _ _ c.from_residual-in_err-head.ensures.1
    (flat_stops g.F.Field.field g.F.Field.value c.args.shape.states c.args.shape.letters c.args.reader.now _
    (past_start g at.In_ok-codes_line _ _
    (past_rows g at.In_ok-matrices _ _
    (past_end g at.In_ok-codes_line-2 _ _
    (first_stops (due_letter c.codes_line-2.new.reader.due) 90 _ _ _ _ (closing g at.In_ok-codes_line-2) (stops_here _ _ _ _ _ c.in_err-head.ensures.halts))))))

pub returns-in_err-newline-clause-stops : goal.returns-in_err-newline-clause-stops
returns-in_err-newline-clause-stops g c =
    let at = goal.at.returns-in_err-newline-clause-stops g c in
    errs _ _ _ c.from_residual-in_err-newline.ensures.1
    (flat_stops g.F.Field.field g.F.Field.value c.args.shape.states c.args.shape.letters c.args.reader.now _
    (past_start g at.In_ok-codes_line _ _
    (past_rows g at.In_ok-matrices _ _
    (past_end g at.In_ok-codes_line-2 _ _
    (first_stops (due_letter c.codes_line-2.new.reader.due) 90 _ _ _ _ (closing g at.In_ok-codes_line-2)
    (head_stops _ _ c.codes_line-2.new.reader c.head.new.self _ c.in_ok-head.ensures.first_byte (stops_here _ _ _ _ _ c.in_err-newline.ensures.halts)))))))

pub returns : goal.returns
returns g c =
    let at = goal.at.returns g c in
    let K = g.F.Field.field in
    let value = g.F.Field.value in
    let n = c.args.shape.states in
    let k = c.args.shape.letters in
    let start = c.codes_line.new.elements in
    let rows = c.matrices.new.elements in
    let end = c.codes_line-2.new.elements in
    record {
      stops = tt;
      lines =
          read_laid K value c.args.reader.now c.newline.new.self _ start rows end n k (start_long g at.In_ok-codes_line) (rows_long g at.In_ok-matrices) (end_long g at.In_ok-codes_line-2)
          (body_went n (k * n) c.args.reader.now c.codes_line.new.reader c.matrices.new.reader c.codes_line-2.new.reader c.head.new.self c.newline.new.self (codes_of K value start) (codes_of K value rows) (codes_of K value end)
          (went_first _ _ (due_letter c.args.reader.now.due) 83 (codes_of K value start) _ (ap due_letter c.requires.start_due.due) c.in_ok-codes_line.ensures.line)
          c.in_ok-matrices.ensures.lines
          (went_first _ _ (due_letter c.matrices.new.reader.due) 69 (codes_of K value end) _ (ap due_letter c.in_ok-matrices.ensures.end_due.due) c.in_ok-codes_line-2.ensures.line)
          (went_byte _ _ (due_letter c.codes_line-2.new.reader.due) 90 _ (closing g at.In_ok-codes_line-2) c.in_ok-head.ensures.first_byte)
          c.in_ok-newline.ensures.next_line);
    }

pub matrices-requires-clause-rows_due : goal.matrices-requires-clause-rows_due
matrices-requires-clause-rows_due g c = start_turned _ _ _ c.requires.start_due c.in_ok-codes_line.ensures.turned
