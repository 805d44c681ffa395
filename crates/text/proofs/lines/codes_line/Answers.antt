use Rattle.std.proofs.Common.{refl, ◌∙◌}
use Rattle.std.proofs.lemmas.List.{length-map}
use Rattle.columns.specs.Lines.{due_letter}
use Rattle.reader.specs.Items.{exact_items}
use Rattle.text.proofs.Codes.{high_small, codes_high}
use Rattle.reader.proofs.Moves.{errs}
use Rattle.reader.proofs.Runs.{stops_here, head_stops, stops_front, exact_past, goes_append, goes_exact, goes_row, heads_after, went_on, line_stops, expects_on}
use Rattle.text.proofs.lines.codes_line.Goals as goal

pub returns-in_err-head-clause-stops : goal.returns-in_err-head-clause-stops
returns-in_err-head-clause-stops g c = errs _ _ _ c.from_residual.ensures.1 (stops_here _ _ _ _ _ c.in_err-head.ensures.halts)

pub returns-in_err-exactly-clause-stops : goal.returns-in_err-exactly-clause-stops
returns-in_err-exactly-clause-stops g c = errs _ _ _ c.from_residual-in_err-exactly.ensures.1
    (head_stops (due_letter c.args.reader.now.due) _ c.args.reader.now c.head.new.self _ c.in_ok-head.ensures.first_byte
    (stops_front _ _ _ _ _ (stops_front (exact_items c.args.heads.now) _ _ _ _ c.in_err-exactly.ensures.stops)))

pub returns-in_err-codes-clause-stops : goal.returns-in_err-codes-clause-stops
returns-in_err-codes-clause-stops g c =
    errs _ _ _ c.from_residual-in_err-codes.ensures.1
    (head_stops (due_letter c.args.reader.now.due) _ c.args.reader.now c.head.new.self _ c.in_ok-head.ensures.first_byte
    (stops_front _ _ _ _ _ (exact_past c.args.heads.now _ _ _ _ c.in_ok-exactly.ensures.ten_digits c.in_ok-exactly.ensures.values c.in_err-codes.ensures.stops)))

pub returns-in_err-newline-clause-stops : goal.returns-in_err-newline-clause-stops
returns-in_err-newline-clause-stops g c =
    let K = g.F.Field.field in
    let value = g.F.Field.value in
    let row = goes_row _ _ _ (high_small K value) (length-map c.codes.new.elements (λ x. K.code (value x)) ∙ c.codes.auto.elements) (codes_high K value c.codes.new.elements) in
    errs _ _ _ c.from_residual-in_err-newline.ensures.1
    (line_stops (due_letter c.args.reader.now.due) c.args.reader.now c.head.new.self c.codes.new.reader _ _ c.in_ok-head.ensures.first_byte
    (went_on _ _ _ _ _ _ _ _ refl c.in_ok-exactly.ensures.values c.in_ok-codes.ensures.row)
    _ _ (goes_append _ _ _ _ (goes_exact c.args.heads.now c.in_ok-exactly.ensures.ten_digits) row) (heads_after c.args.heads.now _ _ _) c.in_err-newline.ensures.halts)

pub returns-clause-turned : goal.returns-clause-turned
returns-clause-turned g c = expects_on _ _ _ _ (expects_on _ _ _ _ (expects_on _ _ _ _ c.in_ok-head.ensures.turned c.in_ok-exactly.ensures.same_line) c.in_ok-codes.ensures.same_line) c.in_ok-newline.ensures.same_line
