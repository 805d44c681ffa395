use Rattle.std.proofs.Common.{ap, arith}
use Rattle.columns.specs.Lines.{due_letter}
use Rattle.reader.proofs.Moves.{errs}
use Rattle.reader.proofs.Runs.{stops_here, stops_exact, head_stops, value_stops}
use Rattle.text.proofs.Bodies.{went_byte, first_stops}
use Rattle.text.proofs.lines.table_line.Goals as goal

pub returns-in_err-head-clause-stops : goal.returns-in_err-head-clause-stops
returns-in_err-head-clause-stops g c =
    errs _ _ _ c.from_residual.ensures.1 (first_stops _ 84 _ _ _ _ (ap due_letter c.requires.table_due) (stops_here _ _ _ _ _ c.in_err-head.ensures.halts))

pub returns-in_err-states-clause-stops : goal.returns-in_err-states-clause-stops
returns-in_err-states-clause-stops g c =
    errs _ _ _ c.from_residual-in_err-states.ensures.1 (head_stops 84 _ c.args.reader.now c.head.new.self _ (went_byte _ _ _ 84 _ (ap due_letter c.requires.table_due) c.in_ok-head.ensures.first_byte) (stops_here _ _ _ _ _ c.in_err-states.ensures.stops))

pub returns-in_err-letters-clause-stops : goal.returns-in_err-letters-clause-stops
returns-in_err-letters-clause-stops g c =
    let a = c.in_ok-states.ensures.in_range in
    errs _ _ _ c.from_residual-in_err-letters.ensures.1
    (head_stops 84 _ c.args.reader.now c.head.new.self _ (went_byte _ _ _ 84 _ (ap due_letter c.requires.table_due) c.in_ok-head.ensures.first_byte)
    (value_stops 0 16 _ c.head.new.self c.within.new.self c.in_ok-states.states _ a.0 a.1 a.2 c.in_ok-states.ensures.value
    (stops_here _ _ _ _ _ c.in_err-letters.ensures.stops)))

pub returns-in_err-within-clause-stops : goal.returns-in_err-within-clause-stops
returns-in_err-within-clause-stops g c =
    let a = c.in_ok-states.ensures.in_range in
    let b = c.in_ok-letters.ensures.in_range in
    errs _ _ _ c.from_residual-in_err-within.ensures.1
    (head_stops 84 _ c.args.reader.now c.head.new.self _ (went_byte _ _ _ 84 _ (ap due_letter c.requires.table_due) c.in_ok-head.ensures.first_byte)
    (value_stops 0 16 _ c.head.new.self c.within.new.self c.in_ok-states.states _ a.0 a.1 a.2 c.in_ok-states.ensures.value
    (value_stops 1 6 _ c.within.new.self c.within-2.new.self c.in_ok-letters.letters _ b.0 b.1 b.2 c.in_ok-letters.ensures.value
    (stops_exact c.order-order.result _ _ _ _ _ c.order-order.ensures.is_order (stops_here _ _ _ _ _ c.in_err-within.ensures.stops)))))

pub returns-in_err-newline-clause-stops : goal.returns-in_err-newline-clause-stops
returns-in_err-newline-clause-stops g c =
    let K = g.F.Field.field in
    let a = c.in_ok-states.ensures.in_range in
    let b = c.in_ok-letters.ensures.in_range in
    let d = c.in_ok-within.ensures.in_range in
    let q = c.order-order.ensures.is_order in
    errs _ _ _ c.from_residual-in_err-newline.ensures.1
    (head_stops 84 _ c.args.reader.now c.head.new.self _ (went_byte _ _ _ 84 _ (ap due_letter c.requires.table_due) c.in_ok-head.ensures.first_byte)
    (value_stops 0 16 _ c.head.new.self c.within.new.self c.in_ok-states.states _ a.0 a.1 a.2 c.in_ok-states.ensures.value
    (value_stops 1 6 _ c.within.new.self c.within-2.new.self c.in_ok-letters.letters _ b.0 b.1 b.2 c.in_ok-letters.ensures.value
    (value_stops K.q K.q _ c.within-2.new.self c.within-3.new.self _ _ d.0 (omega arith) (omega arith) c.in_ok-within.ensures.value
    (stops_here _ _ _ _ _ c.in_err-newline.ensures.halts)))))
