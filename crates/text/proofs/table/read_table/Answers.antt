use Rattle.std.proofs.Common.{◌≡◌, ℕ, ◌-◌, length, sym, ◌∙◌, subst, arith}
use Rattle.std.proofs.lemmas.Result.{err_from_is_err_and}
use Rattle.rows.specs.Layout.{table_size}
use Rattle.text.specs.Readings.{Refuses}
use Rattle.text.proofs.Decides.{decided}
use Rattle.columns.proofs.Filled.{cut_length}
use Rattle.text.proofs.Limits.{shape_limits}
use Rattle.text.proofs.Verdicts.{frame_none, frame_front, first_refuses, body_refuses, accepts, past_refuses}
use Rattle.text.proofs.table.read_table.Goals as goal

pub returns-in_err-shape : goal.returns-in_err-shape
returns-in_err-shape g c =
    let K = g.F.Field.field in
    let p = err_from_is_err_and c.from_residual.result c.from_residual.ensures.1 in
    let text = c.args.text.now in
    let refused = first_refuses K g.F.Field.value text c.new-reader.result c.new-reader.ensures.at_the_start _ c.in_err-shape.ensures.stops in
    rw (p.1, p.2) (record { accepted = tt; table_alone_written = tt; refused = refused; refused_has_no_table = λ e T s t. (decided K text).0 T _ s t refused; front_alone_written = frame_none 1568 c.args.work.now })

pub returns-in_err-body : goal.returns-in_err-body
returns-in_err-body g c =
    let K = g.F.Field.field in
    let p = err_from_is_err_and c.from_residual-in_err-body.result c.from_residual-in_err-body.ensures.1 in
    let text = c.args.text.now in
    let got = c.in_ok-shape.ensures.shape in
    let n = c.in_ok-shape.shape.states in
    let k = c.in_ok-shape.shape.letters in
    let taken : length c.body.new.elements ≡ c.size.result = c.body.auto.elements ∙ cut_length 0 c.size.result c.size.result c.args.work.now (omega arith) (omega (arith, c.requires.room, c.size.ensures.at_most_largest)) in
    let refused = body_refuses K g.F.Field.value text c.new-reader.result c.new-reader.ensures.at_the_start c.table_line.new.reader n k (shape_limits c.in_ok-shape.shape) got _ c.in_err-body.ensures.stops in
    rw (p.1, p.2) (record { accepted = tt; table_alone_written = tt; refused = refused; refused_has_no_table = λ e T s t. (decided K text).0 T _ s t refused; front_alone_written = frame_front c.size.result 1568 c.args.work.now c.body.new.elements taken c.size.ensures.at_most_largest c.requires.room })

pub returns-in_err-finish : goal.returns-in_err-finish
returns-in_err-finish g c =
    let K = g.F.Field.field in
    let p = err_from_is_err_and c.from_residual-in_err-finish.result c.from_residual-in_err-finish.ensures.1 in
    let text = c.args.text.now in
    let got = c.in_ok-shape.ensures.shape in
    let n = c.in_ok-shape.shape.states in
    let k = c.in_ok-shape.shape.letters in
    let work = c.args.work.now in
    let ys = c.body.new.elements in
    let taken : length ys ≡ c.size.result = c.body.auto.elements ∙ cut_length 0 c.size.result c.size.result work (omega arith) (omega (arith, c.requires.room, c.size.ensures.at_most_largest)) in
    let long : length ys ≡ table_size n k = taken ∙ c.size.ensures.is_table_size in
    let more = c.in_err-finish.ensures.beyond in
    let refused = past_refuses K g.F.Field.value text c.new-reader.result c.new-reader.ensures.at_the_start c.table_line.new.reader n k (shape_limits c.in_ok-shape.shape) got c.body.new.reader (c.size.result - 0) work ys long c.in_ok-body.ensures.lines more.0 in
    let said = subst (Refuses K text) (sym more.1) refused in
    rw (p.1, p.2) (record { accepted = tt; table_alone_written = tt; refused = said; refused_has_no_table = λ e T s t. (decided K text).0 T _ s t said; front_alone_written = frame_front c.size.result 1568 work ys taken c.size.ensures.at_most_largest c.requires.room })

pub returns : goal.returns
returns g c =
    let K = g.F.Field.field in
    let got = c.in_ok-shape.ensures.shape in
    let n = c.in_ok-shape.shape.states in
    let k = c.in_ok-shape.shape.letters in
    let work = c.args.work.now in
    let ys = c.body.new.elements in
    let taken : length ys ≡ c.size.result = c.body.auto.elements ∙ cut_length 0 c.size.result c.size.result work (omega arith) (omega (arith, c.requires.room, c.size.ensures.at_most_largest)) in
    let long : length ys ≡ table_size n k = taken ∙ c.size.ensures.is_table_size in
    record {
      refused = tt;
      front_alone_written = tt;
      accepted = accepts K g.F.Field.value c.args.text.now c.new-reader.result c.new-reader.ensures.at_the_start c.table_line.new.reader n k (shape_limits c.in_ok-shape.shape) got c.body.new.reader (c.size.result - 0) work ys long c.in_ok-body.ensures.lines c.in_ok-finish.ensures.over;
      refused_has_no_table = λ e T s t. let z : ◌≡◌ {A = ℕ} 0 1 = cc in omega arith;
      table_alone_written = frame_front c.size.result (table_size n k) work ys taken (omega (arith, c.size.ensures.is_table_size)) (omega (arith, c.requires.room));
    }
