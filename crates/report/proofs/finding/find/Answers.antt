use Rattle.std.proofs.Common.{[], length, ap, arith}
use Rattle.book.specs.Verdicts.{unwritten}
use Rattle.shelf.specs.Views.{state, lent_besides}
use Rattle.report.proofs.Found.{tells_first, tells_second, tells_neither, tells_verdict}
use Rattle.report.proofs.finding.find.Goals as goal

pub returns-in_err-map_err-clause-reports : goal.returns-in_err-map_err-clause-reports
returns-in_err-map_err-clause-reports g c =
    tells_first g.F.Field.field g.F.Field.value c.args.first.now c.args.second.now
    (state c.open-directory.result c.args.shelf.now (length c.args.work.now) [] unwritten) (state c.load.new.self c.load.new.shelf (length c.load.new.work) [] unwritten)
    c.load.result c.in_err-map_err.field-0.0 c.from_residual.result (c.requires.shelf_enough, c.requires.work_enough)
    (c.load.ensures.does (lent_besides [] unwritten)) (c.in_err-map_err.ensures.cases, c.from_residual.ensures.1)

pub returns-in_err-map_err-2-clause-reports : goal.returns-in_err-map_err-2-clause-reports
returns-in_err-map_err-2-clause-reports g c =
    tells_second g.F.Field.field g.F.Field.value c.args.first.now c.args.second.now
    (state c.open-directory.result c.args.shelf.now (length c.args.work.now) [] unwritten) (state c.load.new.self c.load.new.shelf (length c.load.new.work) [] unwritten)
    (state c.load-2.new.self c.load-2.new.shelf (length c.load-2.new.work) [] unwritten) c.load.result c.load-2.result c.in_err-map_err-2.field-0.0 c.from_residual-in_err-map_err-2.result
    (omega (arith, c.load.auto.shelf, c.requires.shelf_enough), omega (arith, c.load.auto.work, c.requires.work_enough))
    (c.load.ensures.does (lent_besides [] unwritten)) c.in_ok-map_err.ensures.variant
    (c.load-2.ensures.does (lent_besides [] unwritten)) (c.in_err-map_err-2.ensures.cases, c.from_residual-in_err-map_err-2.ensures.1)

pub returns-in_err-map_err-3-clause-reports : goal.returns-in_err-map_err-3-clause-reports
returns-in_err-map_err-3-clause-reports g c =
    let v = c.blank-verdict.result in
    tells_neither g.F.Field.field g.F.Field.value c.args.first.now c.args.second.now
    (state c.open-directory.result c.args.shelf.now (length c.args.work.now) [] v) (state c.load.new.self c.load.new.shelf (length c.load.new.work) [] v)
    (state c.load-2.new.self c.load-2.new.shelf (length c.load-2.new.work) [] v) c.load.result c.load-2.result (ap length c.open-directory.ensures.all_empty)
    (c.load.ensures.does (lent_besides [] v)) c.in_ok-map_err.ensures.variant (c.load-2.ensures.does (lent_besides [] v)) c.in_ok-map_err-2.ensures.variant
    (state c.load-2.new.self c.load-2.new.shelf (length c.compare.new.work) [] c.compare.new.verdict) c.compare.result c.in_err-map_err-3.field-0.0 c.from_residual-in_err-map_err-3.result
    (omega (arith, c.load-2.auto.shelf, c.load.auto.shelf, c.requires.shelf_enough), omega (arith, c.load-2.auto.work, c.load.auto.work, c.requires.work_enough))
    (c.compare.ensures.does (lent_besides [] unwritten)) (c.in_err-map_err-3.ensures.cases, c.from_residual-in_err-map_err-3.ensures.1)

pub returns : goal.returns
returns g c =
    let v = c.blank-verdict.result in
    let h =
    tells_verdict g.F.Field.field g.F.Field.value c.args.first.now c.args.second.now
    (state c.open-directory.result c.args.shelf.now (length c.args.work.now) [] v) (state c.load.new.self c.load.new.shelf (length c.load.new.work) [] v)
    (state c.load-2.new.self c.load-2.new.shelf (length c.load-2.new.work) [] v) c.load.result c.load-2.result (ap length c.open-directory.ensures.all_empty)
    (c.load.ensures.does (lent_besides [] v)) c.in_ok-map_err.ensures.variant (c.load-2.ensures.does (lent_besides [] v)) c.in_ok-map_err-2.ensures.variant
    (state c.load-2.new.self c.load-2.new.shelf (length c.compare.new.work) [] c.compare.new.verdict) c.compare.result
    (c.compare.ensures.does (lent_besides [] unwritten)) c.in_ok-map_err-3.ensures.variant in
    record { reports = h.0; fits = h.1 }
