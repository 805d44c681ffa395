use Rattle.std.proofs.Common.{[], length, ap}
use Rattle.std.proofs.lemmas.Result.{err_from_is_err_and}
use Rattle.book.specs.Verdicts.{unwritten}
use Rattle.shelf.specs.Views.{state, lent_besides}
use Rattle.packing.specs.Packing.{Fails}
use Rattle.packing.proofs.Failures.{load_fails}
use Rattle.packing.proofs.Packs.{failed, reduces_then, compares_then, writes_then, packs}
use Rattle.packing.proofs.pack.Goals as goal

pub returns-in_err-load-clause-fails : goal.returns-in_err-load-clause-fails
returns-in_err-load-clause-fails g c =
    let K = g.F.Field.field in
    let v = g.F.Field.value in
    let text = c.args.text.now in
    let mem = c.args.shelf.now in
    let out = c.args.output.now in
    let s = state c.open-directory.result mem (length c.args.work.now) out c.blank-verdict.result in
    let d = c.in_err-load.ensures.does (lent_besides out c.blank-verdict.result) in
    failed (Fails K v text (length c.args.work.now) (length out) mem c.load.new.shelf) c.from_residual.result (err_from_is_err_and c.from_residual.result c.from_residual.ensures.1)
    (load_fails K s text v (length out) c.load.new.shelf c.in_err-load.field-0.0 d.0 (ap (λ t. t.shelf.memory) d.1))

pub returns-in_err-reduce-clause-fails : goal.returns-in_err-reduce-clause-fails
returns-in_err-reduce-clause-fails g c =
    let out = c.args.output.now in
    let z = c.blank-verdict.result in
    absurd (reduces_then g.F.Field.field g.F.Field.value c.args.text.now c.open-directory.result c.load.new.self c.args.shelf.now c.load.new.shelf (length c.args.work.now) (length c.load.new.work) out z
    c.open-directory.ensures.all_empty (c.in_ok-load.ensures.does (lent_besides out z)) c.in_err-reduce.field-0.0 (c.in_err-reduce.ensures.does (lent_besides out z)).0)

pub returns-in_err-compare-clause-fails : goal.returns-in_err-compare-clause-fails
returns-in_err-compare-clause-fails g c =
    let out = c.args.output.now in
    let z = c.blank-verdict.result in
    absurd (compares_then g.F.Field.field g.F.Field.value c.args.text.now c.open-directory.result c.load.new.self c.args.shelf.now c.load.new.shelf (length c.args.work.now) (length c.load.new.work) out z
    c.open-directory.ensures.all_empty (c.in_ok-load.ensures.does (lent_besides out z)) c.reduce.new.self c.reduce.new.shelf (length c.reduce.new.work) (c.in_ok-reduce.ensures.does (lent_besides out z))
    c.in_err-compare.field-0.0 (c.in_err-compare.ensures.does (lent_besides out unwritten)).0)

pub returns-in_default-clause-fails : goal.returns-in_default-clause-fails
returns-in_default-clause-fails g c =
    let out = c.args.output.now in
    let z = c.blank-verdict.result in
    let w₃ = length c.compare.new.work in
    let z' = c.compare.new.verdict in
    writes_then g.F.Field.field g.F.Field.value c.args.text.now c.open-directory.result c.load.new.self c.args.shelf.now c.load.new.shelf (length c.args.work.now) (length c.load.new.work) out z
    c.open-directory.ensures.all_empty (c.in_ok-load.ensures.does (lent_besides out z)) c.reduce.new.self c.reduce.new.shelf (length c.reduce.new.work) (c.in_ok-reduce.ensures.does (lent_besides out z))
    w₃ z' c.in_default.field-0 (c.in_default.ensures.does (record { work = w₃; output = []; verdict = z' })).0

pub returns-in_default-clause-output_unchanged : goal.returns-in_default-clause-output_unchanged
returns-in_default-clause-output_unchanged g c = ap (λ t. t.lent.output) (c.in_default.ensures.does (record { work = length c.compare.new.work; output = []; verdict = c.compare.new.verdict })).1

pub returns-clause-packs : goal.returns-clause-packs
returns-clause-packs g c =
    let out = c.args.output.now in
    let z = c.blank-verdict.result in
    let w₃ = length c.compare.new.work in
    let z' = c.compare.new.verdict in
    packs g.F.Field.field g.F.Field.value c.args.text.now c.open-directory.result c.load.new.self c.args.shelf.now c.load.new.shelf (length c.args.work.now) (length c.load.new.work) out z
    c.open-directory.ensures.all_empty (c.in_ok-load.ensures.does (lent_besides out z)) c.reduce.new.self c.reduce.new.shelf (length c.reduce.new.work) (c.in_ok-reduce.ensures.does (lent_besides out z))
    w₃ z' (c.in_ok-compare.ensures.does (lent_besides out unwritten)) c.in-Ok.bytes c.write.new.output (c.in-Ok.ensures.does (record { work = w₃; output = []; verdict = z' })) c.states.result c.states-2.result c.states.ensures.states_of_place c.states-2.ensures.states_of_place
