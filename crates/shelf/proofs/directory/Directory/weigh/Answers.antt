use Rattle.std.proofs.Common.{length, sym, refl, ap, ◌∙◌, subst}
use Rattle.series.specs.Words.{Over}
use Rattle.series.specs.Tables.{weight}
use Rattle.rows.specs.Weighing.{FirstOutside}
use Rattle.book.specs.Calls.{weigh}
use Rattle.book.specs.Shelves.{letters_of}
use Rattle.book.specs.declared.outcome.Answer.TheVariants.{Code}
use Rattle.shelf.specs.Views.{state}
use Rattle.shelf.proofs.Gating.{reads_one}
use Rattle.shelf.proofs.Made.{table_found, refused}
use Rattle.shelf.proofs.Late.{weigh_accepts, weigh_refuses}
use Rattle.shelf.proofs.directory.Directory.weigh.Goals as goal

pub returns : goal.returns
returns g c =
    let K = g.F.Field.field in
    let v = g.F.Field.value in
    let es = c.args.self.now in
    let mem = c.args.shelf.now in
    let t = c.in_ok-table.table in
    let found = c.in_ok-table.ensures.found in
    let h = c.in_ok-weight.ensures.weight_or_first_letter_outside in
    record {
      does = λ rest. (
        weigh_accepts K (state es mem (length c.args.work.now) rest.output rest.verdict) c.args.place c.args.word.now
            (c.in_ok-table.ensures.checked (weigh c.args.place c.args.word.now) rest (reads_one (weigh c.args.place c.args.word.now) c.args.place 8192 refl refl refl))
            (subst (λ k. Over k c.args.word.now) (sym (ap letters_of found.told)) h.0),
        (
          ap Code (c.code.ensures.is_code ∙ ap K.code (h.1 ∙ ap (λ T. weight K T c.args.word.now) (table_found K v es mem c.args.place t found))),
          record { shelf = refl; lent = ap (λ n. record { work = n; output = rest.output; verdict = rest.verdict }) c.weigh.auto.work },
        ),
      );
    }

pub returns-in_err-weight : goal.returns-in_err-weight
returns-in_err-weight g c =
    let K = g.F.Field.field in
    let v = g.F.Field.value in
    let es = c.args.self.now in
    let mem = c.args.shelf.now in
    let a = weigh c.args.place c.args.word.now in
    let found = c.in_ok-table.ensures.found in
    record {
      does = λ rest.
          let s = state es mem (length c.args.work.now) rest.output rest.verdict in
          refused K v s _ a Code c.from_residual-in_err-weight.result c.from_residual-in_err-weight.ensures.1
          (weigh_refuses K s c.args.place c.args.word.now (c.in_ok-table.ensures.checked a rest (reads_one a c.args.place 8192 refl refl refl)) c.in_err-weight.field-0.0.position
          (subst (λ k. FirstOutside k c.args.word.now c.in_err-weight.field-0.0.position) (sym (ap letters_of found.told)) c.in_err-weight.ensures.weight_or_first_letter_outside))
          (ap (λ n. state es mem n rest.output rest.verdict) c.weigh.auto.work);
    }
