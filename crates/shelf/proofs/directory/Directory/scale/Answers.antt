use Rattle.std.proofs.Common.{length, sym, refl, ap, ◌∙◌, subst, rules}
use Rattle.std.proofs.lemmas.Option.{MatchOption-at_some}
use Rattle.series.specs.Operations.{scaled_table}
use Rattle.rows.specs.Seen.{table_of}
use Rattle.book.specs.Calls.{scale}
use Rattle.book.specs.Shelves.{table}
use Rattle.book.specs.Refusing.{Refuses}
use Rattle.book.specs.declared.outcome.Answer.TheVariants.{Done}
use Rattle.shelf.specs.Views.{shelf_of, state}
use Rattle.shelf.proofs.Gating.{makes_of_one}
use Rattle.reader.proofs.Moves.{ok_or_err}
use Rattle.shelf.proofs.Made.{table_found, made_held, refused}
use Rattle.shelf.proofs.Late.{scale_accepts, scale_refuses}
use Rattle.shelf.proofs.directory.Directory.scale.Goals as goal

pub returns-in_err-factor : goal.returns-in_err-factor
returns-in_err-factor g c =
    let K = g.F.Field.field in
    let v = g.F.Field.value in
    let es = c.args.self.now in
    let mem = c.args.shelf.now in
    let t = c.in_ok-table.table in
    let a = scale c.args.place c.args.code c.args.to in
    let h = ok_or_err c.from_code.result _ _ _ c.in_err-factor.ensures.value c.from_code.ensures.is_decoded_below_order in
    record {
      does = λ rest.
          let s = state es mem (length c.args.work.now) rest.output rest.verdict in
          refused K v s _ a (λ _. Done) c.from_residual-in_err-factor.result c.from_residual-in_err-factor.ensures.1
          (subst (Refuses K s a) (sym h.0) (scale_refuses K s c.args.place c.args.code c.args.to (c.in_ok-table.ensures.checked a rest (makes_of_one a c.args.place c.args.to refl refl refl)) h.1))
          refl;
    }

pub returns : goal.returns
returns g c =
    let K = g.F.Field.field in
    let v = g.F.Field.value in
    let es = c.args.self.now in
    let mem = c.args.shelf.now in
    let t = c.in_ok-table.table in
    let h = MatchOption-at_some _ _ _ c.in_ok-factor.ensures.ok_part c.from_code.ensures.is_decoded_below_order in
    record {
      does = λ rest. (
        scale_accepts K (state es mem (length c.args.work.now) rest.output rest.verdict) c.args.place c.args.code c.args.to
            (c.in_ok-table.ensures.checked (scale c.args.place c.args.code c.args.to) rest (makes_of_one (scale c.args.place c.args.code c.args.to) c.args.place c.args.to refl refl refl))
            h.0,
        (
          refl,
          made_held K v es c.keep.new.self mem c.keep.new.shelf c.args.work.now _ c.args.to c.new.result c.scale.new.to c.shape-shape.result
              (scaled_table K (v c.in_ok-factor.factor) (table_of K v t)) (scaled_table K (K.decode c.args.code) (table K v (shelf_of es mem) c.args.place))
              c.new.ensures.of_shape c.new.ensures.in_front (ap (λ z. z.states) c.shape-shape.ensures.told) (ap (λ z. z.letters) c.shape-shape.ensures.told) c.scale.ensures.scaled_written
              (ap (λ x. scaled_table K x (table_of K v t)) h.1 ∙ ap (scaled_table K (K.decode c.args.code)) (table_found K v es mem c.args.place t c.in_ok-table.ensures.found))
              c.in_ok-table.ensures.named c.keep.ensures.kept (search rules) rest.output rest.verdict,
        ),
      );
    }
