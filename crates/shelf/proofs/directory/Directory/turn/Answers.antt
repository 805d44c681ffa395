use Rattle.std.proofs.Common.{length, refl, ap, rules}
use Rattle.series.specs.Operations.{turned_table}
use Rattle.rows.specs.Seen.{table_of}
use Rattle.book.specs.Calls.{turn}
use Rattle.book.specs.Shelves.{table}
use Rattle.shelf.specs.Views.{shelf_of, state}
use Rattle.shelf.proofs.Gating.{makes_of_one}
use Rattle.shelf.proofs.Made.{table_found, made_held}
use Rattle.shelf.proofs.Late.{turn_accepts}
use Rattle.shelf.proofs.directory.Directory.turn.Goals as goal

pub returns : goal.returns
returns g c =
    let K = g.F.Field.field in
    let v = g.F.Field.value in
    let es = c.args.self.now in
    let mem = c.args.shelf.now in
    let t = c.in_ok-table.table in
    record {
      does = λ rest. (
        turn_accepts K (state es mem (length c.args.work.now) rest.output rest.verdict) c.args.place c.args.to
            (c.in_ok-table.ensures.checked (turn c.args.place c.args.to) rest (makes_of_one (turn c.args.place c.args.to) c.args.place c.args.to refl refl refl)),
        (
          refl,
          made_held K v es c.keep.new.self mem c.keep.new.shelf c.args.work.now _ c.args.to c.new.result c.turn.new.to c.shape-shape.result
              (turned_table K (table_of K v t)) (turned_table K (table K v (shelf_of es mem) c.args.place))
              c.new.ensures.of_shape c.new.ensures.in_front (ap (λ z. z.states) c.shape-shape.ensures.told) (ap (λ z. z.letters) c.shape-shape.ensures.told) c.turn.ensures.turned_written
              (ap (turned_table K) (table_found K v es mem c.args.place t c.in_ok-table.ensures.found))
              c.in_ok-table.ensures.named c.keep.ensures.kept (search rules) rest.output rest.verdict,
        ),
      );
    }
