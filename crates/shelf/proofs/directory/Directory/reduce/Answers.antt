use Rattle.std.proofs.Common.{length, refl, ◌∙◌, subst}
use Rattle.series.specs.Reducing.{Reduced}
use Rattle.series.specs.Tables.{weight}
use Rattle.rows.specs.Layout.{table_at}
use Rattle.rows.specs.Seen.{table_of}
use Rattle.book.specs.Calls.{reduce}
use Rattle.shelf.specs.Views.{state}
use Rattle.shelf.proofs.Gating.{makes_of_one}
use Rattle.shelf.proofs.Made.{table_found, seen_front, made}
use Rattle.shelf.proofs.Late.{reduce_accepts}
use Rattle.shelf.proofs.directory.Directory.reduce.Goals as goal

pub returns : goal.returns
returns g c =
    let K = g.F.Field.field in
    let v = g.F.Field.value in
    let es = c.args.self.now in
    let mem = c.args.shelf.now in
    let t = c.in_ok-table.table in
    let R = table_at K v c.reduce-states.new.work 0 c.reduce-states.result t.shape.letters in
    record {
      does = λ rest. (
        reduce_accepts K (state es mem (length c.args.work.now) rest.output rest.verdict) c.args.place c.args.to
            (c.in_ok-table.ensures.checked (reduce c.args.place c.args.to) rest (makes_of_one (reduce c.args.place c.args.to) c.args.place c.args.to refl refl refl)),
        (
          refl,
          (
            R,
            subst (λ T. Reduced K T.letters (weight K T) R) (table_found K v es mem c.args.place t c.in_ok-table.ensures.found) c.reduce-states.ensures.reduced_form,
            made K v es c.keep.new.self mem c.keep.new.shelf c.args.work.now c.reduce-states.new.work c.args.to (table_of K v c.new.result) R R (seen_front K v c.new.result c.reduce-states.new.work c.new-shape.result c.reduce-states.result t.shape.letters c.new.ensures.of_shape c.new.ensures.in_front c.new-shape.ensures.of_states (c.new-shape.ensures.of_letters ∙ c.letters-letters.ensures.told)) refl
                c.in_ok-table.ensures.named c.keep.ensures.kept c.reduce-states.auto.work rest.output rest.verdict,
          ),
        ),
      );
    }
