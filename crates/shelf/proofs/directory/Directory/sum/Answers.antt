use Rattle.std.proofs.Common.{◌+◌, ◌<◌, ◌≤◌, length, sym, refl, ap₂, ◌∙◌, subst₂, rules}
use Rattle.series.specs.Operations.{sum_table}
use Rattle.rows.specs.Seen.{table_of}
use Rattle.book.specs.Calls.{sum}
use Rattle.book.specs.Shelves.{states_of, table}
use Rattle.book.specs.declared.outcome.Answer.TheVariants.{Done}
use Rattle.shelf.specs.Views.{shelf_of, state}
use Rattle.shelf.specs.Checking.{of_sum}
use Rattle.shelf.proofs.Made.{table_found, made_held, refused}
use Rattle.shelf.proofs.Late.{sum_accepts, sum_refuses}
use Rattle.shelf.proofs.directory.Directory.sum.Goals as goal

pub returns-in_err-both : goal.returns-in_err-both
returns-in_err-both g c = record {
  does = λ rest.
      refused g.F.Field.field g.F.Field.value (state c.args.self.now c.args.shelf.now (length c.args.work.now) rest.output rest.verdict) _ (sum c.args.first c.args.second c.args.to) (λ _. Done) c.from_residual.result c.from_residual.ensures.1
      (c.in_err-both.ensures.checked (sum c.args.first c.args.second c.args.to) rest (of_sum c.args.first c.args.second c.args.to)) refl;
}

pub returns-then-states-gt16 : goal.returns-then-states-gt16
returns-then-states-gt16 g c =
    let f = c.in_ok-both.ensures.found in
    record {
      does = λ rest. (
        sum_refuses g.F.Field.field (state c.args.self.now c.args.shelf.now (length c.args.work.now) rest.output rest.verdict) c.args.first c.args.second c.args.to
            (c.in_ok-both.ensures.checked (sum c.args.first c.args.second c.args.to) rest (of_sum c.args.first c.args.second c.args.to))
            (subst₂ (λ d e. 16 < states_of d + states_of e) (sym f.left.told) (sym f.right.told) (subst₂ (λ n m. 16 < n + m) c.states.ensures.told c.states-2.ensures.told c.if-states-gt16.true)),
        refl,
      );
    }

pub returns : goal.returns
returns g c =
    let K = g.F.Field.field in
    let v = g.F.Field.value in
    let es = c.args.self.now in
    let mem = c.args.shelf.now in
    let l = c.in_ok-both.both.left in
    let r = c.in_ok-both.both.right in
    let f = c.in_ok-both.ensures.found in
    record {
      does = λ rest. (
        sum_accepts K (state es mem (length c.args.work.now) rest.output rest.verdict) c.args.first c.args.second c.args.to
            (c.in_ok-both.ensures.checked (sum c.args.first c.args.second c.args.to) rest (of_sum c.args.first c.args.second c.args.to))
            (subst₂ (λ d e. states_of d + states_of e ≤ 16) (sym f.left.told) (sym f.right.told) (subst₂ (λ n m. n + m ≤ 16) c.states.ensures.told c.states-2.ensures.told c.if-states-gt16.false)),
        (
          refl,
          made_held K v es c.keep.new.self mem c.keep.new.shelf c.args.work.now _ c.args.to c.new.result c.sum.new.to c.new-shape.result
              (sum_table K (table_of K v l) (table_of K v r)) (sum_table K (table K v (shelf_of es mem) c.args.first) (table K v (shelf_of es mem) c.args.second))
              c.new.ensures.of_shape c.new.ensures.in_front (c.new-shape.ensures.of_states ∙ ap₂ (λ n m. n + m) c.states.ensures.told c.states-2.ensures.told) (c.new-shape.ensures.of_letters ∙ c.letters.ensures.told) c.sum.ensures.sum_written
              (ap₂ (sum_table K) (table_found K v es mem c.args.first l f.left) (table_found K v es mem c.args.second r f.right))
              c.in_ok-both.ensures.named c.keep.ensures.kept (search rules) rest.output rest.verdict,
        ),
      );
    }
