use Rattle.std.proofs.Common.{◌≤◌, length, sym, refl, ap, ap₂, subst, subst₂, rules}
use Rattle.std.proofs.lemmas.Option.{MatchOption-at_some}
use Rattle.series.specs.Operations.{after_table}
use Rattle.rows.specs.Seen.{table_of}
use Rattle.book.specs.Calls.{after}
use Rattle.book.specs.Shelves.{letters_of, table}
use Rattle.book.specs.Refusing.{Refuses}
use Rattle.book.specs.declared.outcome.Answer.TheVariants.{Done}
use Rattle.shelf.specs.Views.{shelf_of, state}
use Rattle.shelf.proofs.Gating.{makes_of_one}
use Rattle.reader.proofs.Moves.{ok_or_err}
use Rattle.shelf.proofs.Made.{table_found, made_held, refused}
use Rattle.shelf.proofs.Late.{after_accepts, after_refuses}
use Rattle.shelf.proofs.directory.Directory.after.Goals as goal

pub returns-in_err-letter : goal.returns-in_err-letter
returns-in_err-letter g c =
    let K = g.F.Field.field in
    let v = g.F.Field.value in
    let es = c.args.self.now in
    let mem = c.args.shelf.now in
    let t = c.in_ok-table.table in
    let e = ap letters_of c.in_ok-table.ensures.found.told in
    let a = after c.args.place c.args.letter c.args.to in
    let h = ok_or_err c.letter.result _ _ _ c.in_err-letter.ensures.value c.letter.ensures.one_of_the_letters in
    record {
      does = λ rest.
          let s = state es mem (length c.args.work.now) rest.output rest.verdict in
          refused K v s _ a (λ _. Done) c.from_residual-in_err-letter.result c.from_residual-in_err-letter.ensures.1
          (subst (Refuses K s a) (sym h.0) (after_refuses K s c.args.place c.args.letter c.args.to (c.in_ok-table.ensures.checked a rest (makes_of_one a c.args.place c.args.to refl refl refl)) (λ l. h.1 (l.0, subst (λ k. c.args.letter ≤ k) e l.1))))
          refl;
    }

pub returns : goal.returns
returns g c =
    let K = g.F.Field.field in
    let v = g.F.Field.value in
    let es = c.args.self.now in
    let mem = c.args.shelf.now in
    let t = c.in_ok-table.table in
    let e = ap letters_of c.in_ok-table.ensures.found.told in
    let b = c.in_ok-letter.letter in
    let h = MatchOption-at_some _ _ _ c.in_ok-letter.ensures.ok_part c.letter.ensures.one_of_the_letters in
    record {
      does = λ rest. (
        after_accepts K (state es mem (length c.args.work.now) rest.output rest.verdict) c.args.place c.args.letter c.args.to
            (c.in_ok-table.ensures.checked (after c.args.place c.args.letter c.args.to) rest (makes_of_one (after c.args.place c.args.letter c.args.to) c.args.place c.args.to refl refl refl))
            (subst (λ a. 1 ≤ a) h.0 h.1) (subst₂ (λ a k. a ≤ k) h.0 (sym e) h.2),
        (
          refl,
          made_held K v es c.keep.new.self mem c.keep.new.shelf c.args.work.now _ c.args.to c.new.result c.after.new.to c.shape-shape.result
              (after_table K b (table_of K v t)) (after_table K c.args.letter (table K v (shelf_of es mem) c.args.place))
              c.new.ensures.of_shape c.new.ensures.in_front (ap (λ z. z.states) c.shape-shape.ensures.told) (ap (λ z. z.letters) c.shape-shape.ensures.told) c.after.ensures.after_written
              (ap₂ (after_table K) h.0 (table_found K v es mem c.args.place t c.in_ok-table.ensures.found))
              c.in_ok-table.ensures.named c.keep.ensures.kept (search rules) rest.output rest.verdict,
        ),
      );
    }
