use Rattle.std.proofs.Common.{◌≡◌, length, sym, refl, ap, ◌∙◌, subst, subst₂}
use Rattle.rows.specs.Seen.{table_of}
use Rattle.book.specs.Calls.{compare}
use Rattle.book.specs.Doing.{with_verdict}
use Rattle.book.specs.Verdicts.{Says}
use Rattle.book.specs.declared.outcome.Answer.TheVariants.{Told}
use Rattle.shelf.specs.Views.{state, verdict_on}
use Rattle.shelf.specs.Checking.{of_compare}
use Rattle.shelf.proofs.Made.{table_found, refused}
use Rattle.shelf.proofs.Late.{compare_accepts}
use Rattle.shelf.proofs.Verdicts.{says}
use Rattle.shelf.proofs.directory.Directory.compare.Goals as goal

pub returns-in_err-both : goal.returns-in_err-both
returns-in_err-both g c = record {
  does = λ rest.
      refused g.F.Field.field g.F.Field.value (state c.args.self.now c.args.shelf.now (length c.args.work.now) rest.output c.args.verdict.now) _ (compare c.args.first c.args.second) (λ _. Told c.args.verdict.now) c.from_residual.result c.from_residual.ensures.1
      (c.in_err-both.ensures.checked (compare c.args.first c.args.second) (with_verdict rest c.args.verdict.now) (of_compare c.args.first c.args.second)) refl;
}

pub returns : goal.returns
returns g c =
    let K = g.F.Field.field in
    let v = g.F.Field.value in
    let es = c.args.self.now in
    let mem = c.args.shelf.now in
    let l = c.in_ok-both.both.left in
    let r = c.in_ok-both.both.right in
    let f = c.in_ok-both.ensures.found in
    let told : c.verdict_of.result ≡ verdict_on c.compare-found.result = c.verdict_of.ensures.tells in
    let here : Says K (table_of K v l) (table_of K v r) c.verdict_of.result =
    subst (Says K (table_of K v l) (table_of K v r)) (sym told) (says K (table_of K v l) (table_of K v r) c.compare-found.result (ap (λ z. length z.letters) (sym told) ∙ c.verdict_of.ensures.letters_31) c.compare-found.ensures.answer) in
    record {
      does = λ rest. (
        compare_accepts K (state es mem (length c.args.work.now) rest.output c.args.verdict.now) c.args.first c.args.second
            (c.in_ok-both.ensures.checked (compare c.args.first c.args.second) (with_verdict rest c.args.verdict.now) (of_compare c.args.first c.args.second)),
        (
          c.verdict_of.result,
          subst₂ (λ S T. Says K S T c.verdict_of.result) (table_found K v es mem c.args.first l f.left) (table_found K v es mem c.args.second r f.right) here,
          refl,
          record { shelf = refl; lent = ap (λ n. record { work = n; output = rest.output; verdict = c.verdict_of.result }) c.compare-found.auto.work },
        ),
      );
    }
