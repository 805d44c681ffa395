use Rattle.std.proofs.Common.{◌≡◌, ◌++◌, length, take, drop, ◌∙◌, arith, rules}
use Rattle.std.proofs.lemmas.List.{places, length-take-le}
use Rattle.rows.proofs.Splits.{at_front, at_back}
use Rattle.leading.proofs.forward.see_row.Goals as goal

pub returns : goal.returns
returns g c =
    let K = g.F.Field.field in let v = g.F.Field.value in
    let d = c.args.view.now.count in
    let split = c.split_at_mut-numbers in
    let front = split.result.0.now in
    let products = c.project_row.ensures.products_written in
    let zeros = c.clear_row.ensures.zeros_written in
    let x = c.project_row.new.to in
    let few : length (take d front) ≡ d = length-take-le d front (omega (arith, c.args.view.now.few)) in
    let numbers = x ++ drop d front in
    let long : length numbers ≡ 16 = search (rules, places, products.len, few) in
    record {
      products_written = λ j l. at_front K v numbers c.clear_row.new.to j (omega (arith, c.args.view.now.few)) ∙ at_front K v x (drop d front) j (omega (arith, products.len)) ∙ products.same j (omega arith);
      no_coefficients = λ j l h. at_back K v numbers c.clear_row.new.to 16 j long ∙ zeros.same j (omega arith);
    }
