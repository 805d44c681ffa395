use mathlib.Core.Bool.{false≢true}
use Rattle.std.proofs.Common.{◌≡◌, refl, sym, ap, ◌∙◌, arith}
use Rattle.field.specs.Rows.{at}
use Rattle.series.specs.Tables.{left_outcome, right_outcome}
use Rattle.walk.specs.Pairs.{left_table, right_table}
use Rattle.walk.proofs.PairRows.{split_parts, left_result, right_result}
use Rattle.walk.proofs.pairs.Pair.difference.Goals as goal

pub returns-then-same : goal.returns-then-same
returns-then-same g c =
    let K = g.F.Field.field in let v = g.F.Field.value in
    let S = left_table K v c.args.self in
    let T = right_table K v c.args.self in
    let xs = c.args.row.now in
    let s = c.split_at in
    let parts = split_parts xs s.result.0.now s.result.1.now c.states.result s.ensures.front s.ensures.back in
    let left : v c.dot-left.result ≡ left_outcome K S T (at K v xs) = c.dot-left.ensures.is_dot_product ∙ left_result K v S T xs s.result.0.now s.result.1.now parts (omega arith) c.end.result.now c.end.ensures.end_column in
    let right : v c.dot-right.result ≡ right_outcome K S T (at K v xs) = c.dot-right.ensures.is_dot_product ∙ right_result K v S T xs s.result.0.now s.result.1.now parts (omega arith) (omega arith) c.end-2.result.now c.end-2.ensures.end_column in
    record { compares_outcomes = sym left ∙ c.if-same.ensures.decides_equality.0 refl ∙ right }

pub returns : goal.returns
returns g c =
    let K = g.F.Field.field in let v = g.F.Field.value in
    let S = left_table K v c.args.self in
    let T = right_table K v c.args.self in
    let xs = c.args.row.now in
    let s = c.split_at in
    let parts = split_parts xs s.result.0.now s.result.1.now c.states.result s.ensures.front s.ensures.back in
    let left : v c.dot-left.result ≡ left_outcome K S T (at K v xs) = c.dot-left.ensures.is_dot_product ∙ left_result K v S T xs s.result.0.now s.result.1.now parts (omega arith) c.end.result.now c.end.ensures.end_column in
    let right : v c.dot-right.result ≡ right_outcome K S T (at K v xs) = c.dot-right.ensures.is_dot_product ∙ right_result K v S T xs s.result.0.now s.result.1.now parts (omega arith) (omega arith) c.end-2.result.now c.end-2.ensures.end_column in
    record {
      compares_outcomes = record {
        differs = λ z. false≢true (c.if-same.ensures.decides_equality.1 (left ∙ z ∙ sym right));
        left_is = c.code.ensures.is_code ∙ ap K.code left;
        right_is = c.code-2.ensures.is_code ∙ ap K.code right;
      };
    }
