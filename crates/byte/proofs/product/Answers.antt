use Rattle.std.proofs.Common.{◌<◌, sym, ap, ap₂, subst, ◌∙◌, arith}
use Rattle.byte.specs.Product.{product}
use Rattle.byte.proofs.Looked.{exp, log_at_most, sum_within, product_looked}
use Rattle.byte.proofs.product.Goals as goal

pub overflow_add-sum : goal.overflow_add-sum
overflow_add-sum c =
    let sum = sum_within (log_at_most c.from.result (omega arith)) (log_at_most c.from-2.result (omega arith)) in
    record { fits = omega arith }

pub bounds-from-3 : goal.bounds-from-3
bounds-from-3 c =
    subst (λ n. n < 1019) (sym c.from-3.ensures) (sum_within (log_at_most c.from.result (omega arith)) (log_at_most c.from-2.result (omega arith)))

pub returns : goal.returns
returns c =
    record { is_product = ap exp c.from-3.ensures ∙ product_looked c.from.result c.from-2.result (omega arith) (omega arith) ∙ ap₂ product c.from.ensures c.from-2.ensures }
