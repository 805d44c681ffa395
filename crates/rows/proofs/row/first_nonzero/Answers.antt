use Rattle.std.proofs.Common.{◌≡◌, ◌≢◌, rules, tests}
use Rattle.std.proofs.lemmas.Iterator.{IsFirst-from_position, YieldsList-from_slice}
use Rattle.rows.proofs.Memory.{first_so}
use Rattle.rows.proofs.row.first_nonzero.Goals as goal

pub returns : goal.returns
returns g c =
    let K = g.F.Field.field in let v = g.F.Field.value in
    record {
      first_or_all_zero = first_so K v c.args.row.now c.position.result c.zero-zero.result
          (IsFirst-from_position _ _ _ (λ x. v x ≢ K.zero) (λ x. v x ≡ K.zero) c.position.ensures.ran (YieldsList-from_slice c.args.row.now c.iter.ensures.rest) (λ x q k. search (rules, tests)) (λ x q k. search (rules, tests)));
    }
