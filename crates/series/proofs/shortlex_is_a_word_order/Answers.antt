use Rattle.std.proofs.Common.{IsTrue}
use Rattle.series.proofs.OnlyOrders.{forth, back}
use Rattle.series.proofs.Shortlex.{shortlex}
use Rattle.series.proofs.shortlex_is_a_word_order.Goals as goal

pub returns : goal.returns
returns c = record {
  laws = shortlex;
  no_other = λ before o u v. (back (λ s t. IsTrue (before s t)) o u v, forth (λ s t. IsTrue (before s t)) o u v);
}
