use Rattle.std.proofs.Common.{refl}
use Rattle.scripting.specs.Numerals.{next}
use Rattle.scripting.proofs.order.weigh.Goals as goal

pub returns : goal.returns
returns c = record { read = (refl, next _ _ c.in_ok-first.ensures.found c.in_ok-place.ensures.written c.in_ok-word.ensures.read) }
