use Rattle.std.proofs.Common.{◌∙◌, sym, refl}
use Rattle.scripting.proofs.Shelves.{to_the_end}
use Rattle.scripting.proofs.performing.perform.Goals as goal

pub returns : goal.returns
returns c = record { shows = to_the_end (sym c.opening.ensures.opened ∙ c.in_default.is) refl c.loop-opening.invariant }
