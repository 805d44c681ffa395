use Rattle.std.proofs.Common.{length}
use Rattle.leading.proofs.LeadingWords.{trying_walked}
use Rattle.leading.proofs.forward.follow_words.Goals as goal

pub loop-i-preserved : goal.loop-i-preserved
loop-i-preserved g c =
    let t = c.try_letters in
    trying_walked g.F.Field.field g.F.Field.value c.args.view.now c.loop-i.i (length t.new.pivots.items) t.new.pivots.items t.new.rows t.new.tracked t.new.coefficients t.ensures.all_tried
