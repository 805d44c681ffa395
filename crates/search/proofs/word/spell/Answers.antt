use Rattle.std.proofs.Common.{◌≡◌, ◌<◌, ◌++◌, length, take, reverse, sym, ap, ◌∙◌, arith}
use Rattle.std.proofs.lemmas.List.{length-set}
use Rattle.walk.specs.Walking.{kept, link_at}
use Rattle.search.proofs.Spellings.{linked_longer, letter_written, zeros_behind}
use Rattle.search.proofs.word.spell.Goals as goal

pub loop-j-preserved : goal.loop-j-preserved
loop-j-preserved c =
    let p = c.requires.spellable in
    let w = c.args.walk.now in
    let j = c.loop-j.j in
    let n = c.loop-j.length in
    let i = c.loop-j.invariant in
    let some : 0 < j = c.loop-j-test.true in
    let under = p.linked.earlier j some i.inside in
    let inside = i.inside in
    let link = link_at w.links.items j in
    let more = linked_longer (kept w) p.words w.links.items p.linked j some i.inside in
    let so_far = i.lengths p.words p.linked in
    let fits = p.fits in
    let room : n < 31 = omega arith in
    let long : length c.loop-j.letters ≡ 31 = i.long in
    rw (c.deref.ensures.0)
    record {
      inside = omega arith;
      long = length-set c.loop-j.letters n link.letter ∙ long;
      some = omega arith;
      few = omega arith;
      zeros = zeros_behind link.letter n c.loop-j.letters room i.zeros;
      lengths = λ words l. let longer = linked_longer (kept w) words w.links.items l j some i.inside in let before = i.lengths words l in omega arith;
      spelt = λ words l. letter_written (words link.parent) _ link.letter n c.loop-j.letters (omega arith) (ap (λ q. q ++ reverse (take n c.loop-j.letters)) (sym (l.follows j some i.inside)) ∙ i.spelt words l);
    }
