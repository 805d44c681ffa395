use Rattle.std.proofs.Common.{◌+◌, ◌*◌, [], ◌∷◌, ◌++◌, arith, ◌≡◌, sym, ap₂, subst}
use Rattle.walk.specs.Comparing.{AllAlike}
use Rattle.walk.specs.Pairs.{width, left_table, right_table}
use Rattle.walk.specs.Walking.{kept, DiffersFirst}
use Rattle.walk.proofs.Differences.{difference_refutes, no_difference, few_tried_words}
use Rattle.search.proofs.Spellings.{reported, spelt_padded}
use Rattle.search.proofs.compare.compare.Goals as goal

pub returns-in-Err-Empty : goal.returns-in-Err-Empty
returns-in-Err-Empty g c =
    let K = g.F.Field.field in let v = g.F.Field.value in
    let S = left_table K v c.args.pair in
    let T = right_table K v c.args.pair in
    let w = c.in-Err-Empty.weights in
    let d = subst (DiffersFirst K v c.args.pair c.try_words.new.walk) c.in-Err-Empty.field-0-is c.in-Err-Empty.ensures.err in
    let s = c.empty_word.ensures.spells_nothing in
    record {
      answer = reported K S T c.empty_word.result [] 1 w.left w.right s d;
      bounded = (omega arith, (spelt_padded c.empty_word.result [] s).fits);
      alike_only_if_all_weigh_alike = λ n. absurd n;
      alike_if_all_weigh_alike = difference_refutes K S T [] 1 w.left w.right d;
    }

pub returns-in-Err-Longer : goal.returns-in-Err-Longer
returns-in-Err-Longer g c =
    let K = g.F.Field.field in let v = g.F.Field.value in
    let a = c.args in
    let S = left_table K v a.pair in
    let T = right_table K v a.pair in
    let f = subst (DiffersFirst K v a.pair c.try_words.new.walk) c.in-Err-Longer.field-0-is c.in-Err-Longer.ensures.err in
    let r = c.in-Err-Longer.f in
    let x = f.words r.last.parent ++ r.last.letter ∷ [] in
    let tried = 1 + r.last.parent * a.pair.left.shape.letters + r.last.letter in
    let s = c.spell.ensures.spells_word f.words f.linked in
    let few = f.difference.few_tried in
    let most = few_tried_words a.pair.left.shape.letters (width a.pair) (omega arith) (omega arith) in
    rw (c.letters-letters.ensures.told, c.from.ensures)
    record {
      answer = reported K S T c.spell.result x tried r.weights.left r.weights.right s f.difference;
      bounded = (omega arith, (spelt_padded c.spell.result x s).fits);
      alike_only_if_all_weigh_alike = λ n. absurd n;
      alike_if_all_weigh_alike = difference_refutes K S T x tried r.weights.left r.weights.right f.difference;
    }

pub returns-in-Ok : goal.returns-in-Ok
returns-in-Ok g c =
    let K = g.F.Field.field in let v = g.F.Field.value in
    let a = c.args in
    let S = left_table K v a.pair in
    let T = right_table K v a.pair in
    let p = c.in-Ok.ensures.ok in
    let n = kept c.try_words.new.walk in
    let few = p.few in
    let all = no_difference K S T n p.words p.listed p.few p.held.alike in
    let tried : 1 + c.letters-letters.result * c.count.result ≡ 1 + a.pair.left.shape.letters * n = ap₂ (λ k m. 1 + k * m) c.letters-letters.ensures.told c.count.ensures.told in
    let most = few_tried_words a.pair.left.shape.letters n (omega arith) (omega arith) in
    let told = c.count-in-Ok.ensures.told in
    record {
      answer = subst (λ m. AllAlike K S T (1 + c.letters-letters.result * c.count.result) m) (sym told) (subst (λ m. AllAlike K S T m n) (sym tried) all);
      bounded = (omega arith, omega arith);
      alike_only_if_all_weigh_alike = λ n. all.alike;
      alike_if_all_weigh_alike = λ e. tt;
    }
