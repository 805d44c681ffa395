use Rattle.std.proofs.Common.{◌≡◌, ℕ, suc, ◌+◌, ◌-◌, ◌<◌, List, [], ◌∷◌, ◌++◌, length, take, ap, ◌∙◌, subst, sym, append_assoc, append-nil, arith, rules}
use Rattle.std.proofs.Math.ListN.{set, length-set}
use Rattle.std.proofs.lemmas.List.{take_all, take_more_set}
use Rattle.scripting.specs.Numerals.{Numbers, none, next}
use Rattle.scripting.specs.Refusing.{NoNumbers, missing, wrong, later, extra}
use Rattle.scripting.specs.declared.mistake.Reason.{Reason}
use Rattle.scripting.proofs.words.numbers.Goals as goal

-- one number more is written
one_more : (all : List ℕ) (i n : ℕ) (ns : List ℕ) → i < length all → take (i + 1) (set all i n) ++ ns ≡ take i all ++ n ∷ ns
one_more all i n ns h = ap (λ xs. xs ++ ns) (take_more_set all i n h) ∙ append_assoc (take i all) (n ∷ []) ns

-- the reading stops at a number that is due
stopped : {n i : ℕ} {line rest : List ℕ} {r : Reason} → i < n → ((m : ℕ) (why : Reason) → i + m ≡ n → NoNumbers m rest why → NoNumbers n line why) → ((m : ℕ) → NoNumbers (suc m) rest r) → NoNumbers n line r
stopped {n} {i} {line} {rest} {r} due whole stop = whole (suc (n - suc i)) r (omega arith) (stop (n - suc i))

pub loop-n-preserved : goal.loop-n-preserved
loop-n-preserved g c =
    let all = c.loop-n.n-items in
    let i = c.loop-n.n-index in
    let n = c.in_ok-n.field-0 in
    record {
      n_in_all = simp length-set c.loop-n.invariant.n_in_all;
      whole = λ ns h. subst (λ xs. Numbers c.args.line.now xs) (sym (one_more all i n ns (omega arith))) (c.loop-n.invariant.whole (n ∷ ns) (next _ _ c.in_ok-first.ensures.found c.in_ok-n.ensures.written h));
      wrong = λ m r e no. c.loop-n.invariant.wrong (suc m) r (omega (arith, e)) (later _ n c.in_ok-first.ensures.found c.in_ok-n.ensures.written no);
    }

pub returns : goal.returns
returns g c =
    let all = c.loop-n.n-items in
    let i = c.loop-n.n-index in
    let whole : take i all ++ [] ≡ all = append-nil (take i all) ∙ take_all i all (omega arith) in
    record { read = subst (λ xs. Numbers c.args.line.now xs) whole (c.loop-n.invariant.whole [] (none c.in_ok-end.ensures.nothing_left)) }

pub returns-in_err-first : goal.returns-in_err-first
returns-in_err-first g c =
    let i = c.loop-n.invariant in
    let due : c.loop-n.n-index < g.row.N = omega (arith, c.loop-n-test.true, i.n_in_all) in
    let no = stopped due i.wrong (λ m. missing c.in_err-first.ensures.found) in
    search (rules, no)

pub returns-in_err-n : goal.returns-in_err-n
returns-in_err-n g c =
    let i = c.loop-n.invariant in
    let due : c.loop-n.n-index < g.row.N = omega (arith, c.loop-n-test.true, i.n_in_all) in
    let no = stopped due i.wrong (λ m. wrong _ _ c.in_ok-first.ensures.found c.in_err-n.ensures.written) in
    search (rules, no)

pub returns-in_err-end : goal.returns-in_err-end
returns-in_err-end g c =
    let i = c.loop-n.invariant in
    let no = i.wrong 0 _ (omega (arith, c.loop-n-test.false, c.loop-n.auto.n-index-end, i.n_in_all)) (extra c.in_err-end.ensures.nothing_left) in
    search (rules, no)
