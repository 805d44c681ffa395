use Rattle.std.proofs.Common.{ℕ, ◌<◌, List, [], ◌∷◌, ◌++◌, map, length, get_or, ap, ◌∙◌, subst, sym, suc, arith, rules}
use borrow.Author.Tests.{tests}
use Rattle.std.proofs.ByRecursion.{All-append}
use Rattle.std.proofs.lemmas.List.{length-append, map-id}
use Rattle.std.proofs.lemmas.Iterator.{YieldsList-from_slice, YieldsList-from_map}
use Rattle.std.proofs.lemmas.Iterator.Consumers.{YieldsList-from_copied, YieldsList-from_chain, YieldsList-at}
use Rattle.columns.specs.Lines.{line, TenDigits}
use Rattle.columns.proofs.Filled.{fill_line, filled_line}
use Rattle.report.proofs.line.put_line.Goals as goal

bytes_small : (xs : List ℕ) → ((i : ℕ) → get_or xs i 0 < 256) → TenDigits xs
bytes_small [] small = tt
bytes_small (x ∷ xs) small = (omega (arith, small 0), bytes_small xs (λ i. small (suc i)))

pub put_line-requires-clause-fill : goal.put_line-requires-clause-fill
put_line-requires-clause-fill c =
    let same = map-id c.args.letters.now in
    fill_line _
    (YieldsList-from_chain (YieldsList-at c.chain.ensures.first (YieldsList-from_copied (YieldsList-at c.copied.ensures.source (YieldsList-from_slice c.args.values.now (cc)))))
    (YieldsList-at c.chain.ensures.second (YieldsList-from_map _ (λ x. x) (YieldsList-at c.map-letters.ensures.source (YieldsList-from_slice c.args.letters.now (cc))) c.map-letters.ensures.closure (λ x r q k. search (rules, tests)))) (cc) (cc))
    (All-append _ c.args.values.now _ c.requires.ten_digits (subst TenDigits (sym same) (bytes_small c.args.letters.now (λ i. omega (arith, c.type_inv.letters i)))))
    (omega (arith, c.requires.room, length-append c.args.values.now (map (λ (x : ℕ). x) c.args.letters.now), ap length same))

pub returns : goal.returns
returns c = record {
  written =
      filled_line c.put_line.ensures.written
      (YieldsList-from_chain (YieldsList-at c.chain.ensures.first (YieldsList-from_copied (YieldsList-at c.copied.ensures.source (YieldsList-from_slice c.args.values.now (cc)))))
      (YieldsList-at c.chain.ensures.second (YieldsList-from_map _ (λ x. x) (YieldsList-at c.map-letters.ensures.source (YieldsList-from_slice c.args.letters.now (cc))) c.map-letters.ensures.closure (λ x r q k. search (rules, tests)))) (cc) (cc))
      ∙ ap (λ l. line c.args.first (c.args.values.now ++ l)) (map-id c.args.letters.now);
}
