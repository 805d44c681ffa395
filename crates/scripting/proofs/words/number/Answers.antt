use Rattle.std.proofs.Common.{◌≡◌, ℕ, ◌^◌, ◌<◌, ◌≤◌, List, Result, Ok, Err, ⊎_elim, refl, subst, rules}
use Rattle.std.specs.Str.Parse.{ParsesUnsigned}
use Rattle.std.proofs.lemmas.Bool.{cases_lt}
use Rattle.std.proofs.lemmas.Result.{MatchResult-at_err}
use Rattle.std.proofs.lemmas.Fmt.{IsAscii-from_digits}
use Rattle.std.proofs.lemmas.Str.{IsUtf8-from_ascii}
use Rattle.std.proofs.lemmas.Str.Parse.{IsNumeralModel, numerals_by_fold, tells_by_index, parse_digits}
use Rattle.scripting.specs.Numerals.{Digits, Numeral, Writes, read_on}
use Rattle.scripting.proofs.words.number.Goals as goal

-- digits and their number, as std has them
own : IsNumeralModel Digits (read_on 0)
own = numerals_by_fold Digits tells_by_index read_on (search rules)

-- what std reads of a numeral, and of one that is too large
accepted : {E : Type 0} (w : List ℕ) (p : Result ℕ E) (x : ℕ) → p ≡ Ok x → Numeral w → ParsesUnsigned 64 10 w p → Writes w x
accepted {E} w p x is num h = record { numeral = num; value = (parse_digits own {E = E} 64 w (Ok x) (subst (ParsesUnsigned 64 10 w) is h) num.digits).1 }

too_large : {E : Type 0} (w : List ℕ) (p : Result ℕ E) (e : E) → p ≡ Err e → Numeral w → ParsesUnsigned 64 10 w p → 2 ^ 64 ≤ read_on 0 w
too_large {E} w p e is num h =
    let o = parse_digits own {E = E} 64 w (Err e) (subst (ParsesUnsigned 64 10 w) is h) num.digits in
    ⊎_elim (λ (below : read_on 0 w < 2 ^ 64). absurd (o (num.some, below))) (λ (over : 2 ^ 64 ≤ read_on 0 w). over) (cases_lt (read_on 0 w) (2 ^ 64))

pub returns-in-Ok-parse : goal.returns-in-Ok-parse
returns-in-Ok-parse c =
    record { written = accepted c.args.word.now c.parse.result c.in-Ok-parse.n c.in-Ok-parse.is (c.if-is_numeral.ensures.decides.0 refl) (rw c.in-Ok.ensures.cases.0 at c.parse.ensures.value.0) }

pub returns-in-Err : goal.returns-in-Err
returns-in-Err c =
    let num = c.if-is_numeral.ensures.decides.0 refl in
    record { written = (num, too_large c.args.word.now c.parse.result c.in-Err.field-0 c.in-Err.is num (rw c.in-Ok.ensures.cases.0 at c.parse.ensures.value.0)) }

pub returns-in_default-2 : goal.returns-in_default-2
returns-in_default-2 c =
    let bad = MatchResult-at_err _ _ _ c.in_default.is c.from_utf8.ensures.cases in
    record { written = λ num. bad.0 (IsUtf8-from_ascii _ (IsAscii-from_digits _ (own.to _ num.digits))) }
