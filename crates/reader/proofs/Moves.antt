-- One step of the reader: what it reads, and where it stops. Assumes nothing.
use Rattle.std.proofs.Common.{◌≡◌, ℕ, ◌+◌, ◌<◌, ◌≤◌, List, [], ◌∷◌, length, get_or, take, sym, refl, ap, ◌∙◌, subst, inr, add-zero, arith}
use Rattle.std.specs.declared.option.Option.{Option}
use Rattle.std.specs.declared.option.Option.TheVariants.{Some, None}
use Rattle.std.specs.declared.result.Result.{Result}
use Rattle.std.specs.declared.result.Result.TheVariants.{Ok, Err}
use Rattle.std.specs.Option.{ok_or, MatchOption}
use Rattle.std.specs.Result.{result_or, MatchResult, IfErr, IsErrAnd}
use Rattle.std.proofs.lemmas.Result.{err_from_is_err_and}
use Rattle.std.proofs.lemmas.List.{length-take, take-take}
use Rattle.columns.specs.Numbers.{Begins, FirstBroken}
use Rattle.columns.specs.Lines.{letter, due_letter}
use Rattle.reader.specs.Items.{Item, first, ranged, close, width, Opens, along, named, Halts}
use Rattle.faults.specs.declared.Position.{Position}
use Rattle.columns.specs.declared.line.Kind.{Kind}
use Rattle.columns.specs.declared.line.Kind.TheVariants as kind
use Rattle.columns.specs.declared.line.Due.{Due}
use Rattle.columns.specs.declared.line.Due.TheVariants.{Table, Start, Matrix, End, Close, Nothing}
use Rattle.faults.specs.declared.ColumnFault.{ColumnFault}
use Rattle.faults.specs.declared.LineFault.TheVariants.{Column, Unexpected}

-- what holds of the error where a `?` returns
pub errs : {T E : Type 0} (r : Result T E) (e : E) (Q : E → Type 0) → IsErrAnd r (λ y. y ≡ e) → Q e → IfErr r Q
errs r e Q gives q = let p = err_from_is_err_and r gives in rw (p.1, p.2) q

-- what an `Option` was that gave an error for `None`
pub ok_or_err : {A E : Type 0} (o : Option A) (P : Type 0) (Q : A → Type 0) {f : E} (e : E) → Err f ≡ ok_or o e → MatchOption o P Q → (f ≡ e) × P
ok_or_err (Some x) P Q e h m = cc
ok_or_err None P Q e h m = (cc, m)

-- what a `Result` was whose error another took the place of
pub or_err : {A D E : Type 0} (r : Result A D) (P : A → Type 0) (Q : Type 0) {f : E} (e : E) → Err f ≡ result_or r (Err e) → MatchResult r P (λ _. Q) → (f ≡ e) × Q
or_err (Ok x) P Q e h m = cc
or_err (Err d) P Q e h m = (cc, m)

pub standing : (p : Position) (n : ℕ) → n ≡ 0 → p ≡ along p n
standing p n e = λ i. record { line = p.line; column = (sym (add-zero p.column) ∙ ap (λ m. p.column + m) (sym e)) i }

opens_none : (item : Item) → Opens item []
opens_none (first b) = refl
opens_none (ranged low high) = (0, omega arith, refl)
opens_none close = refl

wide : (item : Item) → 0 < width item
wide (first b) = omega arith
wide (ranged low high) = omega arith
wide close = omega arith

-- a first byte that no item of this sort has
pub breaks_first : (item : Item) (p : Position) (rest : List ℕ) → 0 < length rest → (Opens item (take 1 rest) → ⊥) → Halts item p rest (named item p)
breaks_first item p rest some none = inr (0, record { inside = wide item; reached = some; before = opens_none item; here = none }, ap (named item) (standing p 0 refl))

first_of : (b : ℕ) (rest : List ℕ) → 0 < length rest → take (length (take 1 rest)) (b ∷ []) ≡ take 1 rest → get_or rest 0 0 ≡ b
first_of b [] some e = absurd (omega arith)
first_of b (x ∷ xs) some e = sym (ap (λ l. get_or l 0 0) e)

pub no_head : (p : Position) (x : ℕ) (bs rest : List ℕ) → rest ≡ x ∷ bs → (b : ℕ) → (x ≡ b → ⊥) → Halts (first b) p rest (Unexpected p)
no_head p x bs rest is b other =
    let some : 0 < length rest = omega (arith, ap length is) in
    breaks_first (first b) p rest some (λ o. other (sym (ap (λ l. get_or l 0 0) is) ∙ first_of b rest some o))

-- a byte that begins no kind of line begins none that is due
pub no_kind : (b : ℕ) → b < 256 → ((k : Kind) → letter k ≡ b → ⊥) → (due : Due) → b ≡ due_letter due → ⊥
no_kind b small none Table e = none kind.Table (sym e)
no_kind b small none Start e = none kind.Start (sym e)
no_kind b small none Matrix e = none kind.Matrix (sym e)
no_kind b small none End e = none kind.End (sym e)
no_kind b small none Close e = none kind.Close (sym e)
no_kind b small none Nothing e = omega arith

-- the eleven bytes that are left first are no number
pub number_broken : (columns rest : List ℕ) (p : Position) (low high : ℕ) (fault : ColumnFault) → columns ≡ take 11 rest → FirstBroken p columns fault → Halts (ranged low high) p rest (Column fault)
number_broken columns rest p low high fault cut (c, is, b) =
    let short : length columns ≤ 11 = omega (arith, ap length cut, length-take 11 rest) in
    let fits : length columns ≤ length rest = omega (arith, ap length cut, length-take 11 rest) in
    let on : c < length columns = b.reached in
    inr (
      c,
      record {
        inside = omega arith;
        reached = omega arith;
        before = subst Begins (ap (take c) cut ∙ take-take c 11 rest (omega arith)) b.before;
        here = λ o. b.here (subst Begins (sym (ap (take (c + 1)) cut ∙ take-take (c + 1) 11 rest (omega arith))) o);
      },
      ap Column is,
    )
