-- The verdict record of a comparison is right of the tables. Assumes nothing.
use Rattle.std.proofs.Common.{◌≡◌, ◌-◌, ◌≤◌, ◌++◌, length, replicate, sym, refl, ap, ◌∙◌, inl, inr, arith, take-append-drop, length-take-le}
use Rattle.field.specs.FiniteField.{FiniteField}
use Rattle.series.specs.Tables.{Table}
use Rattle.search.specs.Answers.{spelling, Compared}
use Rattle.search.specs.declared.compare.Comparison.{Comparison}
use Rattle.search.specs.declared.compare.Comparison.TheVariants.{Alike, Differs}
use Rattle.book.specs.Verdicts.{Says}
use Rattle.shelf.specs.Views.{verdict_on}

pub says : {V : Type 0} (K : FiniteField V) (S T : Table V) (r : Comparison) → length (verdict_on r).letters ≡ 31 → Compared K S T r → Says K S T (verdict_on r)
says K S T (Alike tried kept) long h = inl (record { alike = h.alike; kind = refl; tried = h.tried_counted; kept = h.kept_counted; length_zero = refl; first = refl; second = refl; letters = refl })
says K S T (Differs word tried left right) long h =
    let fits : word.length ≤ length word.letters = omega (arith, long, h.padded.fits) in
    let size : word.length ≡ length (spelling word) = sym (length-take-le word.length word.letters fits) in
    inr (record {
      word = spelling word;
      least = h.first.difference;
      kind = refl;
      tried = h.first.tried_counted;
      kept = refl;
      length_word = size;
      first = h.first.left_is;
      second = h.first.right_is;
      letters = sym (take-append-drop word.length word.letters) ∙ ap (λ xs. spelling word ++ xs) (h.padded.zeros ∙ ap (λ n. replicate (31 - n) 0) size);
    })
