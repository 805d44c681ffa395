-- The packed table is smallest, and its text canonical. Assumes nothing.
use Rattle.std.proofs.Common.{◌≡◌, ℕ, ◌≤◌, ◌↔◌, List, sym, refl, ◌∙◌, subst, arith}
use Rattle.field.specs.FiniteField.{FiniteField}
use Rattle.series.specs.Tables.{weight, SameTable}
use Rattle.series.specs.Comparing.{Alike}
use Rattle.series.specs.Reducing.{Reduced}
use Rattle.series.specs.Theorems.{ReducedCanonical}
use Rattle.series.proofs.ReducedForms.{reduced_least}
use Rattle.text.specs.Readings.{Sized}
use Rattle.text.specs.Facts.{ToldApart}
use Rattle.packing.specs.Packing.{PackedForm, packed_text}
use Rattle.packing.specs.Theorems.{PackedStates, SamePackedText}
use Rattle.text.proofs.SameTexts.{text_same}

module _ {V : Type 0} (K : FiniteField V) where
  pub smallest : PackedStates K (λ packed other. packed ≤ other)
  smallest text p T letters alike = reduced_least K p.table.letters (weight K p.table) p.packed p.reduced T (λ u o. sym (alike u o))

  -- the packed table is within the limits
  pub packed_sized : (text : List ℕ) (p : PackedForm K text) → Sized p.packed
  packed_sized text p = record {
    states = omega (arith, smallest text p p.table refl (λ u o. refl), p.sized.states);
    some_letter = omega (arith, p.reduced.letters, p.sized.some_letter);
    letters = omega (arith, p.reduced.letters, p.sized.letters);
  }

  module _ (told_apart : ToldApart K) (canonical : ReducedCanonical K (λ R S. SameTable R S)) where
    module _ (first second : List ℕ) (p : PackedForm K first) (q : PackedForm K second) where
      -- q's packed table, over the letters of p's
      over_letters : p.table.letters ≡ q.table.letters → Reduced K p.table.letters (weight K q.table) q.packed
      over_letters e = subst (λ k. Reduced K k (weight K q.table) q.packed) (sym e) q.reduced

      -- packed tables agree exactly where the tables weigh every word alike
      agree : (e : p.table.letters ≡ q.table.letters) → SameTable p.packed q.packed ↔ Alike K p.table q.table
      agree e = canonical p.table.letters (weight K p.table) (weight K q.table) p.packed q.packed p.reduced (over_letters e)

      alike_from : packed_text K p ≡ packed_text K q → (p.table.letters ≡ q.table.letters) × Alike K p.table q.table
      alike_from e =
          let same = told_apart p.packed q.packed (packed_sized first p) (packed_sized second q) e in
          let letters : p.table.letters ≡ q.table.letters = sym p.reduced.letters ∙ same.letters ∙ q.reduced.letters in
          (letters, (agree letters).0 same)

      same_from : (p.table.letters ≡ q.table.letters) × Alike K p.table q.table → packed_text K p ≡ packed_text K q
      same_from h = text_same K p.packed q.packed ((agree h.0).1 h.1)

    pub canonical_text : SamePackedText K (λ S T. (S.letters ≡ T.letters) × Alike K S T)
    canonical_text first second p q = (alike_from first second p q, same_from first second p q)
