-- Combinations of vectors. A vector is a function X → V, of which only the places P count. Assumes nothing.
use Rattle.std.specs.Prelude.{◌≡◌}
use Rattle.field.specs.FiniteField.{FiniteField}

module _ {V : Type 0} (K : FiniteField V) {X : Type 0} where
  -- y is, at the places P, a combination of vectors of S: of none, which is zero, or a multiple of one of them and a combination
  pub data Span (P : X → Type 0) (S : (X → V) → Type 0) : (X → V) → Type 0 where
    none : {y : X → V} → ((i : X) → P i → y i ≡ K.zero) → Span P S y
    more : {y : X → V} (c : V) (x z : X → V) → S x → Span P S z → ((i : X) → P i → y i ≡ K.plus (K.times c (x i)) (z i)) → Span P S y
