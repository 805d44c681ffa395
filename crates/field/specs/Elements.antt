-- What the optional elements that a field's functions return stand for. Assumes nothing.
use Rattle.std.specs.Prelude.{◌≡◌, ℕ, ◌<◌, ◌≤◌, ◌≢◌, Option, MatchOption}
use Rattle.field.specs.FiniteField.{FiniteField}

module _ {F V : Type 0} (K : FiniteField V) (value : F → V) where
  -- an element of the inverse of x, or nothing exactly where x is zero
  abbrev pub IsInverse : V → Option F → Type 0
  IsInverse x found = MatchOption found (x ≡ K.zero) (λ y. (x ≢ K.zero) × (value y ≡ K.inverse x))

  -- an element of the code n, or nothing exactly where n is q or more
  abbrev pub IsDecoded : ℕ → Option F → Type 0
  IsDecoded n found = MatchOption found (K.q ≤ n) (λ x. (n < K.q) × (value x ≡ K.decode n))
