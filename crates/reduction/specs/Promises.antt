-- What a reduced table promises, in the words of its weights. Assumes nothing.
use Rattle.std.specs.Prelude.{◌≡◌, ◌≤◌}
use Rattle.field.specs.FiniteField.{FiniteField}
use Rattle.series.specs.Words.{Word, Over}
use Rattle.series.specs.Tables.{Table, weight}

module _ {V : Type 0} (K : FiniteField V) where
  -- every word over the letters of T weighs under R what it weighs under T
  abbrev pub SameWeights : Table V → Table V → Type 0
  SameWeights T R = (w : Word) → Over T.letters w → weight K R w ≡ weight K T w

  -- no table with the weights of T has fewer states than R
  abbrev pub Least : Table V → Table V → Type 0
  Least T R = (S : Table V) → SameWeights T S → R.states ≤ S.states

  -- every word over the letters of T weighs zero
  abbrev pub AllZero : Table V → Type 0
  AllZero T = (w : Word) → Over T.letters w → weight K T w ≡ K.zero
