-- What holds of every number in columns. Assumes nothing.
use Rattle.std.specs.Prelude.{◌≡◌, ℕ, ◌^◌, ◌<◌, List, ◌++◌, length, replicate, slice_index_or}
use Rattle.std.specs.Str.Parse.{AllDigits}
use Rattle.columns.specs.Numbers.{number, IsNumber}

-- the bytes are spaces and then digits, the first a space, with no leading zero but 0 itself
pub record Shaped (bs : List ℕ) : Type 0 where
  pub blanks : ℕ
  pub digits : List ℕ
  pub parts : bs ≡ replicate blanks 32 ++ digits
  pub eleven : length bs ≡ 11
  pub blank : 0 < blanks
  pub some : 0 < length digits
  pub each : AllDigits 10 digits
  pub lead : slice_index_or digits 0 0 ≡ 48 → length digits ≡ 1

-- exactly the bytes of that shape are the columns of a number of at most ten digits
abbrev pub LegalIs : Type 0
LegalIs = ((bs : List ℕ) → Shaped bs → (v : ℕ) × IsNumber bs v) × ((v : ℕ) → v < 10 ^ 10 → Shaped (number v))
