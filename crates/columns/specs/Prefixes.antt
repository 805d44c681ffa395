-- The columns of a number byte by byte. Assumes nothing.
use Rattle.std.specs.Prelude.{◌≡◌, ℕ, ◌+◌, ◌*◌, ◌<◌, ◌⊎◌, List, length}
use Rattle.columns.specs.Numbers.{Begins, IsNumber}
use Rattle.columns.specs.declared.column.Prefix.{Prefix}
use Rattle.columns.specs.declared.column.Prefix.TheVariants.{Spaces, Digits}

-- the value of the digits so far
abbrev pub value_of : Prefix → ℕ
value_of Spaces = 0
value_of (Digits v) = v

-- the byte b may stand at column i, from 0, after columns that hold p; with it they hold q
abbrev pub Extends : ℕ → Prefix → ℕ → Prefix → Type 0
Extends i Spaces b q = ((b ≡ 32) × (i < 10) × (q ≡ Spaces)) ⊎ ((d : ℕ) × (d < 10) × (b ≡ 48 + d) × (0 < i) × ((0 < d) ⊎ (i ≡ 10)) × (q ≡ Digits d))
Extends i (Digits v) b q = (d : ℕ) × (d < 10) × (b ≡ 48 + d) × (q ≡ Digits (v * 10 + d))

-- what the bytes, at most eleven, hold: they begin a legal number, and eleven are the number itself
pub record Holds (bs : List ℕ) (p : Prefix) : Type 0 where
  pub begins : Begins bs
  pub whole : length bs ≡ 11 → IsNumber bs (value_of p)
