-- Decimal numbers, and lines of them. Assumes nothing.
use Rattle.std.specs.Prelude.{◌≡◌, ℕ, ◌+◌, ◌-◌, ◌*◌, ◌<◌, ◌≤◌, List, [], ◌∷◌, length, slice_index}
use Rattle.scripting.specs.Splitting.{Blank, NextWord}

-- each byte is one of 0 to 9
abbrev pub Digits : List ℕ → Type 0
Digits bs = (k : ℕ) → k < length bs → (48 ≤ slice_index bs k) × (slice_index bs k ≤ 57)

-- the number that digits write after those of n
abbrev pub read_on : ℕ → List ℕ → ℕ
read_on n [] = n
read_on n (b ∷ bs) = read_on (n * 10 + (b - 48)) bs

-- there are digits, and nothing else
pub record Numeral (word : List ℕ) : Type 0 where
  pub some : 0 < length word
  pub digits : Digits word

-- the word is the number in decimal digits
pub record Writes (word : List ℕ) (n : ℕ) : Type 0 where
  pub numeral : Numeral word
  pub value : n ≡ read_on 0 word

-- the line is these numbers, a word each, and no more
pub data Numbers : List ℕ → List ℕ → Type 0 where
  none : {line : List ℕ} → Blank line → Numbers line []
  next : {line rest ns : List ℕ} (word : List ℕ) (n : ℕ) → NextWord line word rest → Writes word n → Numbers rest ns → Numbers line (n ∷ ns)
