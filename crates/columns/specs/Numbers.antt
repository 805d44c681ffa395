-- A number in eleven columns, and where a reader of one stops. Assumes nothing.
use Rattle.std.specs.Prelude.{◌≡◌, ℕ, ◌+◌, ◌-◌, ◌^◌, ◌<◌, List, ◌++◌, length, take, replicate, decimal}
use Rattle.faults.specs.declared.Position.{Position}
use Rattle.faults.specs.declared.ColumnFault.{ColumnFault}

-- spaces, then the digits, right-justified
unfoldable pub number : ℕ → List ℕ
number v = replicate (11 - length (decimal v)) 32 ++ decimal v

-- the bytes are the columns of the number v, of at most ten digits
abbrev pub IsNumber : List ℕ → ℕ → Type 0
IsNumber bs v = (v < 10 ^ 10) × (bs ≡ number v)

-- the bytes are the first columns of a legal number
abbrev pub Begins : List ℕ → Type 0
Begins p = (v : ℕ) × (v < 10 ^ 10) × (take (length p) (number v) ≡ p)

-- column c, from 0: the bytes before it begin a legal number, and with it they begin none
pub record Broken (bs : List ℕ) (c : ℕ) : Type 0 where
  pub reached : c < length bs
  pub before : Begins (take c bs)
  pub here : Begins (take (c + 1) bs) → ⊥

-- the fault has the position of the first broken column; the bytes' first column stands at `start`
abbrev pub FirstBroken : Position → List ℕ → ColumnFault → Type 0
FirstBroken start bs f = (c : ℕ) × (f ≡ record { position = record { line = start.line; column = start.column + c } }) × Broken bs c
