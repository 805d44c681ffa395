-- Words as they are typed. Assumes nothing.
use Rattle.std.specs.Prelude.{ℕ, ◌-◌, cond, nat_le}

-- the letter of a byte: a digit's number, and 0 for any other byte
abbrev pub letter : ℕ → ℕ
letter b = cond (nat_le 48 b) (cond (nat_le b 57) (b - 48) 0) 0
