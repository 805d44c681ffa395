-- Where rows of equal width lie one behind the other. Assumes nothing.
use Rattle.std.proofs.Common.{ℕ, ◌+◌, ◌*◌, ◌<◌, ◌≤◌, arith}
use Rattle.std.proofs.lemmas.Nat.{mul-le, mul-add-lt}

-- entry j of row i lies before row n
pub entry_before : (i d j n : ℕ) → i < n → j < d → i * d + j < n * d
entry_before i d j n h l = omega (arith, mul-add-lt i d j n h l)

-- row i lies before row n
pub row_before : (i n d : ℕ) → i < n → i * d + d ≤ n * d
row_before i n d l = omega (arith, mul-le (i + 1) d n d (omega arith) (omega arith))

-- rows of at most 32 entries, at most as many of them, and one more
pub rows_room : (n d : ℕ) → n ≤ d → d ≤ 32 → n * d + d ≤ 1056
rows_room n d l h = omega (arith, mul-le n d 32 32 (omega arith) (omega arith))
