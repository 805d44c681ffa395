-- Sizes within the limits. Assumes nothing.
use Rattle.std.proofs.Common.{◌≡◌, ℕ, ◌+◌, ◌*◌, ◌≤◌, mul_assoc, mul-le-mul, arith}
use Rattle.rows.specs.Layout.{table_size}
use Rattle.rows.specs.declared.table.Shape.{Shape}
use Rattle.text.specs.Texts.{Limits}

-- how many matrix rows and how many of their entries there are at most
pub most : (n k : ℕ) → Limits n k → (k * n ≤ 96) × (k * n * n ≤ 1536)
most n k l =
    let a : k * n ≤ 6 * 16 = mul-le-mul l.letters l.states in
    let b : k * n * n ≤ 96 * 16 = mul-le-mul {n₂ = 96} a l.states in
    (a, b)

-- the parts of a table take all its room
pub parts_fit : (n k len : ℕ) → len ≡ table_size n k → n + k * n * n + n ≡ len
parts_fit n k len e = omega (arith, mul_assoc k n n)

pub block_fits : (n k : ℕ) → Limits n k → table_size n k ≤ 1568
block_fits n k l = omega (arith, most n k l, mul_assoc k n n, l.states)

-- a shape is within the limits
abbrev pub shape_limits : (z : Shape) → Limits z.states z.letters
shape_limits z = record { states = z.few_states; some_letter = z.some_letter; letters = z.few_letters }
