-- How long a table of a shape is at most. Assumes nothing.
use Rattle.std.proofs.Common.{◌*◌, ◌≤◌, mul_assoc, mul-le-mul, arith}
use Rattle.rows.specs.Layout.{table_size}
use Rattle.rows.specs.declared.table.Shape.{Shape}

pub shape_fits : (z : Shape) → table_size z.states z.letters ≤ 1568
shape_fits z =
    let rows : z.letters * z.states ≤ 6 * 16 = mul-le-mul z.few_letters z.few_states in
    let entries : z.letters * z.states * z.states ≤ 96 * 16 = mul-le-mul {n₂ = 96} rows z.few_states in
    omega (arith, entries, mul_assoc z.letters z.states z.states, z.few_states)
