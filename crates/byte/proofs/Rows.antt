-- Rows of bytes: their elements, and the sum of the first products of a dot product. Assumes nothing.
use Rattle.std.proofs.Common.{◌≡◌, ℕ, ◌+◌, ◌*◌, ◌<◌, List, length, get_or, sym, ap₂, ◌∙◌}
use Rattle.std.proofs.lemmas.List.{get_or-map}
use Rattle.field.specs.Below.{Below, same_below}
use Rattle.field.specs.Rows.{at}
use Rattle.field.specs.Sums.{dot}
use Rattle.field.proofs.Rows.{sum_more}
use Rattle.byte.specs.declared.Byte.{Byte}
use Rattle.byte.specs.Product.{product}
use Rattle.byte.specs.Bytes.{bytes}

abbrev pub value_of : Byte → Below 256
value_of x = record { n = x.n; below = x.below }

pub at_got : (xs : List Byte) (i : ℕ) (x : Byte) → i < length xs → value_of (get_or xs i x) ≡ at bytes value_of xs i
at_got xs i x h = sym (get_or-map value_of xs i x bytes.zero h)

-- an element that has the product of two others
pub product_value : (x y p : Byte) (n : ℕ) → p.n ≡ n → n ≡ product x.n y.n
    → value_of p ≡ bytes.times (value_of x) (value_of y)
product_value x y p n e h = same_below _ _ (e ∙ h)

-- the sum of the first i products
abbrev pub Summed : List Byte → List Byte → ℕ → ℕ → ℕ → Byte → Type 0
Summed row ys column step i sum =
    value_of sum ≡ dot bytes i (at bytes value_of row) (λ i. at bytes value_of ys (column + i * step))

pub summed_more : (row ys : List Byte) (column step i : ℕ) (sum p sum' : Byte) → Summed row ys column step i sum
    → value_of sum' ≡ bytes.plus (value_of sum) (value_of p)
    → value_of p ≡ bytes.times (at bytes value_of row i) (at bytes value_of ys (column + i * step))
    → Summed row ys column step (i + 1) sum'
summed_more row ys column step i sum p sum' s e h =
    let x = at bytes value_of row in
    let y = at bytes value_of ys in
    e ∙ ap₂ bytes.plus s h ∙ sum_more bytes i (λ k. bytes.times (x k) (y (column + k * step)))
