-- The bytes as a field of 256 values. The byte is the code. Assumes nothing.
use Rattle.std.specs.Prelude.{ℕ, ◌%◌, bit_xor, refl}
use Rattle.std.specs.Int.Bits.{xor_assoc, xor_self, xor_zero_r}
use Rattle.std.proofs.Common.{mod-lt, mod-eq_of_lt, lit<, lit≤}
use Rattle.std.proofs.lemmas.Nat.{xor_comm, xor_lt}
use Rattle.field.specs.FiniteField.{FiniteField}
use Rattle.field.specs.Below.{Below, same_below}
use Rattle.byte.specs.Product.{product, inverse_of}
use Rattle.byte.specs.Proofs.Linear.{right}
use Rattle.byte.specs.Proofs.Laws as laws

-- the byte of the lowest eight bits
abbrev pub byte_of : ℕ → Below 256
byte_of n = record { n = n % 256; below = mod-lt n (lit< tt) }

abbrev pub bytes : FiniteField (Below 256)
bytes = record {
  q = 256;
  zero = record { n = 0; below = lit< tt };
  one = record { n = 1; below = lit< tt };
  plus = λ x y. record { n = bit_xor x.n y.n; below = xor_lt 8 x.n y.n x.below y.below };
  opposite = λ x. x;
  times = λ x y. record { n = product x.n y.n; below = laws.product_lt x.n y.n x.below };
  inverse = λ x. record { n = inverse_of x.n; below = laws.inverse_lt x.n };
  code = λ x. x.n;
  decode = byte_of;
  q_low = lit≤ tt;
  q_high = lit≤ tt;
  plus_assoc = λ x y z. same_below _ _ (xor_assoc x.n y.n z.n);
  plus_comm = λ x y. same_below _ _ (xor_comm x.n y.n);
  plus_zero = λ x. same_below _ _ (xor_zero_r x.n);
  plus_opposite = λ x. same_below _ _ (xor_self x.n);
  times_assoc = λ x y z.
      same_below _ _ (laws.product_assoc x.n y.n z.n x.below y.below z.below);
  times_comm = λ x y. same_below _ _ (laws.product_comm x.n y.n x.below y.below);
  times_one = λ x. same_below _ _ (laws.product_one x.n x.below);
  times_plus = λ x y z. same_below _ _ (right x.n y.n z.n);
  one_not_zero = laws.one_not_zero _ _ refl refl;
  times_inverse = λ x h.
      same_below _ _ (laws.product_inverse x.n x.below (λ e. h (same_below _ _ e)));
  code_below = λ x. x.below;
  code_zero = refl;
  code_one = refl;
  code_decode = λ n h. mod-eq_of_lt h;
  decode_code = λ x. same_below _ _ (mod-eq_of_lt x.below);
}
