-- A finite field: values, operations, their laws, and a number for each value. Assumes nothing.
use Rattle.std.specs.Prelude.{◌≡◌, ℕ, ◌<◌, ◌≤◌, ◌≢◌}

pub record FiniteField (V : Type 0) : Type 0 where
  -- how many values there are
  pub q : ℕ
  pub zero : V
  pub one : V
  pub plus : V → V → V
  pub opposite : V → V
  pub times : V → V → V
  -- of a value other than zero; what it is at zero says nothing
  pub inverse : V → V
  -- the number of a value, and the value of a number below q
  pub code : V → ℕ
  pub decode : ℕ → V
  pub q_low : 2 ≤ q
  pub q_high : q ≤ 9999999999
  pub plus_assoc : (x y z : V) → plus (plus x y) z ≡ plus x (plus y z)
  pub plus_comm : (x y : V) → plus x y ≡ plus y x
  pub plus_zero : (x : V) → plus x zero ≡ x
  pub plus_opposite : (x : V) → plus x (opposite x) ≡ zero
  pub times_assoc : (x y z : V) → times (times x y) z ≡ times x (times y z)
  pub times_comm : (x y : V) → times x y ≡ times y x
  pub times_one : (x : V) → times x one ≡ x
  pub times_plus : (x y z : V) → times x (plus y z) ≡ plus (times x y) (times x z)
  pub one_not_zero : one ≢ zero
  pub times_inverse : (x : V) → x ≢ zero → times x (inverse x) ≡ one
  pub code_below : (x : V) → code x < q
  pub code_zero : code zero ≡ 0
  pub code_one : code one ≡ 1
  -- the two conversions undo each other; that equal values have equal codes needs no law
  pub code_decode : (n : ℕ) → n < q → code (decode n) ≡ n
  pub decode_code : (x : V) → decode (code x) ≡ x
