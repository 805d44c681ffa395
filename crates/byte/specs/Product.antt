-- Products, powers and inverses of bytes; Theorems.antt says what a product is. Assumes nothing.
use Rattle.std.specs.Prelude.{ℕ, zero, suc, ◌*◌, ◌/◌, ◌%◌, bit_xor}

-- t times a: t^8 leaves t^4 + t^3 + t + 1, which is 27
abbrev pub raised : ℕ → ℕ
raised a = bit_xor (a % 128 * 2) (a / 128 % 2 * 27)

-- a times the lowest k bits of b: the sum of t^i times a over the bits i that are set
abbrev pub partial : ℕ → ℕ → ℕ → ℕ
partial zero a b = 0
partial (suc k) a b = bit_xor (b % 2 * a) (partial k (raised a) (b / 2))

-- a times b
unfoldable pub product : ℕ → ℕ → ℕ
product a b = partial 8 a b

-- r times the powers 2, 4, .. of s, k of them
unfoldable pub power : ℕ → ℕ → ℕ → ℕ
power zero r s = r
power (suc k) r s = let t = product s s in power k (product r t) t

-- the power 254, which is the inverse of every byte but 0
unfoldable pub inverse_of : ℕ → ℕ
inverse_of a = power 7 1 a
