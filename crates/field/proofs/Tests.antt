-- Tests of the numbers below a bound, one by one: at numerals the checker computes them. Assumes nothing.
use Rattle.std.specs.Prelude.{◌≡◌, ℕ, ◌<◌, Bool, true, false, T, List, get_or, refl}
use Rattle.std.specs.List.{list_all, range_with_len}
use Rattle.std.proofs.Common.{◌∙◌, subst, arith}
use Rattle.std.proofs.lemmas.List.FromFn.{length-range_with_len, get_or-range_with_len}
use Rattle.std.proofs.lemmas.List.Sums.{AllPass-from_list_all}

-- a test at each number below n
abbrev pub all : ℕ → (ℕ → Bool) → Bool
all n f = list_all f (range_with_len 0 n)

holds : (b : Bool) → T b → b ≡ true
holds true t = refl
holds false t = absurd t

pub all_at : (n : ℕ) (f : ℕ → Bool) → T (all n f) → (i : ℕ) → i < n → f i ≡ true
all_at n f t i l =
    let row : List ℕ = range_with_len 0 n in
    let at : get_or row i 0 ≡ i = get_or-range_with_len 0 n i 0 l ∙ omega arith in
    let passes = AllPass-from_list_all f row (holds (list_all f row) t) i 0 in
    subst (λ m. f m ≡ true) at (passes (omega (arith, length-range_with_len 0 n)))
