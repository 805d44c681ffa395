-- Lengths of lines, and what follows from equal lines. Assumes nothing.
use Rattle.std.proofs.Common.{◌≡◌, ℕ, zero, suc, ◌+◌, ◌-◌, ◌*◌, ◌^◌, ◌<◌, ◌≤◌, List, [], ◌∷◌, ◌++◌, length, take, drop, replicate, decimal, sym, refl, ap, ◌∙◌, ⊎_elim, append_assoc, add-mul, zero-mul, add-one, arith}
use native.Mathlib.Nat.{pow-le-pow_right}
use Rattle.std.specs.List.{range_with_len, flat_map}
use Rattle.std.specs.Str.Parse.{AllDigits, digits_value as number_of_lem}
use Rattle.std.proofs.lemmas.List.{length-append, length-replicate, flat_map_more, take_at, drop_at}
use Rattle.std.proofs.lemmas.Bool.{cases_eq}
use Rattle.std.proofs.lemmas.Str.Parse.{numerals_by_value, tells_digits}
use Rattle.std.proofs.lemmas.Int.Digits.{digits_value-lt}
use Rattle.std.proofs.lemmas.Fmt.{decimal-digits_value, decimal_is_IsNumeral, decimal_nonempty, decimal_digit, length-decimal-le, first_decimal}
use Rattle.columns.specs.Numbers.{number, IsNumber}
use Rattle.columns.specs.Lines.{numbers, line, TenDigits}
use Rattle.columns.specs.Facts.{Shaped, LegalIs}
use Rattle.columns.proofs.Begun.{number_begun, length_number, begun_same}

shaped_number : (bs : List ℕ) → Shaped bs → (v : ℕ) × IsNumber bs v
unfolding number
shaped_number bs s =
    let ds = s.digits in
    let all : s.blanks + length ds ≡ 11 = sym (length-append (replicate s.blanks 32) ds ∙ ap (λ n. n + length ds) (length-replicate s.blanks 32)) ∙ ap length (sym s.parts) ∙ s.eleven in
    let up : 10 ^ length ds ≤ 10 ^ 10 = pow-le-pow_right {n = 10} (omega arith) {i = length ds} {j = 10} (omega (arith, s.blank)) in
    let small : number_of_lem 10 ds < 10 ^ 10 = omega (arith, digits_value-lt 10 ds s.each) in
    let same = decimal-digits_value (numerals_by_value (AllDigits 10) tells_digits) ds s.each s.some s.lead (omega arith) in
    let left : 11 - length ds ≡ s.blanks = omega arith in
    (number_of_lem 10 ds, (small, s.parts ∙ sym (ap (λ l. replicate (11 - length l) 32 ++ l) same ∙ ap (λ n. replicate n 32 ++ ds) left)))

number_shaped : (v : ℕ) → v < 10 ^ 10 → Shaped (number v)
unfolding number
number_shaped v small =
    let short = length-decimal-le 10 v (omega arith) small (omega arith) in
    record {
      blanks = 11 - length (decimal v);
      digits = decimal v;
      parts = refl;
      eleven = length_number v small;
      blank = omega arith;
      some = decimal_nonempty v (omega arith);
      each = (decimal_is_IsNumeral v (omega arith)).0.1;
      lead = λ e. ⊎_elim (λ (z : v ≡ 0). ap (λ n. length (decimal n)) z ∙ ap length (decimal_digit 0 (omega arith))) (λ (n : v ≡ 0 → ⊥). absurd (omega (arith, first_decimal v (omega arith) (omega arith)))) (cases_eq v 0);
    }

pub legal_is : LegalIs
legal_is = (shaped_number, number_shaped)

pub numbers_more : (vs : List ℕ) (v : ℕ) → numbers (vs ++ v ∷ []) ≡ numbers vs ++ number v
numbers_more vs v = sym (flat_map_more number [] vs v)

pub length_numbers : (vs : List ℕ) → TenDigits vs → length (numbers vs) ≡ 11 * length vs
length_numbers [] s = refl
length_numbers (v ∷ vs) s = length-append (number v) (numbers vs) ∙ omega (arith, length_number v s.0, length_numbers vs s.1)

pub length_line : (k : ℕ) (vs : List ℕ) → TenDigits vs → length (line k vs) ≡ 2 + 11 * length vs
length_line k vs s = omega (arith, length-append (numbers vs) (10 ∷ []), length_numbers vs s)

pub length_joined : (f : ℕ → List ℕ) (w a m : ℕ) → ((i : ℕ) → a ≤ i → i < a + m → length (f i) ≡ w) → length (flat_map f (range_with_len a m)) ≡ m * w
length_joined f w a zero h = sym (zero-mul w)
length_joined f w a (suc m) h = length-append (f a) (flat_map f (range_with_len (a + 1) m)) ∙ omega (arith, h a (omega arith) (omega arith), length_joined f w (a + 1) m (λ i l r. h i (omega arith) (omega arith)), add-mul m 1 w, ap (λ n. n * w) (add-one m))

pub append_parts : (a b x y : List ℕ) → length a ≡ length b → a ++ x ≡ b ++ y → (a ≡ b) × (x ≡ y)
append_parts a b x y e h = (
  sym (take_at a x (length a) refl) ∙ ap (take (length a)) h ∙ take_at b y (length a) (sym e),
  sym (drop_at a x (length a) refl) ∙ ap (drop (length a)) h ∙ drop_at b y (length a) (sym e),
)

pub number_same : (v w : ℕ) → v < 10 ^ 10 → w < 10 ^ 10 → number v ≡ number w → v ≡ w
number_same v w h k e = begun_same 11 v w (omega arith) (omega arith) (sym (number_begun v h) ∙ e ∙ number_begun w k)

numbers_same : (vs ws : List ℕ) → length vs ≡ length ws → TenDigits vs → TenDigits ws → numbers vs ≡ numbers ws → vs ≡ ws
numbers_same [] [] e s u h = refl
numbers_same [] (w ∷ ws) e s u h = absurd (omega arith)
numbers_same (v ∷ vs) [] e s u h = absurd (omega arith)
numbers_same (v ∷ vs) (w ∷ ws) e s u h =
    let parts = append_parts (number v) (number w) (numbers vs) (numbers ws) (length_number v s.0 ∙ sym (length_number w u.0)) h in
    λ i. number_same v w s.0 u.0 parts.0 i ∷ numbers_same vs ws (omega arith) s.1 u.1 parts.1 i

-- two lines of one kind and as many numbers, with what follows them
pub line_same : (k : ℕ) (vs ws x y : List ℕ) → length vs ≡ length ws → TenDigits vs → TenDigits ws → line k vs ++ x ≡ line k ws ++ y → (vs ≡ ws) × (x ≡ y)
line_same k vs ws x y e s u h =
    let all = append_parts (line k vs) (line k ws) x y (length_line k vs s ∙ ap (λ n. 2 + 11 * n) e ∙ sym (length_line k ws u)) h in
    let body = append_parts (numbers vs) (numbers ws) (10 ∷ []) (10 ∷ []) (length_numbers vs s ∙ ap (λ n. 11 * n) e ∙ sym (length_numbers ws u)) (ap (drop 1) all.0) in
    (numbers_same vs ws e s u body.0, all.1)

pub joined_parts : (f g : ℕ → List ℕ) (a m : ℕ) (x y : List ℕ) → ((i : ℕ) → a ≤ i → i < a + m → length (f i) ≡ length (g i)) → flat_map f (range_with_len a m) ++ x ≡ flat_map g (range_with_len a m) ++ y → ((i : ℕ) → a ≤ i → i < a + m → f i ≡ g i) × (x ≡ y)
joined_parts f g a zero x y e h = (λ i l r. absurd (omega arith), h)
joined_parts f g a (suc m) x y e h =
    let parts = append_parts (f a) (g a) (flat_map f (range_with_len (a + 1) m) ++ x) (flat_map g (range_with_len (a + 1) m) ++ y) (e a (omega arith) (omega arith)) (sym (append_assoc (f a) (flat_map f (range_with_len (a + 1) m)) x) ∙ h ∙ append_assoc (g a) (flat_map g (range_with_len (a + 1) m)) y) in
    let rest = joined_parts f g (a + 1) m x y (λ i l r. e i (omega arith) (omega arith)) parts.1 in
    (λ i l r. ⊎_elim (λ (z : i ≡ a). ap f z ∙ parts.0 ∙ ap g (sym z)) (λ (n : i ≡ a → ⊥). rest.0 i (omega arith) (omega arith)) (cases_eq i a), rest.1)
