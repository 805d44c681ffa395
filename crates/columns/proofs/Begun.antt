-- The first columns of a number, one by one. Assumes nothing.
use Rattle.std.proofs.Common.{◌≡◌, ℕ, zero, suc, ◌+◌, ◌-◌, ◌*◌, ◌/◌, ◌%◌, ◌^◌, ◌<◌, ◌≤◌, cond, eqb, leb, ◌⊎◌, List, [], ◌∷◌, ◌++◌, length, get_or, take, drop, set, replicate, decimal, sym, refl, ap, ◌∙◌, subst, inl, inr, ⊎_elim, append_assoc, add-zero, add-suc, lt_of_mul-lt-mul_right, mul-lt-mul_of_pos_right, pow-suc, mul_right_comm, div-mul-le_self, div-one, mul-div_cancel, add-one, arith, pow-add}
use native.Mathlib.Nat.{pow-zero, div-div-eq-div-mul, pow-succ', pow-le-pow_right}
use Rattle.std.proofs.lemmas.List.{length_push, replicate_more, take-append-le, take_all, take_at, get_or_at, take_more, length-take-le, drop-set}
use Rattle.std.proofs.lemmas.Fmt.{decimal_digit, decimal_step}
use Rattle.std.proofs.lemmas.Bool.{cases_eq, cases_lt, le-leb, lt-leb, ne_eqb}
use Rattle.columns.specs.Numbers.{number, Begins, Broken}
use Rattle.columns.specs.Prefixes.{value_of, Extends, Holds}
use Rattle.columns.specs.declared.column.Prefix.{Prefix}
use Rattle.columns.specs.declared.column.Prefix.TheVariants.{Spaces, Digits}

-- the last of the first i columns, which hold v so far: blank until a digit comes, but for the eleventh
unfoldable pub cell : ℕ → ℕ → ℕ
cell i v = cond (leb i 10) (cond (eqb v 0) 32 (48 + v % 10)) (48 + v % 10)

unfoldable pub begun : ℕ → ℕ → List ℕ
begun zero v = []
begun (suc i) v = begun i (v / 10) ++ cell (suc i) v ∷ []

pub length_begun : (i v : ℕ) → length (begun i v) ≡ i
unfolding begun
length_begun zero v = refl
length_begun (suc i) v = length_push (begun i (v / 10)) _ ∙ add-one _ ∙ ap suc (length_begun i (v / 10))

pub cell_blank : (i : ℕ) → i ≤ 10 → cell i 0 ≡ 32
unfolding cell
cell_blank i h = rw (le-leb i 10 h)

pub cell_digit : (i v : ℕ) → (0 < v) ⊎ (10 < i) → cell i v ≡ 48 + v % 10
unfolding cell
cell_digit i v (inr h) = rw (lt-leb i 10 h)
cell_digit i v (inl h) =
    ⊎_elim
    (λ (l : i < 11). let a : i ≤ 10 = omega arith in let n : v ≡ 0 → ⊥ = λ e. omega arith in rw (le-leb i 10 a, ne_eqb v 0 n))
    (λ (l : 11 ≤ i). let a : 10 < i = omega arith in rw (lt-leb i 10 a))
    (cases_lt i 11)

-- before the first digit all is blank
pub blank : (i : ℕ) → i ≤ 10 → begun i 0 ≡ replicate i 32
unfolding begun
blank zero h = refl
blank (suc i) h = rw (cell_blank (suc i) h, blank i (omega arith), replicate_more, add-one)

-- the definition of a number, for each count of columns
spelled : (i v : ℕ) → i ≤ 11 → (0 < v) ⊎ (10 < i) → v < 10 ^ i → v < 2 ^ 64 → replicate (i - length (decimal v)) 32 ++ decimal v ≡ begun i v
unfolding begun
spelled zero v h (inl a) l f = absurd (omega arith)
spelled zero v h (inr a) l f = absurd (omega arith)
spelled (suc i) v h a l f =
    ⊎_elim
    (λ (small : v < 10).
    let q : v / 10 ≡ 0 = omega arith in
    let r : v % 10 ≡ v = omega arith in
    let s : suc i - 1 ≡ i = omega arith in
    rw (decimal_digit v small, s, cell_digit (suc i) v a, q, r, blank i (omega arith)))
    (λ (big : 10 ≤ v).
    let one = length_push (decimal (v / 10)) (48 + v % 10) in
    let s : suc i - (length (decimal (v / 10)) + 1) ≡ i - length (decimal (v / 10)) = omega arith in
    rw (decimal_step v big f, one, s, cell_digit (suc i) v a, ← append_assoc)
    (ap (λ l. l ++ (48 + v % 10) ∷ []) (spelled i (v / 10) (omega arith) (inl (omega arith)) (omega (arith, pow-suc 10 i)) (omega arith))))
    (cases_lt v 10)

pub number_begun : (v : ℕ) → v < 10 ^ 10 → number v ≡ begun 11 v
unfolding number
number_begun v h = spelled 11 v (omega arith) (inr (omega arith)) (omega arith) (omega arith)

pub length_number : (v : ℕ) → v < 10 ^ 10 → length (number v) ≡ 11
length_number v h = ap length (number_begun v h) ∙ length_begun 11 v

begun_step : (i v : ℕ) → begun (suc i) v ≡ begun i (v / 10) ++ cell (suc i) v ∷ []
unfolding begun
begun_step i v = refl

pub take_begun : (j i w : ℕ) → take i (begun (i + j) w) ≡ begun i (w / 10 ^ j)
take_begun zero i w = rw (add-zero, pow-zero, div-one) (take_all i (begun i w) (omega (arith, length_begun i w)))
take_begun (suc j) i w =
    let more : i + suc j ≡ suc (i + j) = add-suc i j in
    let fits : i ≤ length (begun (i + j) (w / 10)) = omega (arith, length_begun (i + j) (w / 10)) in
    rw (more, begun_step, take-append-le, take_begun j i (w / 10), div-div-eq-div-mul, pow-succ')

-- a blank, or a digit
pub cell_cases : (i v : ℕ) → ((v ≡ 0) × (i ≤ 10) × (cell i v ≡ 32)) ⊎ (((0 < v) ⊎ (10 < i)) × (cell i v ≡ 48 + v % 10))
cell_cases i v =
    ⊎_elim
    (λ (l : i < 11).
    ⊎_elim
    (λ (e : v ≡ 0). inl (e, omega arith, ap (cell i) e ∙ cell_blank i (omega arith)))
    (λ (n : v ≡ 0 → ⊥). inr (inl (omega arith), cell_digit i v (inl (omega arith))))
    (cases_eq v 0))
    (λ (l : 11 ≤ i). inr (inr (omega arith), cell_digit i v (inr (omega arith))))
    (cases_lt i 11)

pub cell_same : (i v w : ℕ) → v / 10 ≡ w / 10 → cell i v ≡ cell i w → v ≡ w
cell_same i v w q e =
    ⊎_elim
    (λ (a : (v ≡ 0) × (i ≤ 10) × (cell i v ≡ 32)).
    ⊎_elim
    (λ (b : (w ≡ 0) × (i ≤ 10) × (cell i w ≡ 32)). omega arith)
    (λ (b : ((0 < w) ⊎ (10 < i)) × (cell i w ≡ 48 + w % 10)). omega arith)
    (cell_cases i w))
    (λ (a : ((0 < v) ⊎ (10 < i)) × (cell i v ≡ 48 + v % 10)).
    ⊎_elim
    (λ (b : (w ≡ 0) × (i ≤ 10) × (cell i w ≡ 32)). omega arith)
    (λ (b : ((0 < w) ⊎ (10 < i)) × (cell i w ≡ 48 + w % 10)). omega arith)
    (cell_cases i w))
    (cell_cases i v)

-- two lists of one length, each with one more at the end
pub push_parts : (i : ℕ) (p q : List ℕ) (x y : ℕ) → length p ≡ i → length q ≡ i → p ++ x ∷ [] ≡ q ++ y ∷ [] → (p ≡ q) × (x ≡ y)
push_parts i p q x y a b e = (
  sym (take_at p (x ∷ []) i a) ∙ ap (take i) e ∙ take_at q (y ∷ []) i b,
  sym (get_or_at p x [] 0 i a) ∙ ap (λ l. get_or l i 0) e ∙ get_or_at q y [] 0 i b,
)

-- equal columns have equal values
pub begun_same : (i v w : ℕ) → v < 10 ^ i → w < 10 ^ i → begun i v ≡ begun i w → v ≡ w
unfolding begun
begun_same zero v w h k e = omega arith
begun_same (suc i) v w h k e =
    let parts = push_parts i (begun i (v / 10)) (begun i (w / 10)) _ _ (length_begun i _) (length_begun i _) e in
    let low : v / 10 < 10 ^ i = omega (arith, pow-suc 10 i) in
    let low' : w / 10 < 10 ^ i = omega (arith, pow-suc 10 i) in
    cell_same (suc i) v w (begun_same i (v / 10) (w / 10) low low' parts.0) parts.1

pub pow_some : (i : ℕ) → 0 < 10 ^ i
pow_some zero = omega arith
pow_some (suc i) = omega (arith, pow-suc 10 i, pow_some i)

module _ (i j : ℕ) (whole : i + j ≡ 11) where
  eleven : 10 ^ i * 10 ^ j ≡ 10 ^ 11
  eleven = sym (pow-add 10 i j) ∙ ap (λ m. 10 ^ m) whole

  small_from : (v : ℕ) → v * 10 < 10 ^ i → v * 10 ^ j < 10 ^ 10
  small_from v l =
      let up : v * 10 * 10 ^ j < 10 ^ i * 10 ^ j = mul-lt-mul_of_pos_right l (pow_some j) in
      let turned : v * 10 * 10 ^ j ≡ v * 10 ^ j * 10 = mul_right_comm v 10 (10 ^ j) in
      omega (arith, eleven)

  front_is : (w : ℕ) → w < 10 ^ 10 → take i (number w) ≡ begun i (w / 10 ^ j)
  front_is w small = ap (take i) (number_begun w small) ∙ ap (λ m. take i (begun m w)) (sym whole) ∙ take_begun j i w

  -- each of these begins a number: that with zeros after it
  begins_at : (v : ℕ) → v * 10 < 10 ^ i → Begins (begun i v)
  begins_at v l =
      let small = small_from v l in
      (v * 10 ^ j, small, rw length_begun (front_is (v * 10 ^ j) small ∙ ap (begun i) (mul-div_cancel v (pow_some j))))

  small_to : (w : ℕ) → w < 10 ^ 10 → w / 10 ^ j * 10 < 10 ^ i
  small_to w l =
      let up : w / 10 ^ j * 10 * 10 ^ j < 10 ^ i * 10 ^ j = omega (arith, eleven, div-mul-le_self w (10 ^ j), mul_right_comm (w / 10 ^ j) 10 (10 ^ j)) in
      lt_of_mul-lt-mul_right (10 ^ j) up

pub begins_from : (i v : ℕ) → i ≤ 11 → v * 10 < 10 ^ i → Begins (begun i v)
begins_from i v h l = begins_at i (11 - i) (omega arith) v l

pub begins_to : (i : ℕ) (p : List ℕ) → Begins p → length p ≡ i → i ≤ 11 → (v : ℕ) × (v * 10 < 10 ^ i) × (p ≡ begun i v)
begins_to i p (w, small, e) n h = (
  w / 10 ^ (11 - i),
  small_to i (11 - i) (omega arith) w small,
  sym e ∙ ap (λ m. take m (number w)) n ∙ front_is i (11 - i) (omega arith) w small,
)

-- where the prefix may end: digits are no zero before the last column
abbrev pub Placed : ℕ → Prefix → Type 0
Placed i Spaces = i ≤ 10
Placed i (Digits v) = (0 < v) ⊎ (10 < i)

-- the first i bytes hold v so far
pub record Sofar (bs : List ℕ) (i v : ℕ) : Type 0 where
  pub front : take i bs ≡ begun i v
  pub low : v * 10 < 10 ^ i
  pub small : v < 10 ^ 10

pub sofar_none : (bs : List ℕ) → Sofar bs 0 0
unfolding begun
sofar_none bs = record { front = refl; low = omega arith; small = omega arith }

module _ (bs : List ℕ) (i v : ℕ) (sofar : Sofar bs i v) (on : i < length bs) (within : i < 11) where
  more : (w : ℕ) → w / 10 ≡ v → get_or bs i 0 ≡ cell (suc i) w → w < 10 ^ i → Sofar bs (i + 1) w
  more w q e l = record {
    front = take_more bs i 0 on ∙ rw (sofar.front, e, ← q, add-one, begun_step);
    low = rw add-one (omega (arith, pow-suc 10 i));
    small = let up : 10 ^ i ≤ 10 ^ 10 = pow-le-pow_right {n = 10} (omega arith) {i = i} {j = 10} (omega arith) in omega arith;
  }

  -- where something stands so far, the first column is past
  pub past_first : 0 < v → 0 < i
  past_first h = ⊎_elim (λ (e : i ≡ 0). absurd (omega (arith, ap (λ m. 10 ^ m) e, sofar.low))) (λ (n : i ≡ 0 → ⊥). omega arith) (cases_eq i 0)

  pub space_more : v ≡ 0 → i < 10 → get_or bs i 0 ≡ 32 → Sofar bs (i + 1) 0
  space_more z h b = more 0 (sym z) (b ∙ sym (cell_blank (suc i) h)) (pow_some i)

  pub digit_more : (d : ℕ) → d < 10 → get_or bs i 0 ≡ 48 + d → 0 < i → (0 < v * 10 + d) ⊎ (10 < suc i) → Sofar bs (i + 1) (v * 10 + d)
  digit_more d h b some first =
      let q : (v * 10 + d) / 10 ≡ v = omega arith in
      let r : (v * 10 + d) % 10 ≡ d = omega arith in
      let p : i ≡ suc (i - 1) = omega arith in
      let whole : 10 ^ i ≡ 10 ^ (i - 1) * 10 = ap (λ m. 10 ^ m) p ∙ pow-suc 10 (i - 1) in
      more (v * 10 + d) q (b ∙ ap (λ x. 48 + x) (sym r) ∙ sym (cell_digit (suc i) (v * 10 + d) first)) (omega (arith, sofar.low))

  -- a byte that is neither a space nor a digit that can stand here
  pub broken : (get_or bs i 0 ≡ 32 → v ≡ 0 → i < 10 → ⊥) → ((d : ℕ) → d < 10 → get_or bs i 0 ≡ 48 + d → 0 < i → (0 < v * 10 + d) ⊎ (10 < suc i) → ⊥) → Broken bs i
  broken space digit = record {
    reached = on;
    before = subst Begins (sym sofar.front) (begins_from i v (omega arith) sofar.low);
    here = λ begins.
        let long : length (take (i + 1) bs) ≡ suc i = length-take-le (i + 1) bs (omega arith) ∙ add-one i in
        let found = begins_to (suc i) (take (i + 1) bs) begins long within in
        let w = found.0 in
        let low : w < 10 ^ i = omega (arith, found.1, pow-suc 10 i) in
        let same : begun i v ++ get_or bs i 0 ∷ [] ≡ begun i (w / 10) ++ cell (suc i) w ∷ [] = ap (λ l. l ++ get_or bs i 0 ∷ []) (sym sofar.front) ∙ sym (take_more bs i 0 on) ∙ found.2 ∙ begun_step i w in
        let parts = push_parts i (begun i v) (begun i (w / 10)) _ _ (length_begun i v) (length_begun i _) same in
        let front : v ≡ w / 10 = begun_same i v (w / 10) (omega (arith, sofar.low)) (omega arith) parts.0 in
        ⊎_elim
        (λ (a : (w ≡ 0) × (suc i ≤ 10) × (cell (suc i) w ≡ 32)). space (parts.1 ∙ a.2) (omega arith) (omega arith))
        (λ (a : ((0 < w) ⊎ (10 < suc i)) × (cell (suc i) w ≡ 48 + w % 10)).
        digit (w % 10) (omega arith) (parts.1 ∙ a.1)
        (⊎_elim (λ (e : i ≡ 0). absurd (omega (arith, ap (λ m. 10 ^ m) e))) (λ (n : i ≡ 0 → ⊥). omega arith) (cases_eq i 0))
        (⊎_elim (λ (h : 0 < w). inl (omega arith)) (λ (h : 10 < suc i). inr h) a.0))
        (cell_cases (suc i) w);
  }

-- the bytes up to column i hold the prefix
pub record Reached (bs : List ℕ) (i : ℕ) (p : Prefix) : Type 0 where
  pub sofar : Sofar bs i (value_of p)
  pub placed : Placed i p

pub reached_none : (bs : List ℕ) → Reached bs 0 Spaces
reached_none bs = record { sofar = sofar_none bs; placed = omega arith }

-- one byte more
pub reached_more : (bs : List ℕ) (i : ℕ) (p q : Prefix) → Reached bs i p → i < length bs → i < 11 → Extends i p (get_or bs i 0) q → Reached bs (i + 1) q
reached_more bs i Spaces q r on within (inl (b, l, e)) = subst (Reached bs (i + 1)) (sym e) (record { sofar = space_more bs i 0 r.sofar on within refl l b; placed = omega arith })
reached_more bs i Spaces q r on within (inr (d, h, b, some, high, e)) =
    let z : 0 * 10 + d ≡ d = omega arith in
    subst (Reached bs (i + 1)) (sym e) (record {
      sofar = subst (Sofar bs (i + 1)) z (digit_more bs i 0 r.sofar on within d h b some (⊎_elim (λ k. inl (omega arith)) (λ k. inr (omega arith)) high));
      placed = ⊎_elim (λ k. inl k) (λ k. inr (omega arith)) high;
    })
reached_more bs i (Digits v) q r on within (d, h, b, e) =
    let some : 0 < v = ⊎_elim (λ k. k) (λ k. absurd (omega arith)) r.placed in
    let more : 0 < v * 10 + d = omega arith in
    subst (Reached bs (i + 1)) (sym e) (record { sofar = digit_more bs i v r.sofar on within d h b (past_first bs i v r.sofar on within some) (inl more); placed = inl more })

-- a byte that extends no prefix
pub reached_broken : (bs : List ℕ) (i : ℕ) (p : Prefix) → Reached bs i p → i < length bs → i < 11 → ((q : Prefix) → Extends i p (get_or bs i 0) q → ⊥) → Broken bs i
reached_broken bs i Spaces r on within none = broken bs i 0 r.sofar on within
    (λ b z l. none Spaces (inl (b, l, refl)))
    (λ d h b some high. none (Digits d) (inr (d, h, b, some, ⊎_elim (λ k. inl (omega arith)) (λ k. inr (omega arith)) high, refl)))
reached_broken bs i (Digits v) r on within none = broken bs i v r.sofar on within
    (λ b z l. ⊎_elim (λ k. omega arith) (λ k. omega arith) r.placed)
    (λ d h b some high. none (Digits (v * 10 + d)) (d, h, b, refl))

pub reached_held : (bs : List ℕ) (i : ℕ) (p : Prefix) → Reached bs i p → i ≡ length bs → i ≤ 11 → Holds bs p
reached_held bs i p r e h =
    let sofar = r.sofar in
    let v = value_of p in
    let all : bs ≡ begun i v = sym (take_all i bs (omega arith)) ∙ sofar.front in
    record {
      begins = subst Begins (sym all) (begins_from i v h sofar.low);
      whole = λ n. (sofar.small, all ∙ ap (λ m. begun m v) (e ∙ n) ∙ sym (number_begun v sofar.small));
    }

-- one more column, from the last to the first
pub put_more : (i rest b : ℕ) (cols whole : List ℕ) → 0 < i → i ≤ length cols → b ≡ cell i rest → whole ≡ begun i rest ++ drop i cols → whole ≡ begun (i - 1) (rest / 10) ++ drop (i - 1) (set cols (i - 1) b)
put_more zero rest b cols whole some fits e w = absurd (omega arith)
put_more (suc j) rest b cols whole some fits e w =
    let back : suc j - 1 ≡ j = omega arith in
    rw (back, drop-set cols j b fits, add-one, e) (w ∙ ap (λ l. l ++ drop (suc j) cols) (begun_step j rest) ∙ append_assoc (begun j (rest / 10)) (cell (suc j) rest ∷ []) (drop (suc j) cols))

pub put_all : (v rest i : ℕ) (cols : List ℕ) → v < 10 ^ 10 → i ≡ 0 → begun 11 v ≡ begun i rest ++ drop i cols → cols ≡ number v
unfolding begun
put_all v rest i cols h e w = sym (number_begun v h ∙ w ∙ ap (λ m. begun m rest ++ drop m cols) e)
