-- Bytes that are filled from the front: numbers, and a line of them. Assumes nothing.
use Rattle.std.proofs.Common.{◌≡◌, ◌-◌, ◌*◌, ℕ, zero, suc, ◌+◌, ◌^◌, ◌<◌, ◌≤◌, List, [], ◌∷◌, ◌++◌, length, get_or, take, drop, set, sym, refl, ap, ◌∙◌, subst, arith}
use borrow.Rule.Slice.PartMut.{put_mid}
use Rattle.std.specs.Iterator.{Yields}
use Rattle.std.specs.declared.option.Option.{Option}
use Rattle.std.specs.declared.option.Option.TheVariants.{Some, None}
use Rattle.std.proofs.lemmas.List.{length-set, set_split, drop_all, length-take, length-drop, length-append, map-id}
use Rattle.std.proofs.lemmas.Slice.{take-put_mid}
use Rattle.std.proofs.lemmas.Iterator.{YieldsList}
use Rattle.std.proofs.lemmas.Iterator.Consumers.{YieldsList-turn, YieldsList-end}
use Rattle.columns.specs.Numbers.{number}
use Rattle.columns.specs.Lines.{numbers, line, TenDigits, Gives}
use Rattle.columns.proofs.Begun.{length_number}
use Rattle.columns.proofs.Lengths.{numbers_more}

pub length_put : {X : Type 0} (a k : ℕ) (xs ys : List X) → length ys ≡ k → a + k ≤ length xs → length (put_mid a k xs ys) ≡ length xs
length_put a k xs ys e h = simp (length-append, length-take, length-drop) (omega arith)

pub cut_length : {X : Type 0} (a e k : ℕ) (xs : List X) → e ≡ a + k → e ≤ length xs → length (take (e - a) (drop a xs)) ≡ k
cut_length a e k xs w h = simp (length-take, length-drop) (omega arith)

-- what is written so far grows by what is written next
pub put_next : (at k w : ℕ) (out sofar ys : List ℕ) → take at out ≡ sofar → at ≤ length out → w ≡ at + length ys → take w (put_mid at k out ys) ≡ sofar ++ ys
put_next at k w out sofar ys e h n = take-put_mid at k out ys w n h ∙ ap (λ l. l ++ ys) e

put_first : (out : List ℕ) (b : ℕ) → 0 < length out → take 1 (set out 0 b) ≡ b ∷ []
put_first [] b h = absurd (omega arith)
put_first (x ∷ xs) b h = refl

-- a line: its first byte, what stands between, and byte 10
pub line_put : (out ys : List ℕ) (b m e k : ℕ) → length out ≡ 2 + m → length ys ≡ m → e ≡ 1 + m → k ≡ m → set (put_mid 1 k (set out 0 b) ys) e 10 ≡ b ∷ (ys ++ 10 ∷ [])
line_put out ys b m e k long count at width =
    let a = length-set out 0 b in
    let filled = put_mid 1 k (set out 0 b) ys in
    let d : length filled ≡ e + 1 = length_put 1 k (set out 0 b) ys (omega arith) (omega arith) ∙ omega arith in
    let front : take e filled ≡ b ∷ ys = put_next 1 k e (set out 0 b) (b ∷ []) ys (put_first out b (omega arith)) (omega arith) (omega arith) in
    set_split filled e 10 (omega arith) ∙ (λ i. front i ++ 10 ∷ drop_all (suc e) filled (omega arith) i)

digits_at : (vs : List ℕ) (k d : ℕ) → k < length vs → TenDigits vs → get_or vs k d < 10 ^ 10
digits_at [] k d h s = absurd (omega arith)
digits_at (v ∷ vs) zero d h s = s.0
digits_at (v ∷ vs) (suc k) d h s = digits_at vs k d (omega arith) s.1

-- one more number
pub numbers_next : (at k v : ℕ) (out vs ys : List ℕ) → at + 11 ≤ length out → v < 10 ^ 10 → ys ≡ number v → take at out ≡ numbers vs → take (at + 11) (put_mid at k out ys) ≡ numbers (vs ++ v ∷ [])
numbers_next at k v out vs ys fits small is sofar =
    put_next at k (at + 11) out _ ys sofar (omega arith) (omega (arith, ap length is, length_number v small))
    ∙ ap (λ l. numbers vs ++ l) is ∙ sym (numbers_more vs v)

-- an iterator of numbers, of which some have come
module _ {S : Type 0} (steps : S → Option ℕ → S → Type 0) (s p : S) (begins : p ≡ s) (all : List ℕ) (gives : Gives steps s all) (xs : List ℕ) (t : S) (yields : Yields steps p xs t) (r : Option ℕ) (u : S) (step : steps t r u) where
  given : YieldsList steps (λ v. v) p all
  given = record { runs = subst (λ q. Gives steps q all) (sym begins) gives }

  pub one_left : (v : ℕ) → r ≡ Some v → length xs < length all
  one_left v e = (YieldsList-turn given xs t yields r u v e step).0

  pub next_small : (v : ℕ) → r ≡ Some v → TenDigits all → v < 10 ^ 10
  next_small v e small = let turn = YieldsList-turn given xs t yields r u v e step in omega (arith, turn.1, digits_at all (length xs) v turn.0 small)

  pub all_given : r ≡ None → xs ≡ all
  all_given e = sym (map-id xs) ∙ (YieldsList-end given xs t yields r u e step).0

-- what a line's writer asks of an iterator that gives the list, and what it leaves
pub fill_line : {S : Type 0} {steps : S → Option ℕ → S → Type 0} {s : S} {vs : List ℕ} (n : ℕ) → YieldsList steps (λ v. v) s vs → TenDigits vs → n ≡ 2 + 11 * length vs → (us : List ℕ) × Gives steps s us × TenDigits us × (n ≡ 2 + 11 * length us)
fill_line {vs = vs} n road small long = (vs, road.runs, small, long)

pub filled_line : {S : Type 0} {steps : S → Option ℕ → S → Type 0} {s : S} {vs out : List ℕ} {first : ℕ} → ((us : List ℕ) → Gives steps s us → out ≡ line first us) → YieldsList steps (λ v. v) s vs → out ≡ line first vs
filled_line {vs = vs} written road = written vs road.runs
