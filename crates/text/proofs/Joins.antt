-- Lists that are joined, and lists that are written part by part. Assumes nothing.
use Rattle.std.proofs.Common.{◌≡◌, ℕ, zero, suc, ◌+◌, ◌-◌, ◌*◌, ◌<◌, ◌≤◌, List, ◌++◌, length, take, drop, sym, refl, ap, ◌∙◌, append_assoc, append-nil, add-zero, mul-le-mul_right, add-mul, arith}
use borrow.Rule.Slice.PartMut.{put_mid}
use Rattle.std.specs.List.{range_with_len, flat_map}
use Rattle.std.proofs.lemmas.List.{length-take, length-drop}
use Rattle.std.proofs.lemmas.Slice.{between-put_mid}

pub joined_more_counting : {X : Type 0} (f : ℕ → List X) (a n : ℕ) → flat_map f (range_with_len a (suc n)) ≡ flat_map f (range_with_len a n) ++ f (a + n)
joined_more_counting f a zero = append-nil (f a) ∙ ap f (sym (add-zero a))
joined_more_counting f a (suc n) = ap (λ l. f a ++ l) (joined_more_counting f (a + 1) n) ∙ sym (append_assoc (f a) (flat_map f (range_with_len (a + 1) n)) (f (a + 1 + n))) ∙ ap (λ m. (f a ++ flat_map f (range_with_len (a + 1) n)) ++ f m) (omega arith)

pub joined_same : {X : Type 0} (f g : ℕ → List X) (a n : ℕ) → ((i : ℕ) → a ≤ i → i < a + n → f i ≡ g i) → flat_map f (range_with_len a n) ≡ flat_map g (range_with_len a n)
joined_same f g a zero h = refl
joined_same f g a (suc n) h = λ i. h a (omega arith) (omega arith) i ++ joined_same f g (a + 1) n (λ k l m. h k (omega arith) (omega arith)) i

pub joined_split : {X : Type 0} (f : ℕ → List X) (a j m : ℕ) → flat_map f (range_with_len a (j + m)) ≡ flat_map f (range_with_len a j) ++ flat_map f (range_with_len (a + j) m)
joined_split f a zero m =
    let e : zero + m ≡ m = omega arith in
    let k : a ≡ a + zero = omega arith in
    ap (λ n. flat_map f (range_with_len a n)) e ∙ ap (λ n. flat_map f (range_with_len n m)) k
joined_split f a (suc j) m =
    let e : suc j + m ≡ suc (j + m) = omega arith in
    let k : a + 1 + j ≡ a + suc j = omega arith in
    ap (λ n. flat_map f (range_with_len a n)) e ∙ ap (λ l. f a ++ l) (joined_split f (a + 1) j m) ∙ sym (append_assoc (f a) (flat_map f (range_with_len (a + 1) j)) (flat_map f (range_with_len (a + 1 + j) m))) ∙ ap (λ n. (f a ++ flat_map f (range_with_len (a + 1) j)) ++ flat_map f (range_with_len n m)) k

pub rows_fit : (i j n : ℕ) → i < j → i * n + n ≤ j * n
rows_fit i j n h =
    let up : i + 1 ≤ j = omega arith in
    let more : (i + 1) * n ≤ j * n = mul-le-mul_right n up in
    omega (arith, add-mul i 1 n)

pub row_here : {X : Type 0} (n a k : ℕ) (codes ys : List X) → a ≤ length codes → length ys ≡ n → take n (drop a (put_mid a k codes ys)) ≡ ys
row_here n a k codes ys l e =
    let w : n ≡ a + n - a = omega arith in
    ap (λ m. take m (drop a (put_mid a k codes ys))) w ∙ between-put_mid a k codes ys (a + n) l (omega arith)

pub part_length : {X : Type 0} (a n : ℕ) (xs : List X) → a + n ≤ length xs → length (take (a + n - a) (drop a xs)) ≡ n
part_length a n xs h = simp (length-take, length-drop) (omega arith)
