-- Reads of a slice, and what loops that write one element after another leave. Assumes nothing.
use Rattle.std.proofs.Common.{◌≡◌, ℕ, ◌+◌, ◌<◌, ◌≤◌, ◌≢◌, List, [], ◌∷◌, Option, Some, None, MatchOption, length, get_or, sym, refl, ap, ◌∙◌, arith}
use Rattle.std.specs.List.{AllWithin, HoldsAt}
use Rattle.std.proofs.lemmas.List.{get_or-map}
use Rattle.field.specs.FiniteField.{FiniteField}
use Rattle.field.specs.Rows.{Agree, at, row_at}
use Rattle.rows.specs.Arithmetic.{FirstNonzero}
use Rattle.rows.specs.Memory.{Frame, Written}
use Rattle.field.proofs.Rows.{at_kept}

-- the n elements from a on are now the very elements of src from b on, and every other is the very element it was
pub record Copied {X : Type 0} (a n : ℕ) (src : List X) (b : ℕ) (xs ys : List X) : Type 0 where
  pub done : (j : ℕ) (d : X) → j < n → get_or ys (a + j) d ≡ get_or src (b + j) d
  pub frame : Frame a n xs ys

module _ {X : Type 0} where
  -- nothing is changed
  pub frame_none : {a n : ℕ} {xs : List X} → Frame a n xs xs
  frame_none = record { len = refl; below = λ k d l. refl; above = λ k d l. refl }

  -- one change after another, both within the m elements from c on
  pub frame_then : {a n b k : ℕ} {xs ys zs : List X} (c m : ℕ) → Frame a n xs ys → Frame b k ys zs → c ≤ a → a + n ≤ c + m → c ≤ b → b + k ≤ c + m → Frame c m xs zs
  frame_then c m e f p q r s =
      record {
        len = f.len ∙ e.len;
        below = λ k d h. f.below k d (omega arith) ∙ e.below k d (omega arith);
        above = λ k d h. f.above k d (omega arith) ∙ e.above k d (omega arith);
      }

module _ {F V : Type 0} (K : FiniteField V) (v : F → V) where
  -- an element that stands in two lists has one value there
  pub at_copied : (xs ys : List F) (i j : ℕ) → i < length xs → j < length ys → ((d : F) → get_or ys j d ≡ get_or xs i d) → at K v ys j ≡ at K v xs i
  at_copied (x ∷ xs) ys i j l h e = get_or-map v ys j x K.zero h ∙ ap v (e x) ∙ sym (get_or-map v (x ∷ xs) i x K.zero l)
  at_copied [] ys i j l h e = absurd (omega arith)

  pub frame_below : {a n : ℕ} {xs ys : List F} → Frame a n xs ys → (k : ℕ) → k < a → at K v ys k ≡ at K v xs k
  frame_below {a} {n} {xs} {ys} e k l = at_kept K v xs ys k e.len (λ d. e.below k d l)

  pub frame_above : {a n : ℕ} {xs ys : List F} → Frame a n xs ys → (k : ℕ) → a + n ≤ k → at K v ys k ≡ at K v xs k
  frame_above {a} {n} {xs} {ys} e k l = at_kept K v xs ys k e.len (λ d. e.above k d l)

  -- a copy has the values of its source
  pub copied_written : {a n : ℕ} {src : List F} {b : ℕ} {xs ys : List F} → Copied a n src b xs ys → a + n ≤ length ys → b + n ≤ length src → Written K v a n (row_at K v src b) xs ys
  copied_written {a} {n} {src} {b} {xs} {ys} c l h = record { done = λ j p. at_copied src ys (b + j) (a + j) (omega arith) (omega arith) (λ d. c.done j d p); frame = c.frame }

  -- the first element whose value is not zero, by its index
  pub first_so : (xs : List F) (r : Option ℕ) (d : F) → MatchOption r (AllWithin (λ x. v x ≡ K.zero) xs 0 (length xs)) (λ i. (i < length xs) × HoldsAt (λ x. v x ≢ K.zero) xs i × AllWithin (λ x. v x ≡ K.zero) xs 0 i)
      → MatchOption r (Agree (length xs) (at K v xs) (λ _. K.zero)) (λ p. FirstNonzero K (length xs) (at K v xs) p)
  first_so xs None d a = λ i l. get_or-map v xs i d K.zero l ∙ a i d (omega arith) l
  first_so xs (Some p) d f = record {
    within = f.0;
    before = λ j l. get_or-map v xs j d K.zero (omega (arith, f.0)) ∙ f.2 j d (omega arith) l;
    apart = λ e. f.1 d (sym (get_or-map v xs p d K.zero f.0) ∙ e);
  }
