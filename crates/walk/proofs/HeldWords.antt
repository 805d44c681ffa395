-- What work memory holds of the kept words. Assumes nothing.
use Rattle.std.proofs.Common.{◌≡◌, ℕ, suc, ◌+◌, ◌*◌, ◌<◌, ◌≤◌, List, [], get_or, sym, refl, ap, ◌∙◌, subst, arith}
use native.Mathlib.Decide.{ℕ_discrete}
use Rattle.field.specs.FiniteField.{FiniteField}
use Rattle.series.specs.Comparing.{Kept}
use Rattle.field.specs.Rows.{Agree, at, row_at, square_at}
use Rattle.series.specs.Tables.{Table, weight, pair}
use Rattle.series.specs.WalkProgress.{Scanned}
use Rattle.series.specs.Words.{Word, Over}
use Rattle.series.proofs.Bases.{basis_none, basis_fresh, basis_not_fresh}
use Rattle.series.proofs.Echelons.{echelon_few}
use Rattle.series.proofs.Places.{range, range_has, range_are}
use Rattle.rows.specs.Memory.{Frame}
use Rattle.rows.proofs.Memory.{frame_below}
use Rattle.elimination.specs.Elimination.{NothingLeft, NewRow}
use Rattle.walk.specs.Walking.{Held}
use Rattle.elimination.proofs.Bases.{basis_same, basis_grow}
use Rattle.elimination.proofs.Offsets.{entry_before}
use Rattle.elimination.proofs.Remainders.{new_same, new_one}
use Rattle.elimination.proofs.Updates.{updated, updated_here, updated_other}

module _ {F V : Type 0} (K : FiniteField V) (v : F → V) (S T : Table V) where
  abbrev d : ℕ
  d = S.states + T.states

  abbrev R : Word → ℕ → V
  R = pair K S T

  pub held_none : (rs es : List F) (ps : List ℕ) → Held K v S T 0 (λ i. []) rs es ps
  held_none rs es ps =
      record {
        rows = λ i l. absurd (omega arith);
        basis = basis_none K (λ i. i < d) R (λ i. []) (square_at K v es 0 d) (λ b. get_or ps b 0);
        ones = λ i l. absurd (omega arith);
        alike = λ i l. absurd (omega arith);
      }

  pub held_few : (count : ℕ) (words : ℕ → Word) (rs es : List F) (ps : List ℕ) → Held K v S T count words rs es ps → count ≤ d
  held_few count words rs es ps h = echelon_few K d count (square_at K v es 0 d) (λ b. get_or ps b 0) h.basis.stairs

  -- a row is written behind the pair rows, and another behind the rows in echelon form
  module _ (count : ℕ) (words : ℕ → Word) (rs rs' es es' : List F) (ps : List ℕ) (same : (j : ℕ) → j < count * d → at K v rs' j ≡ at K v rs j) (f : Frame (count * d) d es es') (h : Held K v S T count words rs es ps) where
    high : (j : ℕ) → j < count * d → at K v es' (0 + j) ≡ at K v es (0 + j)
    high j l = frame_below K v f (0 + j) (omega arith)

    pub held_same : Held K v S T count words rs' es' ps
    held_same =
        record {
          rows = λ i l j b. same (i * d + j) (entry_before i d j count l b) ∙ h.rows i l j b;
          basis = basis_same K d count R words (square_at K v es 0 d) (square_at K v es' 0 d) (λ b. get_or ps b 0) (λ b l j g. high (b * d + j) (entry_before b d j count l g)) h.basis;
          ones = λ b l. high (b * d + get_or ps b 0) (entry_before b d (get_or ps b 0) count l (h.basis.stairs.within b l)) ∙ h.ones b l;
          alike = h.alike;
        }

    -- one word more, whose pair row lies behind those of the others
    pub held_grow : (ps' : List ℕ) (x : Word) (b : ℕ) → Agree d (row_at K v rs' (count * d)) (R x)
        → NewRow K d count (square_at K v es 0 d) (λ b. get_or ps b 0) (R x) b (row_at K v es' (count * d))
        → ((i : ℕ) → i < count → get_or ps' i 0 ≡ get_or ps i 0) → get_or ps' count 0 ≡ b
        → weight K S x ≡ weight K T x
        → Held K v S T (suc count) (updated count words x) rs' es' ps'
    held_grow ps' x b new w olds here alike =
        record {
          rows = λ i l j g. rows i j g (ℕ_discrete i count) l;
          basis = basis_grow K d count R words (square_at K v es 0 d) (square_at K v es' 0 d) (λ b. get_or ps b 0) (λ b. get_or ps' b 0) x b h.basis w' (λ b l j g. high (b * d + j) (entry_before b d j count l g)) olds here;
          ones = λ i l. ones i (ℕ_discrete i count) l;
          alike = λ i l. alikes i (ℕ_discrete i count) l;
        }
      where
        w' : NewRow K d count (square_at K v es 0 d) (λ b. get_or ps b 0) (R x) b (square_at K v es' 0 d count)
        w' = new_same K d count (square_at K v es 0 d) (λ b. get_or ps b 0) (R x) (R x) b (row_at K v es' (count * d)) (square_at K v es' 0 d count) (λ j l. refl) (λ j l. ap (at K v es') (omega arith)) w

        rows : (i j : ℕ) → j < d → Dec (i ≡ count) → i < suc count → row_at K v rs' (i * d) j ≡ R (updated count words x i) j
        rows i j g (yes e) l = ap (λ m. at K v rs' (m * d + j)) e ∙ new j g ∙ sym (ap (λ u. R u j) (ap (updated count words x) e ∙ updated_here count words x))
        rows i j g (no u) l =
            let before = entry_before i d j count (omega arith) g in
            same (i * d + j) before ∙ h.rows i (omega arith) j g ∙ sym (ap (λ u. R u j) (updated_other count words x i u))

        ones : (i : ℕ) → Dec (i ≡ count) → i < suc count → square_at K v es' 0 d i (get_or ps' i 0) ≡ K.one
        ones i (yes e) l = ap (λ m. square_at K v es' 0 d m (get_or ps' m 0)) e ∙ ap (square_at K v es' 0 d count) here ∙ new_one K d count (square_at K v es 0 d) (λ b. get_or ps b 0) (R x) b (square_at K v es' 0 d count) w'
        ones i (no u) l =
            let old : i < count = omega arith in
            ap (square_at K v es' 0 d i) (olds i old) ∙ high (i * d + get_or ps i 0) (entry_before i d (get_or ps i 0) count old (h.basis.stairs.within i old)) ∙ h.ones i old

        alikes : (i : ℕ) → Dec (i ≡ count) → i < suc count → weight K S (updated count words x i) ≡ weight K T (updated count words x i)
        alikes i (yes e) l = let q : updated count words x i ≡ x = ap (updated count words x) e ∙ updated_here count words x in subst (λ u. weight K S u ≡ weight K T u) (sym q) alike
        alikes i (no u) l = subst (λ u. weight K S u ≡ weight K T u) (sym (updated_other count words x i u)) (h.alike i (omega arith))

  -- whether the word x, to which the walk has come, is kept shows in what is left of its pair row
  module _ (count : ℕ) (words : ℕ → Word) (rs es : List F) (ps : List ℕ) (x : Word) (h : Held K v S T count words rs es ps) (s : Scanned (Kept K S T) count words x) where
    pub held_kept : (b : ℕ) (z : ℕ → V) → Over S.letters x → NewRow K d count (square_at K v es 0 d) (λ b. get_or ps b 0) (R x) b z → Kept K S T x
    held_kept b z o w = basis_fresh K (λ i. i < d) R S.letters count words (square_at K v es 0 d) (λ b. get_or ps b 0) x s h.basis w.rest w.remainder.taken (range d) (range_has d) (range_are d) o w.remainder.cleared b w.within w.apart

    pub held_not_kept : NothingLeft K d count (square_at K v es 0 d) (λ b. get_or ps b 0) (R x) → ¬ (Kept K S T x)
    held_not_kept w = basis_not_fresh K (λ i. i < d) R S.letters count words (square_at K v es 0 d) (λ b. get_or ps b 0) x s h.basis (λ _. K.zero) w.taken (λ q l. refl)
