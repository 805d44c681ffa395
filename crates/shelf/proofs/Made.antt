-- A table that is built in work memory and copied to its place. Assumes nothing.
use Rattle.std.proofs.Common.{◌≡◌, ℕ, List, length, Result, sym, refl, ap, ap₂, ◌∙◌, subst, subst₂}
use Rattle.std.specs.Result.{IsErrAnd}
use Rattle.std.proofs.lemmas.Result.{err_from_is_err_and}
use Rattle.field.specs.FiniteField.{FiniteField}
use Rattle.series.specs.Tables.{Table, SameTable}
use Rattle.rows.specs.Layout.{table_at}
use Rattle.rows.specs.Seen.{table_of, HoldsTable}
use Rattle.rows.specs.declared.table.Shape.{Shape}
use Rattle.rows.specs.declared.table.TableRef.{TableRef}
use Rattle.book.specs.Shelves.{Entry, Lent, State, begins, states_of, letters_of, table}
use Rattle.book.specs.Calls.{Call}
use Rattle.book.specs.Refusing.{Refuses}
use Rattle.book.specs.Doing.{Makes, Does}
use Rattle.book.specs.Using.{lending}
use Rattle.book.specs.declared.refusal.Refusal.{Refusal}
use Rattle.book.specs.declared.verdict.Verdict.{Verdict}
use Rattle.book.specs.declared.outcome.Answer.{Answer}
use Rattle.shelf.specs.Views.{shelf_of, state, outcome_by}
use Rattle.shelf.specs.Checking.{Found}

same_refl : {V : Type 0} (R : Table V) → SameTable R R
same_refl R = record { states = refl; letters = refl; start = λ i l. refl; step = λ a low high i l j h. refl; end = λ i l. refl }

module _ {V : Type 0} (K : FiniteField V) {F : Type 0} (v : F → V) where
  -- the table that is found at a place is the one that the shelf has there
  pub table_found : (es : List Entry) (mem : List F) (p : ℕ) (t : TableRef F) → Found es mem p t → table_of K v t ≡ table K v (shelf_of es mem) p
  table_found es mem p t f = ap₂ (λ m b. table_at K v m b t.shape.states t.shape.letters) f.in_memory f.begins_there ∙ ap (λ e. table_at K v mem (begins p) (states_of e) (letters_of e)) (sym f.told)

  -- a table seen at the front of a slice
  table_in_front : (t : TableRef F) (xs : List F) (z : Shape) → t.shape ≡ z → (t.memory.now ≡ xs) × (t.base ≡ 0) → table_of K v t ≡ table_at K v xs 0 z.states z.letters
  table_in_front t xs z e (m, b) = ap₂ (λ u i. table_at K v u i t.shape.states t.shape.letters) m b ∙ ap (λ y. table_at K v xs 0 y.states y.letters) e

  -- the same by values, with other expressions for the numbers of states and letters
  pub seen_front : (t : TableRef F) (xs : List F) (z : Shape) (n k : ℕ) → t.shape ≡ z → (t.memory.now ≡ xs) × (t.base ≡ 0) → z.states ≡ n → z.letters ≡ k → SameTable (table_of K v t) (table_at K v xs 0 n k)
  seen_front t xs z n k e front a b = subst (λ S. SameTable S (table_at K v xs 0 n k)) (sym (table_in_front t xs z e front ∙ ap₂ (λ i j. table_at K v xs 0 i j) a b)) (same_refl (table_at K v xs 0 n k))

  -- a table that a slice holds, seen there
  seen_held : (t : TableRef F) (xs : List F) (z : Shape) (T : Table V) → t.shape ≡ z → (t.memory.now ≡ xs) × (t.base ≡ 0) → z.states ≡ T.states → z.letters ≡ T.letters → HoldsTable K v T xs → SameTable (table_of K v t) T
  seen_held t xs z T e front n k h = subst (λ S. SameTable S T) (sym (table_in_front t xs z e front ∙ ap₂ (λ i j. table_at K v xs 0 i j) n k)) h.same

  -- built in work memory, copied, and its shape written into the entry: made
  pub made : (es es' : List Entry) (mem mem' work work' : List F) (to : ℕ) (M R R' : Table V) → SameTable M R → R ≡ R' → {at : ℕ} → at ≡ to
      → ((l : Lent) (T : Table V) → SameTable M T → Makes K v (lending (shelf_of es mem) l) at T (lending (shelf_of es' mem') l))
      → length work' ≡ length work → (out : List ℕ) (verdict : Verdict) → Makes K v (state es mem (length work) out verdict) to R' (state es' mem' (length work') out verdict)
  made es es' mem mem' work work' to M R R' same e there kept l out verdict =
      subst₂ (λ w T. Makes K v (state es mem (length work) out verdict) to T (state es' mem' w out verdict)) (sym l) e
      (let lent : Lent = record { work = length work; output = out; verdict = verdict } in subst (λ p. Makes K v (lending (shelf_of es mem) lent) p R (lending (shelf_of es' mem') lent)) there (kept lent R same))

  -- the same of a table that a slice holds and that is seen there
  pub made_held : (es es' : List Entry) (mem mem' work : List F) (work' : List F) (to : ℕ) (t : TableRef F) (xs : List F) (z : Shape) (R R' : Table V) → t.shape ≡ z → (t.memory.now ≡ xs) × (t.base ≡ 0) → z.states ≡ R.states → z.letters ≡ R.letters → HoldsTable K v R xs → R ≡ R' → {at : ℕ} → at ≡ to
      → ((l : Lent) (T : Table V) → SameTable (table_of K v t) T → Makes K v (lending (shelf_of es mem) l) at T (lending (shelf_of es' mem') l))
      → length work' ≡ length work → (out : List ℕ) (verdict : Verdict) → Makes K v (state es mem (length work) out verdict) to R' (state es' mem' (length work') out verdict)
  made_held es es' mem mem' work work' to t xs z R R' shape front n k held e there kept l out verdict =
      made es es' mem mem' work work' to (table_of K v t) R R' (seen_held t xs z R shape front n k held) e there kept l out verdict

  -- a refusal that came through `?`
  pub refused : (s t : State F) (c : Call) {T : Type 0} (tells : T → Answer) (r : Result T Refusal) {e : Refusal} → IsErrAnd r (λ y. y ≡ e) → Refuses K s c e → t ≡ s → Does K v s c (outcome_by tells r) t
  refused s t c tells r h d same = let p = err_from_is_err_and r h in subst (λ z. Does K v s c (outcome_by tells z) t) (sym p.1) (subst (Refuses K s c) (sym p.2) d, same)
