-- A text that was read and written again. Assumes nothing.
use Rattle.std.proofs.Common.{◌≡◌, ℕ, ◌<◌, ◌≤◌, List, ◌++◌, length, take, drop, sym, ap, ap₂, ◌∙◌, subst, subst₂, take-append-drop}
use Rattle.field.specs.FiniteField.{FiniteField}
use Rattle.series.specs.Tables.{Table}
use Rattle.rows.specs.Layout.{table_at}
use Rattle.rows.specs.Seen.{table_of}
use Rattle.rows.specs.declared.table.Shape.{Shape}
use Rattle.rows.specs.declared.table.TableRef.{TableRef}
use Rattle.text.specs.Texts.{text_of, text_size}
use Rattle.text.specs.Readings.{Accepts}
use Rattle.text.proofs.Told.{length_is}
use Rattle.bench_c.specs.Rewriting.{Rewrites, no_room, rewritten}

module _ {V : Type 0} (K : FiniteField V) {F : Type 0} (value : F → V) (text out : List ℕ) (shape : Shape) (work : List F) (a : Accepts K value text shape work) where
  -- the table that was read
  abbrev T : Table V
  T = table_at K value work 0 shape.states shape.letters

  size : length text ≡ text_size shape.states shape.letters
  size = ap length a.is ∙ length_is K T a.sized

  pub short : length out < text_size shape.states shape.letters → Rewrites K text out 0 out
  short h = no_room T a.sized a.is (subst (λ n. length out < n) (sym size) h)

  pub written : (t : TableRef F) → t.shape ≡ shape → (t.memory.now ≡ work) × (t.base ≡ 0) → text_size shape.states shape.letters ≤ length out
      → (r : ℕ) (out' : List ℕ) → r ≡ text_size t.shape.states t.shape.letters → take r out' ≡ text_of K (table_of K value t) → drop r out' ≡ drop r out → Rewrites K text out r out'
  written t e (m, b) room r out' counted taken later =
      let same : table_of K value t ≡ T = ap₂ (λ u i. table_at K value u i t.shape.states t.shape.letters) m b ∙ ap (λ y. table_at K value work 0 y.states y.letters) e in
      let long : r ≡ length text = counted ∙ ap (λ z. text_size z.states z.letters) e ∙ sym size in
      let front : out' ≡ text ++ drop (length text) out = sym (take-append-drop r out') ∙ ap₂ (λ xs ys. xs ++ ys) (taken ∙ ap (text_of K) same ∙ sym a.is) (later ∙ ap (λ n. drop n out) long) in
      subst₂ (λ n o. Rewrites K text out n o) (sym long) (sym front) (rewritten T a.sized a.is (subst (λ n. n ≤ length out) (sym size) room))
