-- What the calls of packing did, put together. Assumes nothing.
use Rattle.std.proofs.Common.{◌≡◌, ℕ, ◌≤◌, ◌≢◌, List, map, length, replicate, Err, Result, sym, refl, ap, ◌∙◌, subst, inl, inr, arith, IfErr, Ok}
use Rattle.field.specs.FiniteField.{FiniteField}
use Rattle.series.specs.Words.{Word, Over}
use Rattle.series.specs.Tables.{Table, weight, SameTable}
use Rattle.series.specs.Reducing.{Reduced}
use Rattle.series.proofs.Weights.{same_weight}
use Rattle.series.proofs.ReducedForms.{reduced_weight, reduced_alike}
use Rattle.rows.specs.Layout.{table_at}
use Rattle.rows.specs.Tables.{TableWritten}
use Rattle.rows.proofs.Memory.{frame_below}
use Rattle.text.specs.Texts.{Limits, text_of, text_size}
use Rattle.text.proofs.Told.{length_is}
use Rattle.book.specs.Shelves.{Entry, empty, filled, at_place, states_of, letters_of, table}
use Rattle.book.specs.Calls.{load, reduce, compare, write}
use Rattle.book.specs.Doing.{Makes, Does}
use Rattle.book.specs.Refusing.{Refuses}
use Rattle.book.specs.Verdicts.{Says, SaysAlike}
use Rattle.book.specs.declared.refusal.Refusal.{Refusal}
use Rattle.book.specs.declared.refusal.Refusal.TheVariants.{MemoryShort, WorkShort, OutputShort}
use Rattle.book.specs.declared.verdict.Verdict.{Verdict}
use Rattle.book.specs.declared.outcome.Answer.{Answer}
use Rattle.book.specs.declared.outcome.Answer.TheVariants.{Done, Code, Told, Count}
use Rattle.book.proofs.Places.{at_same, at_other, length_with}
use Rattle.text.proofs.Limits.{block_fits}
use Rattle.book.proofs.Blocks.{same_sym, same_trans, same_by_values}
use Rattle.shelf.specs.Views.{shelf_of, state}
use Rattle.packing.specs.Packing.{PackedForm, InShelf, Packs, Fails}
use Rattle.packing.specs.declared.error.PackError.TheVariants.{OutputShort as no_room}
use Rattle.packing.proofs.Forms.{packed_sized}
use Rattle.text.proofs.SameTexts.{text_same}
use Rattle.packing.proofs.Same.{reduced_table}
use Rattle.packing.proofs.Failures.{first, second, memory_enough, work_enough, room_enough, never_reduce, never_compare, write_fails}

abbrev count_in : Answer → ℕ
count_in Done = 0
count_in (Code c) = 0
count_in (Told v) = 0
count_in (Count n) = n

-- an error that came through `?`
pub failed : {X E : Type 0} (Q : E → Type 0) (r : Result X E) {e : E} → (y : E) × (r ≡ Err y) × (y ≡ e) → Q e → IfErr r Q
failed Q r (y, p, q) h = subst (λ z. IfErr z Q) (sym p) (subst Q (sym q) h)

abbrev Full : Entry → Type 0
Full empty = ⊥
Full (filled n k) = Unit {0}

not_empty : (e : Entry) (n k : ℕ) → e ≡ filled n k → e ≢ empty
not_empty e n k a b = subst Full (sym a ∙ b) tt

module _ {V : Type 0} (K : FiniteField V) {F : Type 0} (value : F → V) (text : List ℕ) (es es₁ : List Entry) (mem mem₁ : List F) (w w₁ : ℕ) (out : List ℕ) (v : Verdict)
    (opened : es ≡ replicate 8 empty) (loaded : Does K value (state es mem w out v) (load text 1) (Ok Done) (state es₁ mem₁ w₁ out v)) where
  -- the table of the text
  abbrev T₀ : Table V
  T₀ = loaded.1.1.0

  abbrev making : Makes K value (state es mem w out v) 1 T₀ (state es₁ mem₁ w₁ out v)
  making = loaded.1.1.3

  sized : Limits T₀.states T₀.letters
  sized = loaded.1.1.1

  memory : 12544 ≤ length mem
  memory = memory_enough K (state es mem w out v) text (loaded.0 MemoryShort)

  working : 8192 ≤ w
  working = work_enough K (state es mem w out v) text (loaded.0 WorkShort)

  memory₁ : 12544 ≤ length mem₁
  memory₁ = omega (arith, memory, making.numbers.frame.len)

  working₁ : 8192 ≤ w₁
  working₁ = subst (λ n. 8192 ≤ n) (sym (ap (λ l. l.work) making.lent)) working

  eight : length es ≡ 8
  eight = ap length opened

  eight₁ : length es₁ ≡ 8
  eight₁ = ap length making.entries ∙ length_with es 1 (filled T₀.states T₀.letters) ∙ eight

  entry_1 : at_place empty es₁ 1 ≡ filled T₀.states T₀.letters
  entry_1 = ap (λ z. at_place empty z 1) making.entries ∙ at_same empty es 1 (filled T₀.states T₀.letters) first eight

  loaded_same : SameTable (table K value (shelf_of es₁ mem₁) 1) T₀
  loaded_same = subst (λ e. SameTable (table_at K value mem₁ 0 (states_of e) (letters_of e)) T₀) (sym entry_1) making.numbers.same

  -- what was loaded can be reduced
  pub reduces_then : (r : Refusal) → Refuses K (state es₁ mem₁ w₁ out v) (reduce 1 2) r → ⊥
  reduces_then r h = never_reduce K (state es₁ mem₁ w₁ out v) memory₁ working₁ (not_empty (at_place empty es₁ 1) T₀.states T₀.letters entry_1) r h.meets

  module _ (es₂ : List Entry) (mem₂ : List F) (w₂ : ℕ) (reduces : Does K value (state es₁ mem₁ w₁ out v) (reduce 1 2) (Ok Done) (state es₂ mem₂ w₂ out v)) where
    -- the table that reduce made
    abbrev R₀ : Table V
    R₀ = reduces.1.1.0

    abbrev reducing : Makes K value (state es₁ mem₁ w₁ out v) 2 R₀ (state es₂ mem₂ w₂ out v)
    reducing = reduces.1.1.2

    -- the two tables where they lie in the end
    abbrev T : Table V
    T = table K value (shelf_of es₂ mem₂) 1

    abbrev R : Table V
    R = table K value (shelf_of es₂ mem₂) 2

    entry_1_still : at_place empty es₂ 1 ≡ filled T₀.states T₀.letters
    entry_1_still = ap (λ z. at_place empty z 1) reducing.entries ∙ at_other empty es₁ 2 1 (filled R₀.states R₀.letters) (λ e. absurd (omega arith)) ∙ entry_1

    entry_2 : at_place empty es₂ 2 ≡ filled R₀.states R₀.letters
    entry_2 = ap (λ z. at_place empty z 2) reducing.entries ∙ at_same empty es₁ 2 (filled R₀.states R₀.letters) second eight₁

    -- reducing leaves the table of the text in place
    stays : SameTable (table_at K value mem₂ 0 T₀.states T₀.letters) (table_at K value mem₁ 0 T₀.states T₀.letters)
    stays = same_by_values K value mem₂ mem₁ 0 T₀.states T₀.letters (λ i low high. frame_below K value reducing.numbers.frame i (omega (arith, block_fits T₀.states T₀.letters sized)))

    TSame : SameTable T T₀
    TSame = subst (λ e. SameTable (table_at K value mem₂ 0 (states_of e) (letters_of e)) T₀) (sym entry_1_still)
        (same_trans (table_at K value mem₂ 0 T₀.states T₀.letters) (table_at K value mem₁ 0 T₀.states T₀.letters) T₀ stays making.numbers.same)

    RSame : SameTable R R₀
    RSame = subst (λ e. SameTable (table_at K value mem₂ 1568 (states_of e) (letters_of e)) R₀) (sym entry_2) reducing.numbers.same

    -- the table that was loaded and the one that lies there in the end weigh every word alike
    TWeighs : (u : Word) → Over (letters_of (at_place empty es₁ 1)) u → weight K (table K value (shelf_of es₁ mem₁) 1) u ≡ weight K T u
    TWeighs u o = same_weight K (table K value (shelf_of es₁ mem₁) 1) T (same_trans (table K value (shelf_of es₁ mem₁) 1) T₀ T loaded_same (same_sym T T₀ TSame)) u o

    TReduced : Reduced K T.letters (weight K T) R
    TReduced = reduced_table K T.letters (weight K T) R₀ R (same_sym R R₀ RSame)
        (subst (λ k. Reduced K k (weight K T) R₀) (ap letters_of (entry_1 ∙ sym entry_1_still)) (reduced_alike K (letters_of (at_place empty es₁ 1)) (weight K (table K value (shelf_of es₁ mem₁) 1)) (weight K T) R₀ TWeighs reduces.1.1.1))

    abbrev form : PackedForm K text
    form = record {
      table = T;
      sized = subst (λ e. Limits (states_of e) (letters_of e)) (sym entry_1_still) sized;
      is = loaded.1.1.2 ∙ text_same K T₀ T (same_sym T T₀ TSame);
      packed = R;
      reduced = TReduced;
    }

    in_shelf : InShelf K value T R mem mem₂
    in_shelf = record {
      between = mem₁;
      table_written = subst (λ e. TableWritten K value 0 (table_at K value mem₂ 0 (states_of e) (letters_of e)) mem mem₁) (sym entry_1_still)
          (record { same = same_sym (table_at K value mem₂ 0 T₀.states T₀.letters) (table_at K value mem₁ 0 T₀.states T₀.letters) stays; frame = making.numbers.frame });
      packed_written = subst (λ e. TableWritten K value 1568 (table_at K value mem₂ 1568 (states_of e) (letters_of e)) mem₁ mem₂) (sym entry_2)
          (record { same = same_by_values K value mem₂ mem₂ 1568 R₀.states R₀.letters (λ i low high. refl); frame = reducing.numbers.frame });
    }

    -- the length of the packed text
    size : length (text_of K R) ≡ text_size R.states R.letters
    size = length_is K R (packed_sized K text form)

    memory₂ : 12544 ≤ length mem₂
    memory₂ = omega (arith, memory₁, reducing.numbers.frame.len)

    full_2 : at_place empty es₂ 2 ≢ empty
    full_2 = not_empty (at_place empty es₂ 2) R₀.states R₀.letters entry_2

    -- what was reduced can be compared
    pub compares_then : (r : Refusal) → Refuses K (state es₂ mem₂ w₂ out v) (compare 1 2) r → ⊥
    compares_then r h = never_compare K (state es₂ mem₂ w₂ out v) memory₂ (subst (λ n. 8192 ≤ n) (sym (ap (λ l. l.work) reducing.lent)) working₁)
        (not_empty (at_place empty es₂ 1) T₀.states T₀.letters entry_1_still) full_2 (sym TReduced.letters) r h.meets

    -- and is written, unless there is no room for it
    pub writes_then : (w₃ : ℕ) (v' : Verdict) (r : Refusal) → Refuses K (state es₂ mem₂ w₃ out v') (write 2) r → Fails K value text w (length out) mem mem₂ no_room
    writes_then w₃ v' r h = write_fails K (state es₂ mem₂ w₃ out v') memory₂ value text w mem mem₂ form in_shelf memory working size full_2 r h.meets

    alike : (u : Word) → Over T.letters u → weight K T u ≡ weight K R u
    alike u o = sym (reduced_weight K T.letters (weight K T) R TReduced u o)

    says_alike : (d : Verdict) → Says K T R d → SaysAlike K T R d
    says_alike d (inl s) = s
    says_alike d (inr s) = absurd (s.least.differs (alike s.word s.least.over))

    module _ (w₃ : ℕ) (v' : Verdict) (compares : Does K value (state es₂ mem₂ w₂ out v) (compare 1 2) (Ok (Told v')) (state es₂ mem₂ w₃ out v')) (n : ℕ) (out' : List ℕ)
        (writes : Does K value (state es₂ mem₂ w₃ out v') (write 2) (Ok (Count n)) (state es₂ mem₂ w₃ out' v')) where
      pub packs : (before after : ℕ) → before ≡ states_of (at_place empty es₂ 1) → after ≡ states_of (at_place empty es₂ 2) → Packs K value text w mem mem₂ out out' (record { before = before; after = after; bytes = n; verdict = v' })
      packs before after b a = record {
        memory_enough = memory;
        work_enough = working;
        form = form;
        in_shelf = in_shelf;
        room = omega (arith, size, room_enough K (state es₂ mem₂ w₃ out v') (writes.0 OutputShort));
        written = ap (λ l. l.output) writes.1.1.lent;
        counted = ap count_in writes.1.0;
        before = b;
        after = a;
        says = subst (SaysAlike K T R) (sym (ap (λ l. l.verdict) compares.1.3.lent)) (says_alike compares.1.0 compares.1.1);
      }
