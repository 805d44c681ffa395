-- The shelf stands as the book says, and goes on to. Assumes nothing.
use Rattle.std.proofs.Common.{◌≡◌, ℕ, ◌+◌, ◌<◌, ◌≤◌, ◌≢◌, ◌⊎◌, List, length, sym, refl, ap, ◌∙◌, subst, subst₂, inl, inr, arith}
use native.Mathlib.Decide.{ℕ_discrete}
use Rattle.field.specs.FiniteField.{FiniteField}
use Rattle.series.specs.Words.{Word}
use Rattle.series.specs.Tables.{Table}
use Rattle.series.proofs.Weights.{same_weight}
use Rattle.field.specs.Rows.{at}
use Rattle.rows.specs.Memory.{Frame}
use Rattle.rows.specs.Layout.{table_size, table_at}
use Rattle.rows.specs.Tables.{Weighs}
use Rattle.rows.proofs.Memory.{frame_below, frame_above}
use Rattle.text.specs.Texts.{Limits}
use Rattle.book.specs.Shelves.{Entry, empty, filled, Shelf, State, Place, at_place, with_place, entry, states_of, letters_of, begins, table}
use Rattle.book.specs.Doing.{Makes}
use Rattle.book.specs.Using.{Page, blank, holds, letters_on, weights_on, page}
use Rattle.book.proofs.Places.{place?, at_outside, at_same, at_other, length_with, apart}
use Rattle.text.proofs.Limits.{block_fits}
use Rattle.book.proofs.Blocks.{same_by_values}

module _ {V : Type 0} (K : FiniteField V) {F : Type 0} (value : F → V) where
  -- what lies at a place, and the page of it
  abbrev pub Good : List F → ℕ → Entry → Page V → Type 0
  Good memory b empty blank = Unit {0}
  Good memory b empty (holds j f) = ⊥
  Good memory b (filled n k) blank = ⊥
  Good memory b (filled n k) (holds j f) = Limits n k × (k ≡ j) × Weighs K (table_at K value memory b n k) f

  pub record Stands (s : Shelf F) (B : List (Page V)) : Type 0 where
    pub entries : length s.entries ≡ 8
    pub pages : length B ≡ 8
    pub good : (p : ℕ) → Place p → Good s.memory (begins p) (entry s p) (page K B p)

  -- also outside 1 to 8, where nothing lies and nothing is entered
  pub anywhere : (s : Shelf F) (B : List (Page V)) → Stands s B → (p : ℕ) → Good s.memory (begins p) (entry s p) (page K B p)
  anywhere s B i p = go (place? p)
    where
      go : Dec (Place p) → Good s.memory (begins p) (entry s p) (page K B p)
      go (yes l) = i.good p l
      go (no u) = subst₂ (λ e g. Good s.memory (begins p) e g) (sym (at_outside empty s.entries p u i.entries)) (sym (at_outside blank B p u i.pages)) tt

  -- a table that is read
  pub record Source (s : Shelf F) (B : List (Page V)) (p : ℕ) : Type 0 where
    pub limits : Limits (states_of (entry s p)) (letters_of (entry s p))
    pub letters : letters_of (entry s p) ≡ letters_on K (page K B p)
    pub weighs : Weighs K (table K value s p) (weights_on K (page K B p))

  pub source : (s : Shelf F) (B : List (Page V)) (p : ℕ) → Stands s B → Place p → entry s p ≢ empty → Source s B p
  source s B p i l u = go (entry s p) (page K B p) refl refl u (i.good p l)
    where
      go : (e : Entry) (g : Page V) → entry s p ≡ e → page K B p ≡ g → e ≢ empty → Good s.memory (begins p) e g → Source s B p
      go empty g d c u h = absurd (u refl)
      go (filled n k) blank d c u h = absurd h
      go (filled n k) (holds j f) d c u h = record {
        limits = subst (λ e. Limits (states_of e) (letters_of e)) (sym d) h.0;
        letters = subst₂ (λ e g. letters_of e ≡ letters_on K g) (sym d) (sym c) h.1;
        weighs = subst₂ (λ e g. Weighs K (table_at K value s.memory (begins p) (states_of e) (letters_of e)) (weights_on K g)) (sym d) (sym c) h.2;
      }

  -- a place whose elements keep their values
  good_same : (xs ys : List F) (b : ℕ) (e : Entry) (g : Page V) → ((i : ℕ) → b ≤ i → i < b + 1568 → at K value ys i ≡ at K value xs i) → Good xs b e g → Good ys b e g
  good_same xs ys b empty blank h g = g
  good_same xs ys b empty (holds j f) h g = g
  good_same xs ys b (filled n k) blank h g = g
  good_same xs ys b (filled n k) (holds j f) h g = (g.0, g.1, λ w o. same_weight K (table_at K value ys b n k) (table_at K value xs b n k) (same_by_values K value ys xs b n k (λ i low high. h i low (omega (arith, block_fits n k g.0)))) w o ∙ g.2 w o)

  -- elements of a place other than the one that is written keep their values
  pub others_same : (xs ys : List F) (p to n k : ℕ) → Place p → Place to → to ≢ p → Limits n k → Frame (begins to) (table_size n k) xs ys → (i : ℕ) → begins p ≤ i → i < begins p + 1568 → at K value ys i ≡ at K value xs i
  others_same xs ys p to n k l m u lim frame i low high = go (apart p to i (table_size n k) l m u (block_fits n k lim) low high)
    where
      go : (i < begins to) ⊎ (begins to + table_size n k ≤ i) → at K value ys i ≡ at K value xs i
      go (inl h) = frame_below K value frame i h
      go (inr h) = frame_above K value frame i h

  -- one entry and one page are changed; at its place what is there is good, and elsewhere the elements keep their values
  changed : (s t : Shelf F) (B : List (Page V)) (to : ℕ) (e : Entry) (g : Page V) → Stands s B → Place to → t.entries ≡ with_place s.entries to e
      → Good t.memory (begins to) e g → ((p : ℕ) → Place p → to ≢ p → (i : ℕ) → begins p ≤ i → i < begins p + 1568 → at K value t.memory i ≡ at K value s.memory i) → Stands t (with_place B to g)
  changed s t B to e g i l es new old = record {
    entries = ap length es ∙ length_with s.entries to e ∙ i.entries;
    pages = length_with B to g ∙ i.pages;
    good = λ p h. go p h (ℕ_discrete p to);
  }
    where
      go : (p : ℕ) → Place p → Dec (p ≡ to) → Good t.memory (begins p) (entry t p) (page K (with_place B to g) p)
      go p h (yes d) = subst (λ z. Good t.memory (begins z) (entry t z) (page K (with_place B to g) z)) (sym d)
          (subst₂ (λ a b. Good t.memory (begins to) a b) (sym (ap (λ z. at_place empty z to) es ∙ at_same empty s.entries to e l i.entries)) (sym (at_same blank B to g l i.pages)) new)
      go p h (no u) = subst₂ (λ a b. Good t.memory (begins p) a b) (sym (ap (λ z. at_place empty z p) es ∙ at_other empty s.entries to p e u)) (sym (at_other blank B to p g u))
          (good_same s.memory t.memory (begins p) (entry s p) (page K B p) (old p h (λ d. u (sym d))) (i.good p h))

  -- a table is written, and its weights are entered
  pub made : (s t : State F) (B : List (Page V)) (to : ℕ) (R : Table V) (j : ℕ) (f : Word → V) → Stands s.shelf B → Place to → Limits R.states R.letters → R.letters ≡ j → Weighs K R f → Makes K value s to R t → Stands t.shelf (with_place B to (holds j f))
  made s t B to R j f i l lim same weighs x = changed s.shelf t.shelf B to (filled R.states R.letters) (holds j f) i l x.entries
      (lim, same, λ w o. same_weight K (table_at K value t.shelf.memory (begins to) R.states R.letters) R x.numbers.same w o ∙ weighs w o)
      (λ p h u. others_same s.shelf.memory t.shelf.memory p to R.states R.letters h l u lim x.numbers.frame)

  -- a place is cleared, and its page is blanked
  pub cleared : (s t : Shelf F) (B : List (Page V)) (p : ℕ) → Stands s B → Place p → t.entries ≡ with_place s.entries p empty → t.memory ≡ s.memory → Stands t (with_place B p blank)
  cleared s t B p i l e m = changed s t B p empty blank i l e tt (λ q h u k low high. ap (λ z. at K value z k) m)
