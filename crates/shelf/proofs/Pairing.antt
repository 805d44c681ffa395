-- The checks of a call that reads two tables. Assumes nothing.
use Rattle.std.proofs.Common.{◌≡◌, ℕ, ◌<◌, ◌≤◌, ◌≢◌, ◌⊎◌, [], ◌∷◌, length, refl, inl, inr, arith}
use Rattle.field.specs.FiniteField.{FiniteField}
use Rattle.rows.specs.declared.table.Shape.{Shape}
use Rattle.book.specs.Shelves.{empty, filled, State, Place, entry, letters_of}
use Rattle.book.specs.Calls.{Call, sum, multiply, compare, Among}
use Rattle.book.specs.Refusals.{refusal_number}
use Rattle.book.specs.Refusing.{Meets, sum_letters, multiply_letters, compare_letters, Refuses}
use Rattle.book.specs.declared.refusal.Refusal.{Refusal}
use Rattle.book.specs.declared.refusal.Refusal.TheVariants.{PlaceOutside, MemoryShort, WorkShort, PlaceEmpty, LettersDiffer}
use Rattle.book.proofs.Checks.{Passed, passed_more, refused_at}
use Rattle.shelf.specs.Checking.{Reads, Pairs, of_sum, of_multiply, of_compare}
use Rattle.shelf.specs.declared.place.Place.{Place as PlaceCode}
use Rattle.shelf.proofs.Gating.{of_two, within_one, within_two, not_empty, absent, short, unfilled, past_4}
use Rattle.shelf.proofs.Late.{late}

pub pairs_read : {c : Call} {p q to : ℕ} → Pairs c p q to → Reads c (p ∷ q ∷ []) (to ∷ []) 8192
pairs_read (of_sum p q to) = record { sources_are = refl; results_among = λ x m. m; named = λ x m. inr m; asks_all = refl }
pairs_read (of_multiply p q to) = record { sources_are = refl; results_among = λ x m. m; named = λ x m. inr m; asks_all = refl }
pairs_read (of_compare p q) = record { sources_are = refl; results_among = λ x m. absurd m; named = λ x m. inl (inr m); asks_all = refl }

module _ {V : Type 0} (K : FiniteField V) {F : Type 0} (s : State F) where
  differ : {c : Call} {p q to : ℕ} → Pairs c p q to → letters_of (entry s.shelf p) ≢ letters_of (entry s.shelf q) → Meets K s c LettersDiffer
  differ (of_sum p q to) u = sum_letters u
  differ (of_multiply p q to) u = multiply_letters u
  differ (of_compare p q) u = compare_letters u

  alike : {c : Call} {p q to : ℕ} → Pairs c p q to → letters_of (entry s.shelf p) ≡ letters_of (entry s.shelf q) → (o : Refusal) → Meets K s c o → refusal_number o ≢ 5
  alike (of_sum p q to) e o m f = elim (late K s (sum p q to) o m (omega (arith, f))) [ inl d ↦ d.1 e | inr d ↦ omega (arith, d.0, f) ]
  alike (of_multiply p q to) e o m f = elim (late K s (multiply p q to) o m (omega (arith, f))) [ inl d ↦ d.1 e | inr d ↦ omega (arith, d.0, f) ]
  alike (of_compare p q) e o m f = (late K s (compare p q) o m (omega (arith, f))).1 e

  pub letters_differ : (c : Call) (p q to : ℕ) → Pairs c p q to → Passed K s c 4 → letters_of (entry s.shelf p) ≢ letters_of (entry s.shelf q) → Refuses K s c LettersDiffer
  letters_differ c p q to pair past u = refused_at K s c 4 LettersDiffer past (differ pair u) (omega arith)

  pub letters_agree : (c : Call) (p q to : ℕ) → Pairs c p q to → Passed K s c 4 → letters_of (entry s.shelf p) ≡ letters_of (entry s.shelf q) → Passed K s c 5
  letters_agree c p q to pair past e = passed_more K s c 4 past (alike pair e)

-- the checks 1 to 4, of such a call
module _ {V : Type 0} (K : FiniteField V) {F : Type 0} (s : State F) (c : Call) (p q to : ℕ) (pair : Pairs c p q to) where
  pub pair_outside : (x : ℕ) → Among (p ∷ q ∷ []) x ⊎ Among (to ∷ []) x → (f : Refusal) → (f ≡ PlaceOutside) × (¬ (Place x)) → Refuses K s c f
  pair_outside = absent K s c (p ∷ q ∷ []) (to ∷ []) 8192 (pairs_read pair)

  module _ (x y z : PlaceCode) (e : x.number ≡ p) (d : y.number ≡ q) (h : z.number ≡ to) where
    pub pair_short : (f : Refusal) → ((f ≡ MemoryShort) × (length s.shelf.memory < 12544)) ⊎ ((f ≡ WorkShort) × (12544 ≤ length s.shelf.memory) × (s.lent.work < 8192)) → Refuses K s c f
    pair_short = short K s c (p ∷ q ∷ []) (to ∷ []) 8192 (pairs_read pair) (within_two x y p q e d) (within_one z to h)

    module _ (room : (12544 ≤ length s.shelf.memory) × (8192 ≤ s.lent.work)) where
      pub pair_empty : (o : ℕ) → Among (p ∷ q ∷ []) o → (f : Refusal) → (f ≡ PlaceEmpty) × (entry s.shelf o ≡ empty) → Refuses K s c f
      pair_empty = unfilled K s c (p ∷ q ∷ []) (to ∷ []) 8192 (pairs_read pair) (within_two x y p q e d) (within_one z to h) room.0 room.1

      -- both tables are there
      pub pair_past : (l r : Shape) → entry s.shelf p ≡ filled l.states l.letters → entry s.shelf q ≡ filled r.states r.letters → Passed K s c 4
      pair_past l r a b = past_4 K s c (p ∷ q ∷ []) (to ∷ []) 8192 (pairs_read pair) (within_two x y p q e d) (within_one z to h) room.0 room.1
          (of_two (λ o. entry s.shelf o ≢ empty) (not_empty (entry s.shelf p) l.states l.letters a) (not_empty (entry s.shelf q) r.states r.letters b))
