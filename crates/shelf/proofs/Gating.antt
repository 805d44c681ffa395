-- The checks 1 to 4 of any call. Assumes nothing.
use Rattle.std.proofs.Common.{◌≡◌, ℕ, ◌<◌, ◌≤◌, ◌≢◌, ◌⊎◌, List, [], ◌∷◌, length, Result, sym, ◌∙◌, subst, inl, inr, arith}
use Rattle.std.specs.Result.{IsErrAnd}
use Rattle.std.proofs.lemmas.Result.{err_from_is_err_and}
use Rattle.field.specs.FiniteField.{FiniteField}
use Rattle.book.specs.Shelves.{Entry, empty, filled, State, Place, entry}
use Rattle.book.specs.Calls.{Call, Among, Names, sources, results}
use Rattle.book.specs.Refusing.{asks, outside, short_memory, short_work, vacant, Refuses}
use Rattle.book.specs.declared.refusal.Refusal.{Refusal}
use Rattle.book.specs.declared.refusal.Refusal.TheVariants.{PlaceOutside, MemoryShort, WorkShort, PlaceEmpty}
use Rattle.book.proofs.Checks.{Passed, passed_0, passed_1, passed_2, passed_3, passed_4, refused_at}
use Rattle.shelf.specs.Checking.{Reads, Checked}
use Rattle.shelf.specs.declared.place.Place.{Place as PlaceCode}

-- what holds of each of one or two places
pub of_one : (P : ℕ → Type 0) {p : ℕ} → P p → (q : ℕ) → Among (p ∷ []) q → P q
of_one P h q (inl e) = subst P (sym e) h
of_one P h q (inr b) = absurd b

pub of_two : (P : ℕ → Type 0) {p r : ℕ} → P p → P r → (q : ℕ) → Among (p ∷ r ∷ []) q → P q
of_two P h l q (inl e) = subst P (sym e) h
of_two P h l q (inr m) = of_one P l q m

-- a number that was taken for a place is one; so are one or two such numbers
place_of : (x : PlaceCode) (p : ℕ) → x.number ≡ p → Place p
place_of x p e = subst Place e x.within

pub within_one : (x : PlaceCode) (p : ℕ) → x.number ≡ p → (q : ℕ) → Among (p ∷ []) q → Place q
within_one x p e = of_one Place {p = p} (place_of x p e)

pub within_two : (x y : PlaceCode) (p r : ℕ) → x.number ≡ p → y.number ≡ r → (q : ℕ) → Among (p ∷ r ∷ []) q → Place q
within_two x y p r e d = of_two Place {p = p} {r = r} (place_of x p e) (place_of y r d)

-- a call that makes a table of one that it reads
pub makes_of_one : (c : Call) (p to : ℕ) → sources c ≡ p ∷ [] → results c ≡ to ∷ [] → asks c ≡ (12544, 8192) → Reads c (p ∷ []) (to ∷ []) 8192
makes_of_one c p to e f a = record { sources_are = e; results_among = λ q m. subst (λ xs. Among xs q) f m; named = λ q m. inr (subst (λ xs. Among xs q) (sym f) m); asks_all = a }

-- a call that makes a table and reads none
pub makes_of_none : (c : Call) (to : ℕ) → sources c ≡ [] → results c ≡ to ∷ [] → asks c ≡ (12544, 8192) → Reads c [] (to ∷ []) 8192
makes_of_none c to e f a = record { sources_are = e; results_among = λ q m. subst (λ xs. Among xs q) f m; named = λ q m. inr (subst (λ xs. Among xs q) (sym f) m); asks_all = a }

-- a call that names no place but the one that it reads
pub reads_one : (c : Call) (p need : ℕ) → sources c ≡ p ∷ [] → results c ≡ [] → asks c ≡ (12544, need) → Reads c (p ∷ []) (p ∷ []) need
reads_one c p need e f a = record { sources_are = e; results_among = λ q m. absurd (subst (λ xs. Among xs q) f m); named = λ q m. inl (subst (λ xs. Among xs q) (sym e) m); asks_all = a }

abbrev Full : Entry → Type 0
Full empty = ⊥
Full (filled n k) = Unit {0}

-- an entry that holds a size is not empty
pub not_empty : (e : Entry) (n k : ℕ) → e ≡ filled n k → e ≢ empty
not_empty e n k a b = subst Full (sym a ∙ b) tt

module _ {V : Type 0} (K : FiniteField V) {F : Type 0} (s : State F) (c : Call) (ps qs : List ℕ) (need : ℕ) (reads : Reads c ps qs need) where
  pub no_place : (p : ℕ) → Among ps p ⊎ Among qs p → ¬ (Place p) → Refuses K s c PlaceOutside
  no_place p (inl m) u = refused_at K s c 0 PlaceOutside (passed_0 K s c) (outside p (inl (subst (λ xs. Among xs p) (sym reads.sources_are) m)) u) (omega arith)
  no_place p (inr m) u = refused_at K s c 0 PlaceOutside (passed_0 K s c) (outside p (reads.named p m) u) (omega arith)

  pub absent : (p : ℕ) → Among ps p ⊎ Among qs p → (f : Refusal) → (f ≡ PlaceOutside) × (¬ (Place p)) → Refuses K s c f
  absent p m f (e, u) = subst (Refuses K s c) (sym e) (no_place p m u)

  module _ (first : (q : ℕ) → Among ps q → Place q) (others : (q : ℕ) → Among qs q → Place q) where
    named_within : (p : ℕ) → Names c p → Place p
    named_within p (inl m) = first p (subst (λ xs. Among xs p) reads.sources_are m)
    named_within p (inr m) = others p (reads.results_among p m)

    pub no_memory : length s.shelf.memory < 12544 → Refuses K s c MemoryShort
    no_memory l = refused_at K s c 1 MemoryShort (passed_1 K s c named_within) (short_memory (subst (λ a. length s.shelf.memory < a.0) (sym reads.asks_all) l)) (omega arith)

    module _ (memory : 12544 ≤ length s.shelf.memory) where
      past_2 : Passed K s c 2
      past_2 = passed_2 K s c (passed_1 K s c named_within) (subst (λ a. a.0 ≤ length s.shelf.memory) (sym reads.asks_all) memory)

      pub no_work : s.lent.work < need → Refuses K s c WorkShort
      no_work l = refused_at K s c 2 WorkShort past_2 (short_work (subst (λ a. s.lent.work < a.1) (sym reads.asks_all) l)) (omega arith)

      module _ (work : need ≤ s.lent.work) where
        past_3 : Passed K s c 3
        past_3 = passed_3 K s c past_2 (subst (λ a. a.1 ≤ s.lent.work) (sym reads.asks_all) work)

        pub no_table : (p : ℕ) → Among ps p → entry s.shelf p ≡ empty → Refuses K s c PlaceEmpty
        no_table p m e = refused_at K s c 3 PlaceEmpty past_3 (vacant p (subst (λ xs. Among xs p) (sym reads.sources_are) m) e) (omega arith)

        pub unfilled : (p : ℕ) → Among ps p → (f : Refusal) → (f ≡ PlaceEmpty) × (entry s.shelf p ≡ empty) → Refuses K s c f
        unfilled p m f (e, v) = subst (Refuses K s c) (sym e) (no_table p m v)

        pub past_4 : ((q : ℕ) → Among ps q → entry s.shelf q ≢ empty) → Passed K s c 4
        past_4 h = passed_4 K s c past_3 (λ q m. h q (subst (λ xs. Among xs q) reads.sources_are m))

-- what a check refuses, the call returns by `?`
pub broken : {V : Type 0} (K : FiniteField V) {F : Type 0} (s : State F) (c : Call) (n : ℕ) {T : Type 0} (r : Result T Refusal) {e : Refusal} → IsErrAnd r (λ y. y ≡ e) → Refuses K s c e → Checked K s c n r
broken K s c n r h d = let p = err_from_is_err_and r h in subst (Checked K s c n) (sym p.1) (subst (Refuses K s c) (sym p.2) d)

module _ {V : Type 0} (K : FiniteField V) {F : Type 0} (s : State F) (c : Call) (ps qs : List ℕ) (need : ℕ) (reads : Reads c ps qs need) (first : (q : ℕ) → Among ps q → Place q) (others : (q : ℕ) → Among qs q → Place q) where
  -- shelf memory or work memory is short
  pub short : (f : Refusal) → ((f ≡ MemoryShort) × (length s.shelf.memory < 12544)) ⊎ ((f ≡ WorkShort) × (12544 ≤ length s.shelf.memory) × (s.lent.work < need)) → Refuses K s c f
  short f (inl (e, l)) = subst (Refuses K s c) (sym e) (no_memory K s c ps qs need reads first others l)
  short f (inr (e, m, l)) = subst (Refuses K s c) (sym e) (no_work K s c ps qs need reads first others m l)
