-- Which conditions each call can meet after the first four. Assumes nothing.
use Rattle.std.proofs.Common.{◌≡◌, ℕ, ◌+◌, ◌*◌, ◌<◌, ◌≤◌, ◌≢◌, ◌⊎◌, List, [], ◌∷◌, ◌++◌, length, refl, ap, ◌∙◌, subst, inl, inr, arith}
use Rattle.field.specs.FiniteField.{FiniteField}
use Rattle.series.specs.Words.{Word, Over}
use Rattle.series.specs.Tables.{Table}
use Rattle.rows.specs.Weighing.{FirstOutside}
use Rattle.faults.specs.declared.LoadFault.{LoadFault}
use Rattle.text.specs.Texts.{text_size, text_of}
use Rattle.text.specs.Readings.{Sized, Refuses as TextRefused}
use Rattle.text.proofs.Decides.{decided}
use Rattle.book.specs.Shelves.{State, entry, states_of, letters_of}
use Rattle.book.specs.Calls.{Call, load, sum, scale, multiply, after, turn, reduce, weigh, compare, write, clear}
use Rattle.book.specs.Refusals.{refusal_number}
use Rattle.book.specs.Refusing.{Meets, outside, short_memory, short_work, vacant, scale_code, after_letter, weigh_letter, load_fault, write_room, sum_letters, sum_states, multiply_letters, multiply_states, compare_letters, Refuses, Accepts}
use Rattle.book.specs.declared.refusal.Refusal.{Refusal}
use Rattle.book.specs.declared.refusal.Refusal.TheVariants.{CodeOutside, LetterOutside, OutputShort, StatesOver, Unreadable}
use Rattle.book.proofs.Checks.{Passed}

-- a word over the letters has none outside
pub none_outside : (k : ℕ) (w : Word) (i : ℕ) → Over k w → FirstOutside k w i → ⊥
none_outside k w i o f = f.outside (here f.front (subst (Over k) f.parts o))
  where
    here : (front : Word) → Over k (front ++ f.letter ∷ f.rest) → (1 ≤ f.letter) × (f.letter ≤ k)
    here [] h = (h.0, h.1)
    here (a ∷ front) h = here front h.2

-- a single letter that is outside
pub letter_outside : (k a : ℕ) → ((1 ≤ a) × (a ≤ k) → ⊥) → FirstOutside k (a ∷ []) 1
letter_outside k a u = record { front = []; letter = a; rest = []; parts = refl; good = tt; outside = u; position = refl }

module _ {V : Type 0} (K : FiniteField V) {F : Type 0} (s : State F) where
  abbrev states_at : ℕ → ℕ
  states_at p = states_of (entry s.shelf p)

  abbrev letters_at : ℕ → ℕ
  letters_at p = letters_of (entry s.shelf p)

  -- what a call may meet after the first four conditions
  abbrev Later : Call → Refusal → Type 0
  Later (load text to) o = (f : LoadFault) × (o ≡ Unreadable f) × TextRefused K text f
  Later (sum p q to) o = ((refusal_number o ≡ 5) × (letters_at p ≢ letters_at q)) ⊎ ((refusal_number o ≡ 6) × (16 < states_at p + states_at q))
  Later (scale p c to) o = (refusal_number o ≡ 8) × (K.q ≤ c)
  Later (multiply p q to) o = ((refusal_number o ≡ 5) × (letters_at p ≢ letters_at q)) ⊎ ((refusal_number o ≡ 6) × (16 < states_at p * states_at q))
  Later (after p a to) o = (refusal_number o ≡ 7) × ((i : ℕ) × FirstOutside (letters_at p) (a ∷ []) i)
  Later (turn p to) o = ⊥
  Later (reduce p to) o = ⊥
  Later (weigh p w) o = (refusal_number o ≡ 7) × ((i : ℕ) × FirstOutside (letters_at p) w i)
  Later (compare p q) o = (refusal_number o ≡ 5) × (letters_at p ≢ letters_at q)
  Later (write p) o = (refusal_number o ≡ 9) × (length s.lent.output < text_size (states_at p) (letters_at p))
  Later (clear p) o = ⊥

-- no other condition has a number over 4
pub late : {V : Type 0} (K : FiniteField V) {F : Type 0} (s : State F) (c : Call) (o : Refusal) → Meets K s c o → 4 < refusal_number o → Later K s c o
late K s c o (outside q n u) l = absurd (omega arith)
late K s c o (short_memory h) l = absurd (omega arith)
late K s c o (short_work h) l = absurd (omega arith)
late K s c o (vacant q n e) l = absurd (omega arith)
late K s c o (sum_letters h) l = inl (refl, h)
late K s c o (multiply_letters h) l = inl (refl, h)
late K s c o (compare_letters h) l = (refl, h)
late K s c o (sum_states h) l = inr (refl, h)
late K s c o (multiply_states h) l = inr (refl, h)
late K s c o (weigh_letter {i = i} h) l = (refl, (i, h))
late K s c o (after_letter {i = i} h) l = (refl, (i, h))
late K s c o (scale_code h) l = (refl, h)
late K s c o (write_room h) l = (refl, h)
late K s c o (load_fault {f = f} h) l = (f, refl, h)

module _ {V : Type 0} (K : FiniteField V) {F : Type 0} (s : State F) where
  pub turn_accepts : (p to : ℕ) → Passed K s (turn p to) 4 → Accepts K s (turn p to)
  turn_accepts p to past o m = late K s (turn p to) o m (past o m)

  pub reduce_accepts : (p to : ℕ) → Passed K s (reduce p to) 4 → Accepts K s (reduce p to)
  reduce_accepts p to past o m = late K s (reduce p to) o m (past o m)

  module _ (p c to : ℕ) (past : Passed K s (scale p c to) 4) where
    pub scale_accepts : c < K.q → Accepts K s (scale p c to)
    scale_accepts h o m = let e = late K s (scale p c to) o m (past o m) in omega (arith, e.1)

    pub scale_refuses : K.q ≤ c → Refuses K s (scale p c to) CodeOutside
    scale_refuses h = record { meets = scale_code h; first = λ o m. let e = late K s (scale p c to) o m (past o m) in omega (arith, e.0) }

  module _ (p a to : ℕ) (past : Passed K s (after p a to) 4) where
    pub after_accepts : 1 ≤ a → a ≤ letters_of (entry s.shelf p) → Accepts K s (after p a to)
    after_accepts h l o m = let e = late K s (after p a to) o m (past o m) in none_outside (letters_of (entry s.shelf p)) (a ∷ []) e.1.0 (h, l, tt) e.1.1

    pub after_refuses : ((1 ≤ a) × (a ≤ letters_of (entry s.shelf p)) → ⊥) → Refuses K s (after p a to) (LetterOutside 1)
    after_refuses u = record { meets = after_letter (letter_outside (letters_of (entry s.shelf p)) a u); first = λ o m. let e = late K s (after p a to) o m (past o m) in omega (arith, e.0) }

  module _ (p : ℕ) (w : Word) (past : Passed K s (weigh p w) 4) where
    pub weigh_accepts : Over (letters_of (entry s.shelf p)) w → Accepts K s (weigh p w)
    weigh_accepts h o m = let e = late K s (weigh p w) o m (past o m) in none_outside (letters_of (entry s.shelf p)) w e.1.0 h e.1.1

    pub weigh_refuses : (i : ℕ) → FirstOutside (letters_of (entry s.shelf p)) w i → Refuses K s (weigh p w) (LetterOutside i)
    weigh_refuses i h = record { meets = weigh_letter h; first = λ o m. let e = late K s (weigh p w) o m (past o m) in omega (arith, e.0) }

  -- a text has one fault
  module _ (text : List ℕ) (to : ℕ) (past : Passed K s (load text to) 4) where
    pub load_accepts : (T : Table V) → Sized T → text ≡ text_of K T → Accepts K s (load text to)
    load_accepts T sized is o m = let e = late K s (load text to) o m (past o m) in (decided K text).0 T e.0 sized is e.2

    pub load_refuses : (f : LoadFault) → TextRefused K text f → Refuses K s (load text to) (Unreadable f)
    load_refuses f h = record {
      meets = load_fault h;
      first = λ o m.
          let e = late K s (load text to) o m (past o m) in
          let same : refusal_number o ≡ refusal_number (Unreadable f) = ap refusal_number (e.1 ∙ ap Unreadable ((decided K text).1 e.0 f e.2 h)) in
          omega (arith, same);
    }

  module _ (p : ℕ) (past : Passed K s (write p) 4) where
    pub write_accepts : text_size (states_of (entry s.shelf p)) (letters_of (entry s.shelf p)) ≤ length s.lent.output → Accepts K s (write p)
    write_accepts h o m = let e = late K s (write p) o m (past o m) in omega (arith, e.1)

    pub write_refuses : length s.lent.output < text_size (states_of (entry s.shelf p)) (letters_of (entry s.shelf p)) → Refuses K s (write p) OutputShort
    write_refuses h = record { meets = write_room h; first = λ o m. let e = late K s (write p) o m (past o m) in omega (arith, e.0) }

  module _ (p q to : ℕ) (past : Passed K s (sum p q to) 5) where
    pub sum_accepts : states_of (entry s.shelf p) + states_of (entry s.shelf q) ≤ 16 → Accepts K s (sum p q to)
    sum_accepts h o m = let l = past o m in elim (late K s (sum p q to) o m (omega arith)) [ inl e ↦ omega (arith, e.0) | inr e ↦ omega (arith, e.1) ]

    pub sum_refuses : 16 < states_of (entry s.shelf p) + states_of (entry s.shelf q) → Refuses K s (sum p q to) StatesOver
    sum_refuses h = record { meets = sum_states h; first = λ o m. let l = past o m in elim (late K s (sum p q to) o m (omega arith)) [ inl e ↦ omega (arith, e.0) | inr e ↦ omega (arith, e.0) ] }

  module _ (p q to : ℕ) (past : Passed K s (multiply p q to) 5) where
    pub multiply_accepts : states_of (entry s.shelf p) * states_of (entry s.shelf q) ≤ 16 → Accepts K s (multiply p q to)
    multiply_accepts h o m = let l = past o m in elim (late K s (multiply p q to) o m (omega arith)) [ inl e ↦ omega (arith, e.0) | inr e ↦ omega (arith, e.1) ]

    pub multiply_refuses : 16 < states_of (entry s.shelf p) * states_of (entry s.shelf q) → Refuses K s (multiply p q to) StatesOver
    multiply_refuses h = record { meets = multiply_states h; first = λ o m. let l = past o m in elim (late K s (multiply p q to) o m (omega arith)) [ inl e ↦ omega (arith, e.0) | inr e ↦ omega (arith, e.0) ] }

  pub compare_accepts : (p q : ℕ) → Passed K s (compare p q) 5 → Accepts K s (compare p q)
  compare_accepts p q past o m = let l = past o m in let e = late K s (compare p q) o m (omega arith) in omega (arith, e.0)

  pub clear_accepts : (p : ℕ) → Passed K s (clear p) 4 → Accepts K s (clear p)
  clear_accepts p past o m = late K s (clear p) o m (past o m)
