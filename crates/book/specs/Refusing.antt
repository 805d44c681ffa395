-- When a call is refused, and by which refusal. Assumes nothing.
use Rattle.std.specs.Prelude.{◌≡◌, ℕ, ◌+◌, ◌*◌, ◌<◌, ◌≤◌, ◌≢◌, List, [], ◌∷◌, length}
use Rattle.field.specs.FiniteField.{FiniteField}
use Rattle.series.specs.Words.{Word}
use Rattle.rows.specs.Weighing.{FirstOutside}
use Rattle.text.specs.Texts.{text_size}
use Rattle.text.specs.Readings.{Refuses as TextRefused}
use Rattle.faults.specs.declared.LoadFault.{LoadFault}
use Rattle.book.specs.Shelves.{empty, State, Place, entry, states_of, letters_of}
use Rattle.book.specs.Calls.{Call, load, sum, scale, multiply, after, turn, reduce, weigh, compare, write, clear, Among, Names, sources}
use Rattle.book.specs.Refusals.{refusal_number}
use Rattle.book.specs.declared.refusal.Refusal.{Refusal}
use Rattle.book.specs.declared.refusal.Refusal.TheVariants.{PlaceOutside, MemoryShort, WorkShort, PlaceEmpty, LettersDiffer, StatesOver, LetterOutside, CodeOutside, OutputShort, Unreadable}

-- how many elements of shelf memory, which are 8 times 1568, and of work memory a call asks for:
-- clear asks for none, and write for no work memory
abbrev pub asks : Call → ℕ × ℕ
asks (load text to) = (12544, 8192)
asks (sum p q to) = (12544, 8192)
asks (scale p c to) = (12544, 8192)
asks (multiply p q to) = (12544, 8192)
asks (after p a to) = (12544, 8192)
asks (turn p to) = (12544, 8192)
asks (reduce p to) = (12544, 8192)
asks (weigh p w) = (12544, 8192)
asks (compare p q) = (12544, 8192)
asks (write p) = (12544, 0)
asks (clear p) = (0, 0)

module _ {V : Type 0} (K : FiniteField V) {F : Type 0} (s : State F) where
  -- how many states, and how many letters, the entry of a place holds
  abbrev states_at : ℕ → ℕ
  states_at p = states_of (entry s.shelf p)

  abbrev letters_at : ℕ → ℕ
  letters_at p = letters_of (entry s.shelf p)

  -- the call meets the condition of the refusal
  pub data Meets : Call → Refusal → Type 0 where
    -- 1: it names a place outside 1 to 8
    outside : {c : Call} (p : ℕ) → Names c p → ¬ (Place p) → Meets c PlaceOutside
    -- 2 and 3: shelf memory, or work memory, has fewer elements than it asks for
    short_memory : {c : Call} → length s.shelf.memory < (asks c).0 → Meets c MemoryShort
    short_work : {c : Call} → s.lent.work < (asks c).1 → Meets c WorkShort
    -- 4: a place that it reads or clears is empty
    vacant : {c : Call} (p : ℕ) → Among (sources c) p → entry s.shelf p ≡ empty → Meets c PlaceEmpty
    -- 5: two letter counts differ
    sum_letters : {p q to : ℕ} → letters_at p ≢ letters_at q → Meets (sum p q to) LettersDiffer
    multiply_letters : {p q to : ℕ} → letters_at p ≢ letters_at q → Meets (multiply p q to) LettersDiffer
    compare_letters : {p q : ℕ} → letters_at p ≢ letters_at q → Meets (compare p q) LettersDiffer
    -- 6: the result has over 16 states
    sum_states : {p q to : ℕ} → 16 < states_at p + states_at q → Meets (sum p q to) StatesOver
    multiply_states : {p q to : ℕ} → 16 < states_at p * states_at q → Meets (multiply p q to) StatesOver
    -- 7: a letter is outside 1 to k, and the first such stands at position i
    weigh_letter : {p i : ℕ} {w : Word} → FirstOutside (letters_at p) w i
        → Meets (weigh p w) (LetterOutside i)
    after_letter : {p a to i : ℕ} → FirstOutside (letters_at p) (a ∷ []) i
        → Meets (after p a to) (LetterOutside i)
    -- 8: a code is q or more
    scale_code : {p c to : ℕ} → K.q ≤ c → Meets (scale p c to) CodeOutside
    -- 9: the output is shorter than the text
    write_room : {p : ℕ} → length s.lent.output < text_size (states_at p) (letters_at p)
        → Meets (write p) OutputShort
    -- 10 to 15: the text has a fault
    load_fault : {text : List ℕ} {to : ℕ} {f : LoadFault} → TextRefused K text f
        → Meets (load text to) (Unreadable f)

  -- of the conditions that it meets, the one with the smallest number decides
  pub record Refuses (c : Call) (r : Refusal) : Type 0 where
    pub meets : Meets c r
    pub first : (o : Refusal) → Meets c o → refusal_number r ≤ refusal_number o

  -- it meets none
  abbrev pub Accepts : Call → Type 0
  Accepts c = (r : Refusal) → ¬ (Meets c r)
