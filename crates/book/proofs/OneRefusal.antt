-- A call is refused by one refusal, and that goes by values. Assumes nothing.
use Rattle.std.proofs.Common.{◌≡◌, ℕ, zero, suc, ◌+◌, ◌*◌, ◌<◌, ◌≤◌, ◌≢◌, [], ◌∷◌, ◌++◌, length, sym, refl, ap, ◌∙◌, subst, subst₂, arith}
use Rattle.field.specs.FiniteField.{FiniteField}
use Rattle.series.specs.Words.{Word, Over}
use Rattle.rows.specs.Weighing.{FirstOutside}
use Rattle.text.specs.Texts.{text_size}
use Rattle.text.specs.Facts.{Decided}
use Rattle.faults.specs.Refusals.{load_refusal}
use Rattle.faults.specs.declared.LoadFault.{LoadFault}
use Rattle.faults.specs.declared.LoadFault.TheVariants.{Line, Value, Beyond}
use Rattle.faults.specs.declared.LineFault.TheVariants.{Column, Ends, Unexpected, Unended}
use Rattle.book.specs.Shelves.{empty, State, at_place, entry, states_of, letters_of}
use Rattle.book.specs.Calls.{Call}
use Rattle.book.specs.Refusals.{refusal_number}
use Rattle.book.specs.Refusing.{asks, Meets, outside, short_memory, short_work, vacant, sum_letters, multiply_letters, compare_letters, sum_states, multiply_states, weigh_letter, after_letter, scale_code, write_room, load_fault, Refuses}
use Rattle.book.specs.Settling.{SameState}
use Rattle.book.specs.declared.refusal.Refusal.{Refusal}
use Rattle.book.specs.declared.refusal.Refusal.TheVariants.{PlaceOutside, MemoryShort, WorkShort, PlaceEmpty, LettersDiffer, StatesOver, LetterOutside, CodeOutside, OutputShort, Unreadable}

-- a word has one first letter outside
fronts : (k : ℕ) (f g : Word) (a b : ℕ) (r t : Word) → f ++ a ∷ r ≡ g ++ b ∷ t → Over k f → Over k g → ((1 ≤ a) × (a ≤ k) → ⊥) → ((1 ≤ b) × (b ≤ k) → ⊥) → length f ≡ length g
fronts k [] [] a b r t e o p u v = refl
fronts k [] (y ∷ g) a b r t e o p u v = let d : a ≡ y = cc in absurd (u (omega (arith, p.0), omega (arith, p.1)))
fronts k (x ∷ f) [] a b r t e o p u v = let d : x ≡ b = cc in absurd (v (omega (arith, o.0), omega (arith, o.1)))
fronts k (x ∷ f) (y ∷ g) a b r t e o p u v = let d : f ++ a ∷ r ≡ g ++ b ∷ t = cc in ap suc (fronts k f g a b r t d o.2 p.2 u v)

pub outside_one : (k : ℕ) (w : Word) (i j : ℕ) → FirstOutside k w i → FirstOutside k w j → i ≡ j
outside_one k w i j a b = a.position ∙ ap (λ n. n + 1) (fronts k a.front b.front a.letter b.letter a.rest b.rest (sym a.parts ∙ b.parts) a.good b.good a.outside b.outside) ∙ sym b.position

-- the refusal of a number that only one has
abbrev from_number : ℕ → Refusal
from_number zero = PlaceOutside
from_number (suc zero) = PlaceOutside
from_number (suc (suc zero)) = MemoryShort
from_number (suc (suc (suc zero))) = WorkShort
from_number (suc (suc (suc (suc zero)))) = PlaceEmpty
from_number (suc (suc (suc (suc (suc zero))))) = LettersDiffer
from_number (suc (suc (suc (suc (suc (suc zero)))))) = StatesOver
from_number (suc (suc (suc (suc (suc (suc (suc zero))))))) = PlaceOutside
from_number (suc (suc (suc (suc (suc (suc (suc (suc zero)))))))) = CodeOutside
from_number (suc (suc (suc (suc (suc (suc (suc (suc (suc zero))))))))) = OutputShort
from_number (suc (suc (suc (suc (suc (suc (suc (suc (suc (suc n)))))))))) = PlaceOutside

-- a refusal is known by its number, or has number 7 and a position, or a number from 10 on and a fault
data Sort (r : Refusal) : Type 0 where
  plain : r ≡ from_number (refusal_number r) → refusal_number r ≢ 7 → refusal_number r < 10 → Sort r
  letter : (i : ℕ) → r ≡ LetterOutside i → refusal_number r ≡ 7 → Sort r
  fault : (f : LoadFault) → r ≡ Unreadable f → 10 ≤ refusal_number r → Sort r

pub high : (f : LoadFault) → 10 ≤ load_refusal f
high (Line (Ends p)) = omega arith
high (Line (Unexpected p)) = omega arith
high (Line (Column f)) = omega arith
high (Line (Unended p)) = omega arith
high (Value p) = omega arith
high (Beyond p) = omega arith

sort : (r : Refusal) → Sort r
sort PlaceOutside = plain refl (omega arith) (omega arith)
sort MemoryShort = plain refl (omega arith) (omega arith)
sort WorkShort = plain refl (omega arith) (omega arith)
sort PlaceEmpty = plain refl (omega arith) (omega arith)
sort LettersDiffer = plain refl (omega arith) (omega arith)
sort StatesOver = plain refl (omega arith) (omega arith)
sort (LetterOutside i) = letter i refl refl
sort CodeOutside = plain refl (omega arith) (omega arith)
sort OutputShort = plain refl (omega arith) (omega arith)
sort (Unreadable f) = fault f refl (high f)

module _ {V : Type 0} (K : FiniteField V) {F : Type 0} (value : F → V) where
  -- what is met goes by values
  pub meets_same : (s s' : State F) → SameState K value s s' → (c : Call) (r : Refusal) → Meets K s c r → Meets K s' c r
  meets_same s s' e c r (outside p m u) = outside p m u
  meets_same s s' e c r (short_memory l) = short_memory (subst (λ n. n < (asks c).0) e.length_same l)
  meets_same s s' e c r (short_work l) = short_work (subst (λ z. z.work < (asks c).1) e.lent l)
  meets_same s s' e c r (vacant p m h) = vacant p m (subst (λ es. at_place empty es p ≡ empty) e.entries h)
  meets_same s s' e c r (sum_letters {p} {q} h) = sum_letters (subst (λ es. letters_of (at_place empty es p) ≢ letters_of (at_place empty es q)) e.entries h)
  meets_same s s' e c r (multiply_letters {p} {q} h) = multiply_letters (subst (λ es. letters_of (at_place empty es p) ≢ letters_of (at_place empty es q)) e.entries h)
  meets_same s s' e c r (compare_letters {p} {q} h) = compare_letters (subst (λ es. letters_of (at_place empty es p) ≢ letters_of (at_place empty es q)) e.entries h)
  meets_same s s' e c r (sum_states {p} {q} h) = sum_states (subst (λ es. 16 < states_of (at_place empty es p) + states_of (at_place empty es q)) e.entries h)
  meets_same s s' e c r (multiply_states {p} {q} h) = multiply_states (subst (λ es. 16 < states_of (at_place empty es p) * states_of (at_place empty es q)) e.entries h)
  meets_same s s' e c r (weigh_letter {p} {i} {w} h) = weigh_letter (subst (λ es. FirstOutside (letters_of (at_place empty es p)) w i) e.entries h)
  meets_same s s' e c r (after_letter {p} {a} {to} {i} h) = after_letter (subst (λ es. FirstOutside (letters_of (at_place empty es p)) (a ∷ []) i) e.entries h)
  meets_same s s' e c r (scale_code h) = scale_code h
  meets_same s s' e c r (write_room {p} h) = write_room (subst₂ (λ l es. length l.output < text_size (states_of (at_place empty es p)) (letters_of (at_place empty es p))) e.lent e.entries h)
  meets_same s s' e c r (load_fault h) = load_fault h

module _ {V : Type 0} (K : FiniteField V) (decided : Decided K) {F : Type 0} (s : State F) where
  letter_one : {c : Call} {i j : ℕ} → Meets K s c (LetterOutside i) → Meets K s c (LetterOutside j) → i ≡ j
  letter_one (weigh_letter {p} {i} {w} t) (weigh_letter {i = j} u) = outside_one (letters_of (entry s.shelf p)) w i j t u
  letter_one (after_letter {p} {a} {to} {i} t) (after_letter {i = j} u) = outside_one (letters_of (entry s.shelf p)) (a ∷ []) i j t u

  fault_one : {c : Call} {f g : LoadFault} → Meets K s c (Unreadable f) → Meets K s c (Unreadable g) → f ≡ g
  fault_one (load_fault {text} {to} {f} t) (load_fault {f = g} u) = (decided text).1 f g t u

  same_number : (c : Call) (q r : Refusal) → Meets K s c q → Meets K s c r → refusal_number q ≡ refusal_number r → Sort q → Sort r → q ≡ r
  same_number c q r m n e (plain a x y) (plain b z w) = a ∙ ap from_number e ∙ sym b
  same_number c q r m n e (letter i a x) (letter j b y) = a ∙ ap (λ k. LetterOutside k) (letter_one (subst (Meets K s c) a m) (subst (Meets K s c) b n)) ∙ sym b
  same_number c q r m n e (fault f a x) (fault g b y) = a ∙ ap Unreadable (fault_one (subst (Meets K s c) a m) (subst (Meets K s c) b n)) ∙ sym b
  same_number c q r m n e (plain a x y) (letter j b z) = absurd (x (e ∙ z))
  same_number c q r m n e (plain a x y) (fault g b z) = absurd (omega arith)
  same_number c q r m n e (letter i a x) (plain b y z) = absurd (y (sym e ∙ x))
  same_number c q r m n e (letter i a x) (fault g b y) = absurd (omega arith)
  same_number c q r m n e (fault f a x) (plain b y z) = absurd (omega arith)
  same_number c q r m n e (fault f a x) (letter j b y) = absurd (omega arith)

  pub refuses_one : (c : Call) (q r : Refusal) → Refuses K s c q → Refuses K s c r → q ≡ r
  refuses_one c q r a b = same_number c q r a.meets b.meets (omega (arith, a.first r b.meets, b.first q a.meets)) (sort q) (sort r)
