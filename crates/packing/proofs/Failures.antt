-- Why packing fails: the refusals that each of its calls can give. Assumes nothing.
use Rattle.std.proofs.Common.{◌≡◌, ℕ, ◌<◌, ◌≤◌, ◌≢◌, List, length, sym, subst, inl, inr, arith}
use native.Mathlib.Decide.{dec_lt}
use Rattle.field.specs.FiniteField.{FiniteField}
use Rattle.text.specs.Texts.{text_size}
use Rattle.book.specs.Shelves.{empty, State, Place, entry, states_of, letters_of}
use Rattle.book.specs.Calls.{load, reduce, compare, write}
use Rattle.book.specs.Refusals.{refusal_number}
use Rattle.book.specs.Refusing.{Meets, outside, short_memory, short_work, vacant, compare_letters, write_room, load_fault, Refuses}
use Rattle.book.specs.declared.refusal.Refusal.{Refusal}
use Rattle.book.specs.declared.refusal.Refusal.TheVariants.{MemoryShort, WorkShort, OutputShort}
use Rattle.book.proofs.OneRefusal.{high}
use Rattle.packing.specs.Packing.{PackedForm, InShelf, packed_text, Fails, short_memory as no_memory, short_work as no_work, unreadable, short_output}
use Rattle.packing.specs.declared.error.PackError.TheVariants.{Refused, OutputShort as no_room}

pub first : Place 1
first = (omega arith, omega arith)

pub second : Place 2
second = (omega arith, omega arith)

module _ {V : Type 0} (K : FiniteField V) {F : Type 0} (s : State F) where
  module _ (text : List ℕ) where
    -- load found enough memory where short memory would have decided
    pub memory_enough : (¬ (Meets K s (load text 1) MemoryShort)) → 12544 ≤ length s.shelf.memory
    memory_enough h = go (dec_lt (length s.shelf.memory) 12544)
      where
        go : Dec (length s.shelf.memory < 12544) → 12544 ≤ length s.shelf.memory
        go (yes l) = absurd (h (short_memory l))
        go (no u) = omega arith

    pub work_enough : (¬ (Meets K s (load text 1) WorkShort)) → 8192 ≤ s.lent.work
    work_enough h = go (dec_lt s.lent.work 8192)
      where
        go : Dec (s.lent.work < 8192) → 8192 ≤ s.lent.work
        go (yes l) = absurd (h (short_work l))
        go (no u) = omega arith

    pub load_fails : (value : F → V) (room : ℕ) (ys : List F) (r : Refusal) → Refuses K s (load text 1) r → ys ≡ s.shelf.memory → Fails K value text s.lent.work room s.shelf.memory ys (Refused r)
    load_fails value room ys r h e = go r h.meets h.first
      where
        go : (r : Refusal) → Meets K s (load text 1) r → ((o : Refusal) → Meets K s (load text 1) o → refusal_number r ≤ refusal_number o) → Fails K value text s.lent.work room s.shelf.memory ys (Refused r)
        go r (outside p (inl b) u) least = absurd b
        go r (outside p (inr (inl d)) u) least = absurd (u (subst Place (sym d) first))
        go r (outside p (inr (inr b)) u) least = absurd b
        go r (short_memory l) least = no_memory l e
        go r (short_work l) least = no_work (memory_enough (λ m. let x = least MemoryShort m in omega arith)) l e
        go r (vacant p b d) least = absurd b
        go r (load_fault {f = f} x) least = unreadable f (memory_enough (λ m. let y = least MemoryShort m in omega (arith, high f))) (work_enough (λ m. let y = least WorkShort m in omega (arith, high f))) x e

  -- write found room for the text where a short output would have decided
  pub room_enough : (¬ (Meets K s (write 2) OutputShort)) → text_size (states_of (entry s.shelf 2)) (letters_of (entry s.shelf 2)) ≤ length s.lent.output
  room_enough h = go (dec_lt (length s.lent.output) (text_size (states_of (entry s.shelf 2)) (letters_of (entry s.shelf 2))))
    where
      go : Dec (length s.lent.output < text_size (states_of (entry s.shelf 2)) (letters_of (entry s.shelf 2))) → text_size (states_of (entry s.shelf 2)) (letters_of (entry s.shelf 2)) ≤ length s.lent.output
      go (yes l) = absurd (h (write_room l))
      go (no u) = omega arith

  module _ (memory : 12544 ≤ length s.shelf.memory) where
    module _ (work : 8192 ≤ s.lent.work) (full : entry s.shelf 1 ≢ empty) where
      pub never_reduce : (r : Refusal) → Meets K s (reduce 1 2) r → ⊥
      never_reduce r (outside p (inl (inl d)) u) = u (subst Place (sym d) first)
      never_reduce r (outside p (inl (inr b)) u) = b
      never_reduce r (outside p (inr (inl d)) u) = u (subst Place (sym d) second)
      never_reduce r (outside p (inr (inr b)) u) = b
      never_reduce r (short_memory l) = omega arith
      never_reduce r (short_work l) = omega arith
      never_reduce r (vacant p (inl d) e) = full (subst (λ q. entry s.shelf q ≡ empty) d e)
      never_reduce r (vacant p (inr b) e) = b

      pub never_compare : entry s.shelf 2 ≢ empty → letters_of (entry s.shelf 1) ≡ letters_of (entry s.shelf 2) → (r : Refusal) → Meets K s (compare 1 2) r → ⊥
      never_compare full₂ alike r (outside p (inl (inl d)) u) = u (subst Place (sym d) first)
      never_compare full₂ alike r (outside p (inl (inr (inl d))) u) = u (subst Place (sym d) second)
      never_compare full₂ alike r (outside p (inl (inr (inr b))) u) = b
      never_compare full₂ alike r (outside p (inr b) u) = b
      never_compare full₂ alike r (short_memory l) = omega arith
      never_compare full₂ alike r (short_work l) = omega arith
      never_compare full₂ alike r (vacant p (inl d) e) = full (subst (λ q. entry s.shelf q ≡ empty) d e)
      never_compare full₂ alike r (vacant p (inr (inl d)) e) = full₂ (subst (λ q. entry s.shelf q ≡ empty) d e)
      never_compare full₂ alike r (vacant p (inr (inr b)) e) = b
      never_compare full₂ alike r (compare_letters u) = u alike

    -- write stops for want of room only
    pub write_fails : (value : F → V) (text : List ℕ) (work : ℕ) (xs ys : List F) (p : PackedForm K text) → InShelf K value p.table p.packed xs ys → 12544 ≤ length xs → 8192 ≤ work → length (packed_text K p) ≡ text_size (states_of (entry s.shelf 2)) (letters_of (entry s.shelf 2))
        → entry s.shelf 2 ≢ empty → (r : Refusal) → Meets K s (write 2) r → Fails K value text work (length s.lent.output) xs ys no_room
    write_fails value text work xs ys f l m k n full r (outside p (inl (inl e)) u) = absurd (u (subst Place (sym e) second))
    write_fails value text work xs ys f l m k n full r (outside p (inl (inr b)) u) = absurd b
    write_fails value text work xs ys f l m k n full r (outside p (inr b) u) = absurd b
    write_fails value text work xs ys f l m k n full r (short_memory h) = absurd (omega arith)
    write_fails value text work xs ys f l m k n full r (short_work h) = absurd (omega arith)
    write_fails value text work xs ys f l m k n full r (vacant p (inl e) z) = absurd (full (subst (λ q. entry s.shelf q ≡ empty) e z))
    write_fails value text work xs ys f l m k n full r (vacant p (inr b) z) = absurd b
    write_fails value text work xs ys f l m k n full r (write_room h) = short_output m k f l (rw n h)
