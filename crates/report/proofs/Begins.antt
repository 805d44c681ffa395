-- The first byte of an output is that of its line. Assumes nothing.
use Rattle.std.proofs.Common.{◌≡◌, ℕ, ◌≤◌, ◌↔◌, List, ◌++◌, length, get_or, drop, sym, refl, subst, arith}
use Rattle.field.specs.FiniteField.{FiniteField}
use Rattle.report.specs.Reports.{ReportLine, first_refused, second_refused, letters_differ, alike, different, Reports, no_room, written, WeighAlike, BeginsWhereAlike}

module _ {V : Type 0} (K : FiniteField V) (first second : List ℕ) where
  first_byte : (l more : List ℕ) → ReportLine K first second l → get_or (l ++ more) 0 0 ≡ get_or l 0 0
  first_byte l more (first_refused f h) = refl
  first_byte l more (second_refused S f a h) = refl
  first_byte l more (letters_differ S T a b h) = refl
  first_byte l more (alike S T v h s) = refl
  first_byte l more (different S T v h s) = refl

  pub begins_output : (b : ℕ) → BeginsWhereAlike K b → (output left : List ℕ) (count : ℕ) → Reports K first second output count left → 387 ≤ length output → (get_or left 0 0 ≡ b) ↔ WeighAlike K first second
  begins_output b q output left count (no_room h) room = absurd (omega arith)
  begins_output b q output left count (written l r h) room = subst (λ x. (x ≡ b) ↔ WeighAlike K first second) (sym (first_byte l (drop (length l) output) h)) (q first second l h)
