use Rattle.std.proofs.Common.{◌≡◌, ◌⊎◌, ℕ, List, ◌<◌, length, ap, arith, drop, length-take, length-drop, slice_range}
use Rattle.command.specs.Choices.{column_of}
use Rattle.command.specs.declared.field_choice.FieldChoice.{FieldChoice}
use Rattle.command.specs.declared.field_choice.FieldChoice.TheVariants.{Bits, Bytes, Fermat}
use Rattle.command.proofs.field_choice.FieldChoice.named_in.Goals as goal

eleven : (f : FieldChoice) → length (column_of f) ≡ 11
eleven Bits = omega arith
eleven Bytes = omega arith
eleven Fermat = omega arith

-- a text that ends before the column's end has too few bytes in it
short : (text : List ℕ) (f : FieldChoice) → (34 < 23) ⊎ (length text < 34) → slice_range text 23 34 ≡ column_of f → ⊥
short text f h e = omega (arith, h, ap length e, eleven f, length-take 11 (drop 23 text), length-drop 23 text)

pub returns-in_err-get : goal.returns-in_err-get
returns-in_err-get c = record { by_column = rw c.from_residual.ensures (λ f e. short c.args.text.now f c.in_err-get.ensures.lookup.0 e) }
