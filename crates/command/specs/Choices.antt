-- The fields that the programs offer. Assumes nothing.
use Rattle.std.specs.Prelude.{ℕ, List, [], ◌∷◌}
use Rattle.command.specs.declared.field_choice.FieldChoice.{FieldChoice}
use Rattle.command.specs.declared.field_choice.FieldChoice.TheVariants.{Bits, Bytes, Fermat}

-- how many elements each has
abbrev pub q_of : FieldChoice → ℕ
q_of Bits = 2
q_of Bytes = 256
q_of Fermat = 65537

-- the same in a column of 11 bytes, with spaces in front
abbrev pub column_of : FieldChoice → List ℕ
column_of Bits = 32 ∷ 32 ∷ 32 ∷ 32 ∷ 32 ∷ 32 ∷ 32 ∷ 32 ∷ 32 ∷ 32 ∷ 50 ∷ []
column_of Bytes = 32 ∷ 32 ∷ 32 ∷ 32 ∷ 32 ∷ 32 ∷ 32 ∷ 32 ∷ 50 ∷ 53 ∷ 54 ∷ []
column_of Fermat = 32 ∷ 32 ∷ 32 ∷ 32 ∷ 32 ∷ 32 ∷ 54 ∷ 53 ∷ 53 ∷ 51 ∷ 55 ∷ []
