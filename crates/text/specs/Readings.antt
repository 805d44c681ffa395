-- Which texts a reader accepts, and for what it refuses the others. Assumes nothing.
use Rattle.std.specs.Prelude.{◌≡◌, ℕ, ◌+◌, ◌*◌, ◌<◌, List, [], ◌∷◌, ◌++◌, length}
use Rattle.field.specs.FiniteField.{FiniteField}
use Rattle.series.specs.Tables.{Table}
use Rattle.rows.specs.Layout.{table_at}
use Rattle.columns.specs.Lines.{letter, line}
use Rattle.reader.specs.Items.{Stops}
use Rattle.text.specs.Texts.{Limits, text_of, table_items, body_items}
use Rattle.faults.specs.declared.LoadFault.{LoadFault}
use Rattle.faults.specs.declared.LoadFault.TheVariants.{Beyond}
use Rattle.columns.specs.declared.line.Kind.TheVariants as kind
use Rattle.rows.specs.declared.table.Shape.{Shape}

-- a table within the limits
abbrev pub Sized : {V : Type 0} → Table V → Type 0
Sized T = Limits T.states T.letters

-- the text is that of the table that lies at the front of the memory
pub record Accepts {F V : Type 0} (K : FiniteField V) (value : F → V) (text : List ℕ) (shape : Shape) (work : List F) : Type 0 where
  pub sized : Limits shape.states shape.letters
  pub is : text ≡ text_of K (table_at K value work 0 shape.states shape.letters)

-- the text is refused: in its first line, in a later one of a table of n states and k letters, or for what follows the last
pub data Refuses {V : Type 0} (K : FiniteField V) (text : List ℕ) (f : LoadFault) : Type 0 where
  in_first : Stops (table_items K) (record { line = 1; column = 1 }) text f → Refuses K text f
  in_body : (n k : ℕ) (rest : List ℕ) → Limits n k → text ≡ line (letter kind.Table) (n ∷ k ∷ K.q ∷ []) ++ rest → Stops (body_items K n k) (record { line = 2; column = 1 }) rest f → Refuses K text f
  past : (T : Table V) (more : List ℕ) → Sized T → 0 < length more → text ≡ text_of K T ++ more → f ≡ Beyond (record { line = 5 + T.letters * T.states; column = 1 }) → Refuses K text f
