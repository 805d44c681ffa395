-- What comes of a script. Assumes nothing.
use Rattle.std.specs.Prelude.{◌≡◌, ℕ, List, [], Vec, vec_items, Result, Ok, Err}
use Rattle.std.specs.declared.alloc.Global.{Global}
use Rattle.command.specs.declared.field_choice.FieldChoice.{FieldChoice}
use Rattle.command.specs.declared.field_choice.FieldChoice.TheVariants.{Fermat}
use Rattle.scripting.specs.Mistakes.{mistakes_of}
use Rattle.scripting.specs.Performing.{ShowsFrom}
use Rattle.scripting.specs.Reading.{ReadAs}
use Rattle.scripting.specs.declared.performing.Failure.{Failure}
use Rattle.scripting.specs.declared.performing.Failure.TheVariants.{Mistaken, NoMemory}
use Rattle.scripting.specs.declared.reading.Line.{Line}

-- a script without a mistake is performed, from a shelf over this field on, and otherwise its mistakes come
abbrev pub Judged : FieldChoice → List Line → Result (Vec ℕ Global) Failure → Type 0
Judged field lines (Ok shown) = (mistakes_of lines ≡ []) × ShowsFrom field lines (vec_items shown)
Judged field lines (Err (Mistaken found)) = (vec_items found ≡ mistakes_of lines) × (mistakes_of lines ≡ [] → ⊥)
Judged field lines (Err (NoMemory e)) = Unit {0}

-- the lines that the script is read as are judged, from a shelf over GF(65537) on; where there is no memory, nothing is said
abbrev pub JudgedAsRead : List ℕ → Result (Vec ℕ Global) Failure → Type 0
JudgedAsRead script (Err (NoMemory e)) = Unit {0}
JudgedAsRead script result = (lines : List Line) × ReadAs script lines × Judged Fermat lines result
