-- The mistakes of a script. Assumes nothing.
use Rattle.std.specs.Prelude.{ℕ, List, [], ◌∷◌, flat_map, Some, None, string_bytes, Option, Vec}
use Rattle.scripting.specs.declared.mistake.Mistake.{Mistake}
use Rattle.scripting.specs.declared.mistake.Reason.TheVariants.{FileUnreadable}
use Rattle.scripting.specs.declared.reading.Line.{Line}
use Rattle.scripting.specs.declared.reading.Entry.{Entry}
use Rattle.scripting.specs.declared.reading.Entry.TheVariants.{Order, File, Mistaken}
use Rattle.std.specs.declared.alloc.Global.{Global}
use Rattle.book.specs.declared.call.Call.TheVariants.{Load}
use Rattle.scripting.specs.declared.order.Order.TheVariants.{Call}

-- what is wrong with a line; a file that was not given is a mistake
abbrev pub wrong : ℕ → Entry → List Mistake
wrong n (Order order) = []
wrong n (File name to) = record { line = n; reason = FileUnreadable } ∷ []
wrong n (Mistaken reason) = record { line = n; reason = reason } ∷ []

-- the mistakes of the lines, in their order
abbrev pub mistakes_of : List Line → List Mistake
mistakes_of ls = flat_map (λ (l : Line). wrong l.number l.entry) ls

-- the name of the file that a line still wants
abbrev pub file_in : Entry → Option (List ℕ)
file_in (Order order) = None
file_in (File name to) = Some (string_bytes name)
file_in (Mistaken reason) = None

-- the line once the text of its file is given: a load of that text; no other line changes
abbrev pub given_text : Vec ℕ Global → Entry → Entry
given_text text (Order order) = Order order
given_text text (File name to) = Order (Call (Load text to))
given_text text (Mistaken reason) = Mistaken reason
