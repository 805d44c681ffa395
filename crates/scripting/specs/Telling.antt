-- Mistakes in words. Assumes nothing.
use Rattle.std.specs.Prelude.{ℕ, List, ◌++◌, codes}
use Rattle.std.specs.Fmt.{decimal}
use Rattle.scripting.specs.declared.mistake.Mistake.{Mistake}
use Rattle.scripting.specs.declared.mistake.Reason.{Reason}
use Rattle.scripting.specs.declared.mistake.Reason.TheVariants.{NoCall, WordMissing, WordExtra, NoNumber, NumberTooLarge, FieldNotOffered, TextCutShort, TextNotEnded, FileUnreadable, NoMemory}

-- why a line is not performed, in ASCII
abbrev pub reason_text : Reason → List ℕ
reason_text NoCall = codes "unknown command"
reason_text WordMissing = codes "an argument is missing"
reason_text WordExtra = codes "too many arguments"
reason_text NoNumber = codes "expected a number"
reason_text NumberTooLarge = codes "a number is too large"
reason_text FieldNotOffered = codes "unknown field"
reason_text TextCutShort = codes "the script ends inside the text"
reason_text TextNotEnded = codes "expected a newline after the text"
reason_text FileUnreadable = codes "the file cannot be read"
reason_text NoMemory = codes "out of memory"

-- the number of the line, and what is wrong with it
abbrev pub mistake_text : Mistake → List ℕ
mistake_text m = codes "line " ++ decimal m.line ++ codes ": " ++ reason_text m.reason
