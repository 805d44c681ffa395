-- The words that a line can begin with. Assumes nothing.
use Rattle.std.specs.Prelude.{ℕ, List, codes}
use Rattle.scripting.specs.declared.verb.Verb.{Verb}
use Rattle.scripting.specs.declared.verb.Verb.TheVariants.{Field, Open, Lend, Text, Load, Sum, Scale, Multiply, After, Turn, Reduce, Weigh, Compare, Write, Clear}

-- the verb's word, in ASCII
abbrev pub name_of : Verb → List ℕ
name_of Field = codes "field"
name_of Open = codes "open"
name_of Lend = codes "lend"
name_of Text = codes "text"
name_of Load = codes "load"
name_of Sum = codes "sum"
name_of Scale = codes "scale"
name_of Multiply = codes "multiply"
name_of After = codes "after"
name_of Turn = codes "turn"
name_of Reduce = codes "reduce"
name_of Weigh = codes "weigh"
name_of Compare = codes "compare"
name_of Write = codes "write"
name_of Clear = codes "clear"
