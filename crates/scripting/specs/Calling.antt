-- The verbs of calls. Assumes nothing.
use Rattle.book.specs.declared.call.Call.{Call}
use Rattle.book.specs.declared.call.Call.TheVariants.{Load, Sum, Scale, Multiply, After, Turn, Reduce, Weigh, Compare, Write, Clear}
use Rattle.scripting.specs.declared.verb.Verb.{Verb}
use Rattle.scripting.specs.declared.verb.Verb.TheVariants as verbs

-- the verb that a script has for a call
abbrev pub verb_of : {B : Type 0} → Call B → Verb
verb_of (Load text to) = verbs.Load
verb_of (Sum p q to) = verbs.Sum
verb_of (Scale p c to) = verbs.Scale
verb_of (Multiply p q to) = verbs.Multiply
verb_of (After p a to) = verbs.After
verb_of (Turn p to) = verbs.Turn
verb_of (Reduce p to) = verbs.Reduce
verb_of (Weigh p word) = verbs.Weigh
verb_of (Compare p q) = verbs.Compare
verb_of (Write p) = verbs.Write
verb_of (Clear p) = verbs.Clear
