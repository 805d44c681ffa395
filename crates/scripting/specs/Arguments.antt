-- What a line says. Assumes nothing.
use Rattle.std.specs.Prelude.{◌≡◌, ℕ, ◌≤◌, ◌⊎◌, List, [], ◌∷◌, Option, Some, None, Vec, vec_items, slice_index}
use Rattle.std.specs.declared.alloc.Global.{Global}
use Rattle.book.specs.declared.call.Call.{Call}
use Rattle.book.specs.declared.call.Call.TheVariants as calls
use Rattle.scripting.specs.Splitting.{Blank, NextWord}
use Rattle.scripting.specs.Numerals.{Numbers}
use Rattle.scripting.specs.Naming.{name_of}
use Rattle.scripting.specs.Calling.{verb_of}
use Rattle.scripting.specs.declared.verb.Verb.{Verb}
use Rattle.scripting.specs.declared.verb.Verb.TheVariants as verbs
use Rattle.command.specs.Choices.{q_of}
use Rattle.scripting.specs.declared.order.Order.{Order}
use Rattle.scripting.specs.declared.order.Order.TheVariants as orders
use Rattle.scripting.specs.declared.order.Said.{Said}
use Rattle.scripting.specs.declared.order.Said.TheVariants as saids

-- the rest of the line holds the call's arguments; a load's are not numbers alone
abbrev pub Arguments : Call (Vec ℕ Global) → List ℕ → Type 0
Arguments (calls.Load text to) rest = ⊥
Arguments (calls.Sum p q to) rest = Numbers rest (p ∷ q ∷ to ∷ [])
Arguments (calls.Scale p c to) rest = Numbers rest (p ∷ c ∷ to ∷ [])
Arguments (calls.Multiply p q to) rest = Numbers rest (p ∷ q ∷ to ∷ [])
Arguments (calls.After p a to) rest = Numbers rest (p ∷ a ∷ to ∷ [])
Arguments (calls.Turn p to) rest = Numbers rest (p ∷ to ∷ [])
Arguments (calls.Reduce p to) rest = Numbers rest (p ∷ to ∷ [])
Arguments (calls.Weigh p word) rest = Numbers rest (p ∷ vec_items word)
Arguments (calls.Compare p q) rest = Numbers rest (p ∷ q ∷ [])
Arguments (calls.Write p) rest = Numbers rest (p ∷ [])
Arguments (calls.Clear p) rest = Numbers rest (p ∷ [])

-- the line is the verb, and then the rest
abbrev pub Begun : List ℕ → Verb → List ℕ → Type 0
Begun line verb rest = NextWord line (name_of verb) rest

-- what a shelf is opened with: all of its memory, or so many elements
abbrev pub Opened : List ℕ → ℕ → Type 0
Opened rest n = (Blank rest × (n ≡ 12544)) ⊎ (Numbers rest (n ∷ []) × (n ≤ 12544))

-- a name, and then a number
abbrev pub Named : List ℕ → List ℕ → ℕ → Type 0
Named rest name n = (after : List ℕ) × NextWord rest name after × Numbers after (n ∷ [])

-- the verb that says this
abbrev pub verb_by : Order → Verb
verb_by (orders.Field offered) = verbs.Field
verb_by (orders.Open n) = verbs.Open
verb_by (orders.Lend given) = verbs.Lend
verb_by (orders.Call call) = verb_of call

abbrev pub verb_in : Said → Verb
verb_in (saids.Text name size) = verbs.Text
verb_in (saids.Load name to) = verbs.Load
verb_in (saids.Order order) = verb_by order

-- the rest of the line, behind the verb, is what this takes
abbrev pub TakesOrder : Order → List ℕ → Type 0
TakesOrder (orders.Field offered) rest = Numbers rest (q_of offered ∷ [])
TakesOrder (orders.Open n) rest = Opened rest n
TakesOrder (orders.Lend given) rest = Numbers rest (given.work ∷ given.output ∷ [])
TakesOrder (orders.Call call) rest = Arguments call rest

abbrev pub Takes : Said → List ℕ → Type 0
Takes (saids.Text name size) rest = Named rest name.now size
Takes (saids.Load name to) rest = Named rest name.now to
Takes (saids.Order order) rest = TakesOrder order rest

-- the line is passed over: it is blank, or a comment
abbrev pub Silent : List ℕ → Type 0
Silent line = Blank line ⊎ ((word : List ℕ) × (rest : List ℕ) × NextWord line word rest × (slice_index word 0 ≡ 35))

-- what the line says, if anything
abbrev pub Says : List ℕ → Option Said → Type 0
Says line None = Silent line
Says line (Some said) = (rest : List ℕ) × Begun line (verb_in said) rest × Takes said rest
