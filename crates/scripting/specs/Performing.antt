-- What a script's lines do on shelves, and what is shown of it. Assumes nothing.
use Rattle.std.specs.Prelude.{◌≡◌, ◌≢◌, ℕ, List, [], ◌∷◌, ◌++◌, length, min, take, replicate, codes, vec_items, Ok, Err}
use Rattle.std.specs.Fmt.{decimal}
use Rattle.field.specs.FiniteField.{FiniteField}
use Rattle.residue.specs.Delivered.{bits, fermat}
use Rattle.residue.specs.declared.Residue.{Residue}
use Rattle.byte.specs.Bytes.{bytes}
use Rattle.byte.specs.declared.Byte.{Byte}
use Rattle.command.specs.declared.field_choice.FieldChoice.{FieldChoice}
use Rattle.command.specs.declared.field_choice.FieldChoice.TheVariants as fields
use Rattle.book.specs.Shelves.{State, Opened}
use Rattle.book.specs.Calls.{call_of, call_by}
use Rattle.book.specs.Running.{CarriesOut}
use Rattle.book.specs.Outcomes.{Outcome}
use Rattle.book.specs.declared.call.Request.{Request}
use Rattle.book.specs.declared.outcome.Answer.TheVariants.{Done, Code, Told, Count}
use Rattle.scripting.specs.Naming.{name_of}
use Rattle.scripting.specs.Calling.{verb_of}
use Rattle.scripting.specs.Showing.{outcome_text}
use Rattle.scripting.specs.Mistakes.{wrong}
use Rattle.scripting.specs.declared.order.Given.{Given}
use Rattle.scripting.specs.declared.order.Order.TheVariants as orders
use Rattle.scripting.specs.declared.reading.Entry.TheVariants as entries
use Rattle.scripting.specs.declared.reading.Line.{Line}
use Rattle.scripting.specs.declared.performing.Opening.{Opening}
use Rattle.scripting.specs.declared.performing.Task.{Task}

-- the bytes that a call wrote, by what came of it and the output that it left
abbrev pub written : Outcome → List ℕ → List ℕ
written (Ok (Count n)) output = take n output
written (Ok Done) output = []
written (Ok (Code c)) output = []
written (Ok (Told v)) output = []
written (Err r) output = []

-- what is shown of a call: a line with its number, its word and what came of it, and behind it the bytes that it wrote
abbrev pub shown_of : Task → Outcome → List ℕ → List ℕ
shown_of task o output =
    decimal task.number ++ codes " " ++ name_of (verb_of task.call.now) ++ codes ": " ++ outcome_text o ++ codes "\n"
    ++ written o output

-- the request that the call makes: just that call, with what it is given
pub record Requests (task : Task) (r : Request) : Type 0 where
  pub call : call_of r.call ≡ call_by vec_items task.call.now
  pub work : r.work ≡ task.given.work
  pub output : r.output ≡ task.given.output

module _ {V : Type 0} (K : FiniteField V) {F : Type 0} (value : F → V) where
  -- a shelf is opened: its entries are empty, its memory is so many elements, all zero, and all of work memory and output is lent
  pub record Fresh (n : ℕ) (s : State F) : Type 0 where
    pub empty : Opened s.shelf
    pub zero : F
    pub is_zero : value zero ≡ K.zero
    pub memory : s.shelf.memory ≡ replicate n zero
    pub work : s.lent.work ≡ 8192
    pub output : length s.lent.output ≡ 19593

  -- the calls are made one after another, and what is shown of each follows
  pub data Makes (first : State F) : List Task → State F → List ℕ → Type 0 where
    none : Makes first [] first []
    next : {tasks : List Task} {s : State F} {shown : List ℕ} → Makes first tasks s shown
        → (task : Task) (r : Request) → Requests task r
        → (o : Outcome) (t : State F) → CarriesOut K value s r o t
        → Makes first (tasks ++ task ∷ []) t (shown ++ shown_of task o t.lent.output)

  -- the calls are made on a shelf that is opened with so many elements
  pub record MakesOnFresh (n : ℕ) (tasks : List Task) (shown : List ℕ) : Type 0 where
    pub first : State F
    pub fresh : Fresh n first
    pub left : State F
    pub makes : Makes first tasks left shown

-- the calls are made on a shelf over this field that is opened with so many elements, at most 12,544
abbrev pub MakesOver : FieldChoice → ℕ → List Task → List ℕ → Type 0
MakesOver fields.Bits n = MakesOnFresh bits (λ (x : Residue 2). record { n = x.n; below = x.below }) (min n 12544)
MakesOver fields.Bytes n = MakesOnFresh bytes (λ (x : Byte). record { n = x.n; below = x.below }) (min n 12544)
MakesOver fields.Fermat n = MakesOnFresh fermat (λ (x : Residue 65537). record { n = x.n; below = x.below }) (min n 12544)

-- what the lines show, where a shelf is open, these calls are still to be made on it, and so much is given to each that follows
pub data Shows : Opening → Given → List Task → List Line → List ℕ → Type 0 where
  -- after the last line the calls are made
  last : {o : Opening} {g : Given} {tasks : List Task} (shown : List ℕ) → MakesOver o.field o.elements tasks shown → Shows o g tasks [] shown
  -- the calls are made, and a shelf is opened over another field
  chooses : {o : Opening} {g : Given} {tasks : List Task} {lines : List Line} (shown more : List ℕ) (line : Line) (f : FieldChoice) → line.entry ≡ entries.Order (orders.Field f)
      → MakesOver o.field o.elements tasks shown → Shows (record { field = f; elements = 12544 }) g [] lines more → Shows o g tasks (line ∷ lines) (shown ++ more)
  -- the calls are made, and a shelf with so many elements is opened over the same field
  opens : {o : Opening} {g : Given} {tasks : List Task} {lines : List Line} (shown more : List ℕ) (line : Line) (n : ℕ) → line.entry ≡ entries.Order (orders.Open n)
      → MakesOver o.field o.elements tasks shown → Shows (record { field = o.field; elements = n }) g [] lines more → Shows o g tasks (line ∷ lines) (shown ++ more)
  -- the calls that follow are given so much
  lends : {o : Opening} {g : Given} {tasks : List Task} {lines : List Line} {shown : List ℕ} (line : Line) (h : Given) → line.entry ≡ entries.Order (orders.Lend h)
      → Shows o h tasks lines shown → Shows o g tasks (line ∷ lines) shown
  -- one call more is to be made
  calls : {o : Opening} {g : Given} {tasks : List Task} {lines : List Line} {shown : List ℕ} (line : Line) (task : Task) → line.entry ≡ entries.Order (orders.Call task.call.now)
      → task.number ≡ line.number → task.given ≡ g → Shows o g (tasks ++ task ∷ []) lines shown → Shows o g tasks (line ∷ lines) shown
  -- nothing is done for a line that is a mistake
  mistaken : {o : Opening} {g : Given} {tasks : List Task} {lines : List Line} {shown : List ℕ} (line : Line) → wrong line.number line.entry ≢ [] → Shows o g tasks lines shown → Shows o g tasks (line ∷ lines) shown

-- what a script shows that begins with a shelf over this field
abbrev pub ShowsFrom : FieldChoice → List Line → List ℕ → Type 0
ShowsFrom f lines shown = Shows (record { field = f; elements = 12544 }) (record { work = 8192; output = 19593 }) [] lines shown

-- what a line shows before the lines that follow it
pub record Step (o : Opening) (g : Given) (tasks : List Task) (line : Line) (p : Opening) (h : Given) (left : List Task) (before after : List ℕ) : Type 0 where
  pub text : List ℕ
  pub added : after ≡ before ++ text
  pub onward : (lines : List Line) (more : List ℕ) → Shows p h left lines more → Shows o g tasks (line ∷ lines) (text ++ more)
