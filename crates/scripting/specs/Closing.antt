-- What closes a shelf, and what is shown up to there. Assumes nothing.
use Rattle.std.specs.Prelude.{◌≡◌, ℕ, List, [], ◌∷◌, ◌++◌, ◌+◌, ◌<◌, ◌≤◌, length, min, Option, Some, None}
use Rattle.field.specs.FiniteField.{FiniteField}
use Rattle.command.specs.declared.field_choice.FieldChoice.{FieldChoice}
use Rattle.scripting.specs.Performing.{Shows, MakesOver, MakesOnFresh}
use Rattle.scripting.specs.declared.order.Given.{Given}
use Rattle.scripting.specs.declared.reading.Line.{Line}
use Rattle.scripting.specs.declared.performing.Opening.{Opening}
use Rattle.scripting.specs.declared.performing.Task.{Task}
use Rattle.scripting.specs.declared.performing.Close.{Close}
use Rattle.scripting.specs.declared.performing.Close.TheVariants as closes
use Rattle.scripting.specs.declared.performing.Next.{Next}
use Rattle.scripting.specs.declared.performing.Next.TheVariants as nexts

-- the shelf that is opened, where one over this field was open
abbrev pub opened : FieldChoice → Close → Option Opening
opened f (closes.Field g) = Some (record { field = g; elements = 12544 })
opened f (closes.Open n) = Some (record { field = f; elements = n })
opened f closes.End = None

-- how many lines it takes
abbrev pub lines_of : Close → ℕ
lines_of (closes.Field f) = 1
lines_of (closes.Open n) = 1
lines_of closes.End = 0

-- the lines that are left are fewer by those that it takes, or by more
abbrev pub Passed : Close → List Line → List Line → Type 0
Passed c lines rest = length rest + lines_of c ≤ length lines

-- what the lines show on the shelf that is opened; without one, nothing
abbrev pub ShowsOn : Option Opening → Given → List Line → List ℕ → Type 0
ShowsOn (Some o) g lines shown = Shows o g [] lines shown
ShowsOn None g lines shown = shown ≡ []

-- what the lines show, by what comes next and what the rest shows: one call more is to be made; or the calls are made, and
-- another shelf is opened, or the script ends
abbrev pub Leads : Given → List Line → Next → Given → List Line → Type 0
Leads g lines (nexts.Call task) h rest = (length rest < length lines) × ((o : Opening) (tasks : List Task) (more : List ℕ) → Shows o h (tasks ++ task ∷ []) rest more → Shows o g tasks lines more)
Leads g lines (nexts.Close c) h rest = Passed c lines rest × ((o : Opening) (tasks : List Task) (text more : List ℕ) → MakesOver o.field o.elements tasks text → ShowsOn (opened o.field c) h rest more → Shows o g tasks lines (text ++ more))

-- what is added is what the lines show from this opening on, up to that one and the rest
pub record Performs (o : Opening) (g : Given) (lines : List Line) (p : Option Opening) (h : Given) (rest : List Line) (before after : List ℕ) : Type 0 where
  pub text : List ℕ
  pub added : after ≡ before ++ text
  pub onward : (more : List ℕ) → ShowsOn p h rest more → Shows o g [] lines (text ++ more)

-- the same on shelves over F, of whichever field that is
abbrev pub PerformsOver : {V : Type 0} → FiniteField V → {F : Type 0} → (F → V) → ℕ → Given → List Line → Close → Given → List Line → List ℕ → List ℕ → Type 0
PerformsOver K value n g lines c h rest before after =
    (f : FieldChoice) → ((m : ℕ) (tasks : List Task) (text : List ℕ) → MakesOnFresh K value (min m 12544) tasks text → MakesOver f m tasks text)
    → Performs (record { field = f; elements = n }) g lines (opened f c) h rest before after
