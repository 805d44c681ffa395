-- What a whole script says: its lines by their numbers, and which text a name stands for. Assumes nothing.
use Rattle.std.specs.Prelude.{◌≡◌, ◌≢◌, ℕ, ◌+◌, ◌-◌, ◌<◌, ◌==◌, List, [], ◌∷◌, ◌++◌, length, take, drop, count_by, slice_index, Option, Some, None, Result, Ok, Err, Vec, vec_items, string_bytes}
use Rattle.std.specs.declared.alloc.Global.{Global}
use Rattle.std.specs.BTreeMap.{BTreeMap, get_by}
use Rattle.std.specs.Borrow.{Bor}
use Rattle.std.specs.Cmp.Lexicographic.{slice_cmp}
use Rattle.std.specs.Option.{option_map}
use Rattle.std.specs.Ordering.{nat_cmp}
use Rattle.std.specs.Str.{IsUtf8}
use Rattle.std.specs.declared.string.String.{String}
use Rattle.book.specs.declared.call.Call.TheVariants as calls
use Rattle.scripting.specs.Splitting.{First, Later, Block}
use Rattle.scripting.specs.Arguments.{Says}
use Rattle.scripting.specs.Refusing.{Wrong}
use Rattle.scripting.specs.declared.mistake.Reason.{Reason}
use Rattle.scripting.specs.declared.mistake.Reason.TheVariants.{TextCutShort, TextNotEnded, FileUnreadable, NoMemory}
use Rattle.scripting.specs.declared.order.Order.TheVariants as orders
use Rattle.scripting.specs.declared.order.Said.{Said}
use Rattle.scripting.specs.declared.order.Said.TheVariants as saids
use Rattle.scripting.specs.declared.reading.Entry.{Entry}
use Rattle.scripting.specs.declared.reading.Entry.TheVariants.{Order, File, Mistaken}
use Rattle.scripting.specs.declared.reading.Line.{Line}

-- the text that each name stands for, if it stands for one
abbrev pub Texts : Type 0
Texts = List ℕ → Option (List ℕ)

-- the texts that a map holds, by their names
abbrev pub texts_in : BTreeMap (Bor (List ℕ)) (Bor (List ℕ)) → Texts
texts_in m = λ name. option_map (λ x. x.now) (get_by (λ k. slice_cmp nat_cmp name k.now) m)

-- from now on the name stands for this text, and every other name for what it stood for
pub record StandsFor (old : Texts) (name text : List ℕ) (new : Texts) : Type 0 where
  pub this : new name ≡ Some text
  pub others : (other : List ℕ) → other ≢ name → new other ≡ old other

-- the first line of the bytes, of which there are some, and what follows its newline
pub record FirstLine (bytes line after : List ℕ) : Type 0 where
  pub more : 0 < length bytes
  pub count : ℕ
  pub ends : First 10 bytes count
  pub is_line : line ≡ take count bytes
  pub is_after : after ≡ drop (count + 1) bytes

-- where a line says this, the next begins here: behind its text and the rest of the line that the text ends in, else right after it
abbrev pub GoesOn : Option Said → List ℕ → List ℕ → Type 0
GoesOn None after rest = rest ≡ after
GoesOn (Some (saids.Text name size)) after rest = Later (drop size after) rest
GoesOn (Some (saids.Load name to)) after rest = rest ≡ after
GoesOn (Some (saids.Order order)) after rest = rest ≡ after

-- a load of the text that the name stands for, else of the file of that name
abbrev pub Loads : Option (List ℕ) → List ℕ → ℕ → Entry → Type 0
Loads (Some bytes) name to entry = (text : Vec ℕ Global) × (vec_items text ≡ bytes) × (entry ≡ Order (orders.Call (calls.Load text to)))
Loads None name to entry = (file : String Global) × (string_bytes file ≡ name) × (entry ≡ File file to)

-- what comes of a line that says this: which text a name stands for from now on, and the entry, if it has one
abbrev pub Comes : Texts → List ℕ → Option Said → Texts → Option Entry → Type 0
Comes texts after None new entry = (new ≡ texts) × (entry ≡ None)
Comes texts after (Some (saids.Text name size)) new entry = (text : List ℕ) × Block after size text × StandsFor texts name.now text new × (entry ≡ None)
Comes texts after (Some (saids.Load name to)) new entry = (e : Entry) × (new ≡ texts) × (entry ≡ Some e) × Loads (texts name.now) name.now to e
Comes texts after (Some (saids.Order order)) new entry = (new ≡ texts) × (entry ≡ Some (Order order))

-- why so many bytes are no text: they are cut short, or neither a newline nor the end follows them
abbrev pub NoBlock : List ℕ → ℕ → Reason → Type 0
NoBlock bytes size TextCutShort = length bytes < size
NoBlock bytes size TextNotEnded = (size < length bytes) × (slice_index bytes size ≢ 10)
NoBlock bytes size _ = ⊥

-- why there is no load: the name stands for no text and is not UTF-8, as that of a file has to be, or there is no memory
abbrev pub NoLoad : Option (List ℕ) → List ℕ → Reason → Type 0
NoLoad text name NoMemory = Unit {0}
NoLoad None name FileUnreadable = IsUtf8 name → ⊥
NoLoad text name _ = ⊥

-- why nothing comes of a line that says this
abbrev pub Fails : Texts → List ℕ → Option Said → Reason → Type 0
Fails texts after None reason = ⊥
Fails texts after (Some (saids.Text name size)) NoMemory = Unit {0}
Fails texts after (Some (saids.Text name size)) reason = NoBlock after size reason
Fails texts after (Some (saids.Load name to)) reason = NoLoad (texts name.now) name.now reason
Fails texts after (Some (saids.Order order)) reason = ⊥

-- the number of the line that these bytes begin with: one more than the newlines before it
abbrev pub number_of : List ℕ → List ℕ → ℕ
number_of script bytes = 1 + count_by (λ b. b == 10) (take (length script - length bytes) script)

-- the line of that number, if it has an entry; a reason is entered as a mistake
abbrev pub entered : ℕ → Result (Option Entry) Reason → List Line
entered n (Ok None) = []
entered n (Ok (Some entry)) = record { number = n; entry = entry } ∷ []
entered n (Err reason) = record { number = n; entry = Mistaken reason } ∷ []

-- a script is read so far: what each name stands for by now, the bytes that are left, and the lines that have an entry
pub data Reached (script : List ℕ) : Texts → List ℕ → List Line → Type 0 where
  -- at first no name stands for a text
  begun : {texts : Texts} → ((name : List ℕ) → texts name ≡ None) → Reached script texts script []
  -- what the next line says comes about, if it says something
  read : {texts new : Texts} {bytes after rest : List ℕ} {lines : List Line} (line : List ℕ) (said : Option Said) (entry : Option Entry) → Reached script texts bytes lines → FirstLine bytes line after → Says line said → GoesOn said after rest → Comes texts after said new entry → Reached script new rest (lines ++ entered (number_of script bytes) (Ok entry))
  -- what the next line says does not come about
  failed : {texts : Texts} {bytes after rest : List ℕ} {lines : List Line} (line : List ℕ) (said : Option Said) (reason : Reason) → Reached script texts bytes lines → FirstLine bytes line after → Says line said → GoesOn said after rest → Fails texts after said reason → Reached script texts rest (lines ++ entered (number_of script bytes) (Err reason))
  -- the next line is wrong, for this reason
  refused : {texts : Texts} {bytes after : List ℕ} {lines : List Line} (line : List ℕ) (reason : Reason) → Reached script texts bytes lines → FirstLine bytes line after → Wrong line reason → Reached script texts after (lines ++ entered (number_of script bytes) (Err reason))

-- the script is read to its end as these lines
abbrev pub ReadAs : List ℕ → List Line → Type 0
ReadAs script lines = (texts : Texts) × Reached script texts [] lines
