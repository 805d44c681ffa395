-- Why a line is refused: the first thing in it that is wrong. Assumes nothing.
use Rattle.std.specs.Prelude.{◌≡◌, ◌≢◌, ℕ, zero, suc, ◌^◌, ◌<◌, ◌≤◌, ◌⊎◌, List, [], ◌∷◌, slice_index}
use Rattle.command.specs.Choices.{q_of}
use Rattle.command.specs.declared.field_choice.FieldChoice.{FieldChoice}
use Rattle.scripting.specs.Splitting.{Blank, NextWord}
use Rattle.scripting.specs.Numerals.{Numeral, Writes, Numbers, read_on}
use Rattle.scripting.specs.Naming.{name_of}
use Rattle.scripting.specs.declared.mistake.Reason.{Reason}
use Rattle.scripting.specs.declared.mistake.Reason.TheVariants.{NoCall, WordMissing, WordExtra, NoNumber, NumberTooLarge, FieldNotOffered, NoMemory}
use Rattle.scripting.specs.declared.verb.Verb.{Verb}
use Rattle.scripting.specs.declared.verb.Verb.TheVariants.{Field, Open, Lend, Text, Load, Sum, Scale, Multiply, After, Turn, Reduce, Weigh, Compare, Write, Clear}

-- the word is no numeral, or its number reaches the bound
abbrev pub WrongNumber : ℕ → List ℕ → Reason → Type 0
WrongNumber bound word NoNumber = Numeral word → ⊥
WrongNumber bound word NumberTooLarge = Numeral word × (bound ≤ read_on 0 word)
WrongNumber bound word _ = ⊥

-- a word is missing
abbrev pub NoWord : List ℕ → Reason → Type 0
NoWord line WordMissing = Blank line
NoWord line _ = ⊥

-- there is one word more
abbrev pub NoEnd : List ℕ → Reason → Type 0
NoEnd line WordExtra = (word : List ℕ) × (rest : List ℕ) × NextWord line word rest
NoEnd line _ = ⊥

-- the line is not so many numbers
pub data NoNumbers : ℕ → List ℕ → Reason → Type 0 where
  missing : {n : ℕ} {line : List ℕ} {r : Reason} → NoWord line r → NoNumbers (suc n) line r
  wrong : {n : ℕ} {line : List ℕ} {r : Reason} (word rest : List ℕ) → NextWord line word rest → WrongNumber (2 ^ 64) word r → NoNumbers (suc n) line r
  later : {n : ℕ} {line rest : List ℕ} {r : Reason} (word : List ℕ) (m : ℕ) → NextWord line word rest → Writes word m → NoNumbers n rest r → NoNumbers (suc n) line r
  extra : {line : List ℕ} {r : Reason} → NoEnd line r → NoNumbers zero line r

-- the line is not letters alone, or there is no memory for them
pub data NoLetters : List ℕ → Reason → Type 0 where
  wrong_letter : {line : List ℕ} {r : Reason} (word rest : List ℕ) → NextWord line word rest → WrongNumber 256 word r → NoLetters line r
  later_letter : {line rest : List ℕ} {r : Reason} (word : List ℕ) (m : ℕ) → NextWord line word rest → Writes word m → NoLetters rest r → NoLetters line r
  no_memory : {line : List ℕ} → NoLetters line NoMemory

-- the line is not a name and then a number
abbrev pub NotNamed : List ℕ → Reason → Type 0
NotNamed line r = NoWord line r ⊎ ((name : List ℕ) × (after : List ℕ) × NextWord line name after × NoNumbers 1 after r)

-- the line is not a place and then letters
abbrev pub NotWeighed : List ℕ → Reason → Type 0
NotWeighed line r = NoWord line r ⊎ ((word : List ℕ) × (rest : List ℕ) × NextWord line word rest × (WrongNumber (2 ^ 64) word r ⊎ ((p : ℕ) × Writes word p × NoLetters rest r)))

-- the one number of the line is that of no field that is offered
abbrev pub NotOffered : List ℕ → Reason → Type 0
NotOffered line FieldNotOffered = (q : ℕ) × Numbers line (q ∷ []) × ((f : FieldChoice) → q_of f ≢ q)
NotOffered line _ = ⊥

-- the one number of the line is more than all elements of shelf memory
abbrev pub TooMany : List ℕ → Reason → Type 0
TooMany line NumberTooLarge = (n : ℕ) × Numbers line (n ∷ []) × (12544 < n)
TooMany line _ = ⊥

-- the line is numbers, and the second is no letter
abbrev pub NoLetter : List ℕ → Reason → Type 0
NoLetter line NumberTooLarge = (ns : List ℕ) × Numbers line ns × (256 ≤ slice_index ns 1)
NoLetter line _ = ⊥

-- the rest of the line is not what the verb takes
abbrev pub WrongArguments : Verb → List ℕ → Reason → Type 0
WrongArguments Field rest r = NoNumbers 1 rest r ⊎ NotOffered rest r
WrongArguments Open rest r = (Blank rest → ⊥) × (NoNumbers 1 rest r ⊎ TooMany rest r)
WrongArguments Lend rest r = NoNumbers 2 rest r
WrongArguments Text rest r = NotNamed rest r
WrongArguments Load rest r = NotNamed rest r
WrongArguments Sum rest r = NoNumbers 3 rest r
WrongArguments Scale rest r = NoNumbers 3 rest r
WrongArguments Multiply rest r = NoNumbers 3 rest r
WrongArguments After rest r = NoNumbers 3 rest r ⊎ NoLetter rest r
WrongArguments Turn rest r = NoNumbers 2 rest r
WrongArguments Reduce rest r = NoNumbers 2 rest r
WrongArguments Weigh rest r = NotWeighed rest r
WrongArguments Compare rest r = NoNumbers 2 rest r
WrongArguments Write rest r = NoNumbers 1 rest r
WrongArguments Clear rest r = NoNumbers 1 rest r

-- the line is wrong: its first word, which begins no comment, is no verb, or the rest is not what the verb takes
pub data Wrong (line : List ℕ) : Reason → Type 0 where
  unknown : (word rest : List ℕ) → NextWord line word rest → slice_index word 0 ≢ 35 → ((v : Verb) → name_of v ≢ word) → Wrong line NoCall
  arguments : {r : Reason} (v : Verb) (word rest : List ℕ) → NextWord line word rest → slice_index word 0 ≢ 35 → name_of v ≡ word → WrongArguments v rest r → Wrong line r
