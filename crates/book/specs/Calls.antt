-- The calls, and which places they name. Assumes nothing.
use Rattle.std.specs.Prelude.{◌≡◌, ℕ, ◌⊎◌, List, [], ◌∷◌}
use Rattle.series.specs.Words.{Word}
use Rattle.std.specs.Borrow.{Bor}
use Rattle.book.specs.declared.call.Call.{Call as CallCode}
use Rattle.book.specs.declared.call.Call.TheVariants.{Load, Sum, Scale, Multiply, After, Turn, Reduce, Weigh, Compare, Write, Clear}

-- a call with its arguments; the result place is named last
pub data Call : Type 0 where
  load : (text : List ℕ) (to : ℕ) → Call
  sum : (first second to : ℕ) → Call
  scale : (place code to : ℕ) → Call
  multiply : (first second to : ℕ) → Call
  after : (place letter to : ℕ) → Call
  turn : (place to : ℕ) → Call
  reduce : (place to : ℕ) → Call
  weigh : (place : ℕ) (word : Word) → Call
  compare : (first second : ℕ) → Call
  write : (place : ℕ) → Call
  clear : (place : ℕ) → Call

-- the call that a value of the code's type stands for; `bytes` gives its text or word
abbrev pub call_by : {B : Type 0} → (B → List ℕ) → CallCode B → Call
call_by bytes (Load text to) = load (bytes text) to
call_by bytes (Sum p q to) = sum p q to
call_by bytes (Scale p c to) = scale p c to
call_by bytes (Multiply p q to) = multiply p q to
call_by bytes (After p a to) = after p a to
call_by bytes (Turn p to) = turn p to
call_by bytes (Reduce p to) = reduce p to
call_by bytes (Weigh p w) = weigh p (bytes w)
call_by bytes (Compare p q) = compare p q
call_by bytes (Write p) = write p
call_by bytes (Clear p) = clear p

-- the call whose text or word is lent
abbrev pub call_of : CallCode (Bor (List ℕ)) → Call
call_of c = call_by (λ b. b.now) c

-- the places that a call reads or clears
abbrev pub sources : Call → List ℕ
sources (load text to) = []
sources (sum p q to) = p ∷ q ∷ []
sources (scale p c to) = p ∷ []
sources (multiply p q to) = p ∷ q ∷ []
sources (after p a to) = p ∷ []
sources (turn p to) = p ∷ []
sources (reduce p to) = p ∷ []
sources (weigh p w) = p ∷ []
sources (compare p q) = p ∷ q ∷ []
sources (write p) = p ∷ []
sources (clear p) = p ∷ []

-- the place that it makes or clears
abbrev pub results : Call → List ℕ
results (load text to) = to ∷ []
results (sum p q to) = to ∷ []
results (scale p c to) = to ∷ []
results (multiply p q to) = to ∷ []
results (after p a to) = to ∷ []
results (turn p to) = to ∷ []
results (reduce p to) = to ∷ []
results (weigh p w) = []
results (compare p q) = []
results (write p) = []
results (clear p) = p ∷ []

-- x is in the list
abbrev pub Among : {X : Type 0} → List X → X → Type 0
Among [] x = ⊥
Among (y ∷ ys) x = (x ≡ y) ⊎ Among ys x

-- it names the place
abbrev pub Names : Call → ℕ → Type 0
Names c p = Among (sources c) p ⊎ Among (results c) p
