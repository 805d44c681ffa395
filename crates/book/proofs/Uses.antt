-- A use, call by call. Assumes nothing.
use Rattle.std.proofs.Common.{◌≡◌, ℕ, zero, suc, ◌+◌, ◌<◌, List, [], ◌∷◌, ◌++◌, map, length, get_or, replicate, sym, refl, ap, ◌∙◌, subst, subst₂, arith, length-append}
use native.Mathlib.Decide.{dec_lt}
use Rattle.std.proofs.lemmas.List.{map-append, get_or-replicate, get_or_past, length-replicate}
use Rattle.text.specs.Facts.{ToldApart}
use Rattle.field.specs.FiniteField.{FiniteField}
use Rattle.book.specs.Shelves.{empty, Shelf, State, Opened, at_place, begins}
use Rattle.book.specs.Calls.{Call}
use Rattle.book.specs.Using.{lending, Use, none, next, Changes, Page, blank, Book}
use Rattle.book.specs.Running as run
use Rattle.book.specs.Running.{given, call_in, Run}
use Rattle.book.specs.declared.call.Request.{Request}
use Rattle.book.specs.Outcomes.{Outcome}
use Rattle.book.proofs.Standing.{Good, Stands, made, cleared}
use Rattle.book.proofs.Books.{InStep, makes, empties, rests, heard, hears_some, fed_last, fed_next}

-- a list with one element for every place
at_all : {X : Type 0} (d : X) (n p : ℕ) → at_place d (replicate n d) p ≡ d
at_all d n zero = refl
at_all d n (suc i) = go (dec_lt i n)
  where
    go : Dec (i < n) → get_or (replicate n d) i d ≡ d
    go (yes l) = get_or-replicate n i d d l
    go (no u) = get_or_past (replicate n d) i d (simp length-replicate (omega arith))

module _ {V : Type 0} (K : FiniteField V) {F : Type 0} (value : F → V) where
  pub use_length : {first s : Shelf F} {cs : List Call} {os : List Outcome} → Use K value first cs os s → length cs ≡ length os
  use_length none = refl
  use_length (next {cs = cs} {os = os} u l c o t d) = length-append cs (c ∷ []) ∙ ap (λ n. n + 1) (use_length u) ∙ sym (length-append os (o ∷ []))

  pub use_booked : {first s : Shelf F} {cs : List Call} {os : List Outcome} → Use K value first cs os s → (B : List (Page V)) × Book K cs os B
  use_booked none = (replicate 8 blank, refl)
  use_booked (next {cs = cs} {os = os} {s = s} u l c o t d) =
      let r = use_booked u in
      let h = hears_some K value (lending s l) t r.0 c o d in
      (h.0, fed_next K (replicate 8 blank) r.0 h.0 cs os c o (use_length u) r.1 h.1)

  -- an empty directory and a blank book
  eight : (m : List F) (p : ℕ) → Good K value m (begins p) (at_place empty (replicate 8 empty) p) (at_place blank (replicate 8 blank) p)
  eight m p = subst₂ (λ a b. Good K value m (begins p) a b) (sym (at_all empty 8 p)) (sym (at_all blank 8 p)) tt

module _ {V : Type 0} (K : FiniteField V) {F : Type 0} (value : F → V) (told_apart : ToldApart K) where
  -- each call keeps the shelf as the book says
  step_stands : (s t : State F) (B B' : List (Page V)) (Changed : ℕ → Type 0) → Stands K value s.shelf B → InStep K value s t B B' Changed → Stands K value t.shelf B'
  step_stands s t B B' Changed i (makes to R j f m l lim same weighs x e) = subst (Stands K value t.shelf) (sym e) (made K value s t B to R j f i l lim same weighs x)
  step_stands s t B B' Changed i (empties p m l x e) = subst (Stands K value t.shelf) (sym e) (cleared K value s.shelf t.shelf B p i l x.entries x.memory)
  step_stands s t B B' Changed i (rests d e) = subst₂ (Stands K value) (sym d) (sym e) i

  pub use_stands : {first s : Shelf F} {cs : List Call} {os : List Outcome} → Opened first → Use K value first cs os s → (B : List (Page V)) → Book K cs os B → Stands K value s B
  use_stands {first} e none B f = subst (Stands K value first) (sym f) (record {
    entries = ap length e;
    pages = refl;
    good = λ p l. subst (λ z. Good K value first.memory (begins p) (at_place empty z p) (at_place blank (replicate 8 blank) p)) (sym e) (eight K value first.memory p);
  })
  use_stands e (next {cs = cs} {os = os} {s = s} u l c o t d) B f =
      let r = fed_last K (replicate 8 blank) B cs os c o (use_length K value u) f in
      let i = use_stands e u r.0 r.1 in
      step_stands (lending s l) t r.0 B (Changes c o) i (heard K value told_apart (lending s l) t r.0 i B c o d r.2)

module _ {V : Type 0} (K : FiniteField V) {F : Type 0} (value : F → V) where
  -- requested calls are a use
  pub run_use : {first t : State F} {rs : List Request} {os : List Outcome} → Run K value first rs os t → Use K value first.shelf (map call_in rs) os t.shelf
  run_use run.none = none
  run_use {first} (run.next {rs = rs} {os = os} {s = s} h r o t d) = subst (λ cs. Use K value first.shelf cs (os ++ o ∷ []) t.shelf) (sym (map-append call_in rs (r ∷ []))) (subst (Use K value first.shelf (map call_in rs ++ call_in r ∷ []) (os ++ o ∷ [])) (sym (ap (λ z. z.shelf) d.back)) (next (run_use h) (given s r).lent (call_in r) o d.left d.does))
