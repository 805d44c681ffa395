-- Reading goes on from line to line. Assumes nothing.
use Rattle.std.proofs.Common.{◌≡◌, ◌≢◌, ℕ, ◌+◌, ◌-◌, ◌≤◌, ◌<◌, ◌==◌, List, [], ◌++◌, length, take, drop, count_by, Option, Some, None, false, Result, Ok, Err, OnErr, MatchResult, sym, ap, ◌∙◌, subst, ⊎_elim, append-nil, arith, length-append, length-drop}
use Rattle.std.specs.BTreeMap.{BTreeMap, Updates}
use Rattle.std.specs.Borrow.{Bor}
use Rattle.std.specs.Cmp.Lexicographic.{slice_cmp}
use Rattle.std.specs.Option.{option_map}
use Rattle.std.specs.Ordering.{is_eq, nat_cmp}
use Rattle.std.proofs.Math.Seq.{take-append_seam, take-length}
use Rattle.std.proofs.Math.ListN.{drop_of_length-le}
use Rattle.std.proofs.lemmas.Bool.{cases_lt, false_from_ne_true}
use Rattle.std.proofs.lemmas.List.{drop-drop, take-append-drop}
use Rattle.std.proofs.lemmas.Map.Text.{is_eq-slice_cmp}
use Rattle.std.proofs.lemmas.Slice.Eq.{bytes_eq-Decides}
use Rattle.scripting.specs.Arguments.{Says}
use Rattle.scripting.specs.Refusing.{Wrong}
use Rattle.scripting.specs.Reading.{Texts, texts_in, StandsFor, FirstLine, GoesOn, Comes, Fails, number_of, entered, Reached, read, failed, refused}
use Rattle.scripting.specs.declared.mistake.Reason.{Reason}
use Rattle.scripting.specs.declared.order.Said.{Said}
use Rattle.scripting.specs.declared.order.Said.TheVariants as saids
use Rattle.scripting.specs.declared.reading.Entry.{Entry}
use Rattle.scripting.specs.declared.reading.Line.{Line}

-- another name compares as another
apart : (name other : List ℕ) → other ≢ name → is_eq (slice_cmp nat_cmp name other) ≡ false
apart name other ne = false_from_ne_true _ (λ same. ne (sym ((bytes_eq-Decides name other).0 (sym (is_eq-slice_cmp name other) ∙ same))))

-- a text that is put under a name in the map
pub stands_for : (m n : BTreeMap (Bor (List ℕ)) (Bor (List ℕ))) (name text : Bor (List ℕ)) → Updates (λ x y. slice_cmp nat_cmp x.now y.now) m n name (Some text) → StandsFor (texts_in m) name.now text.now (texts_in n)
stands_for m n name text h = record {
  this = ap (option_map (λ (x : Bor (List ℕ)). x.now)) h.1;
  others = λ other ne. ap (option_map (λ (x : Bor (List ℕ)). x.now)) (h.2 (record { ref_ptr = (0, 0); now = other }) (apart name.now other ne));
}

-- what is read on with is an end of the bytes after the line
left_over : (said : Option Said) (after rest : List ℕ) → GoesOn said after rest → (n : ℕ) × (rest ≡ drop n after)
left_over None after rest e = (0, e)
left_over (Some (saids.Text name size)) after rest l = (size + (l.count + 1), l.is_rest ∙ drop-drop (l.count + 1) size after)
left_over (Some (saids.Load name to)) after rest e = (0, e)
left_over (Some (saids.Order order)) after rest e = (0, e)

-- an end of the bytes, behind what comes before it
ending : (k : ℕ) (bs : List ℕ) → take (length bs - length (drop k bs)) bs ++ drop k bs ≡ bs
ending k bs = ⊎_elim
    (λ (past : length bs < k). let none : drop k bs ≡ [] = drop_of_length-le bs (omega arith) in rw none (append-nil _ ∙ ap (λ n. take n bs) (omega arith) ∙ take-length bs))
    (λ (within : k ≤ length bs). let e : length bs - length (drop k bs) ≡ k = omega (arith, length-drop k bs) in ap (λ n. take n bs ++ drop k bs) e ∙ take-append-drop k bs)
    (cases_lt (length bs) k)

-- what is read on with, behind what is passed
pub passed : (said : Result (Option Said) Reason) (bytes line after rest : List ℕ) → FirstLine bytes line after → MatchResult said (λ s. GoesOn s after rest) (λ _. rest ≡ after) → take (length bytes - length rest) bytes ++ rest ≡ bytes
passed (Ok said) bytes line after rest f g =
    let l = left_over said after rest g in
    let e : rest ≡ drop (f.count + 1 + l.0) bytes = l.1 ∙ ap (drop l.0) f.is_after ∙ drop-drop l.0 (f.count + 1) bytes in
    subst (λ r. take (length bytes - length r) bytes ++ r ≡ bytes) (sym e) (ending (f.count + 1 + l.0) bytes)
passed (Err reason) bytes line after rest f g =
    let e : rest ≡ drop (f.count + 1) bytes = g ∙ f.is_after in
    subst (λ r. take (length bytes - length r) bytes ++ r ≡ bytes) (sym e) (ending (f.count + 1) bytes)

-- the number of the line that the bytes begin with, from the bytes before it
pub numbered : (script front bytes : List ℕ) → front ++ bytes ≡ script → 1 + count_by (λ b. b == 10) front ≡ number_of script bytes
numbered script front bytes whole =
    let k : length (front ++ bytes) - length bytes ≡ length front = omega (arith, length-append front bytes) in
    let e : take (length (front ++ bytes) - length bytes) (front ++ bytes) ≡ front = ap (λ n. take n (front ++ bytes)) k ∙ take-append_seam front bytes in
    subst (λ s. 1 + count_by (λ b. b == 10) front ≡ number_of s bytes) whole (ap (λ f. 1 + count_by (λ b. b == 10) f) (sym e))

-- one line more is read
pub onward : {script bytes after rest : List ℕ} {texts new : Texts} {lines : List Line} (n : ℕ) (line : List ℕ) (said : Result (Option Said) Reason) (entry : Result (Option Entry) Reason)
    → n ≡ number_of script bytes → Reached script texts bytes lines → FirstLine bytes line after → MatchResult said (λ s. Says line s) (λ r. Wrong line r)
    → MatchResult said (λ s. GoesOn s after rest) (λ _. rest ≡ after)
    → MatchResult said (λ s. MatchResult entry (λ e. Comes texts after s new e) (λ r. Fails texts after s r)) (λ r. entry ≡ Err r)
    → OnErr entry (new ≡ texts)
    → Reached script new rest (lines ++ entered n entry)
onward {script} {bytes} {after} {rest} {texts} {new} {lines} n line (Ok s) (Ok e) is reached first says on comes kept =
    subst (λ m. Reached script new rest (lines ++ entered m (Ok e))) (sym is) (read line s e reached first says on comes)
onward {script} {bytes} {after} {rest} {texts} {new} {lines} n line (Ok s) (Err reason) is reached first says on comes kept =
    subst (λ t. Reached script t rest (lines ++ entered n (Err reason))) (sym kept) (subst (λ m. Reached script texts rest (lines ++ entered m (Err reason))) (sym is) (failed line s reason reached first says on comes))
onward {script} {bytes} {after} {rest} {texts} {new} {lines} n line (Err r) (Ok e) is reached first says on comes kept = absurd (cc)
onward {script} {bytes} {after} {rest} {texts} {new} {lines} n line (Err r) (Err reason) is reached first says on comes kept =
    subst (λ b. Reached script new b (lines ++ entered n (Err reason))) (sym on) (subst (λ t. Reached script t after (lines ++ entered n (Err reason))) (sym kept) (subst (λ e. Reached script texts after (lines ++ entered n e)) (sym comes) (subst (λ m. Reached script texts after (lines ++ entered m (Err r))) (sym is) (refused line r reached first says))))
