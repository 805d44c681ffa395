-- Uses follow the book. Assumes nothing.
use Rattle.std.proofs.Common.{◌≡◌, ℕ, ◌+◌, ◌-◌, ◌<◌, ◌≤◌, List, [], ◌∷◌, ◌++◌, length, get_or, take, replicate, sym, refl, ap, ◌∙◌, subst, ap₂, inl, inr, arith, Some, Ok}
use Rattle.std.proofs.lemmas.List.{take_at, take-append-drop}
use Rattle.std.proofs.lemmas.Option.{slice_get_within}
use Rattle.std.specs.List.{slice_get}
use Rattle.field.specs.FiniteField.{FiniteField}
use Rattle.series.specs.Words.{Word, Over}
use Rattle.series.specs.Tables.{Table, weight, SameTable}
use Rattle.series.specs.Comparing.{Alike, LeastDifference}
use Rattle.series.specs.Reducing.{Reduced}
use Rattle.series.proofs.Weights.{same_weight}
use Rattle.series.proofs.KeptWords.{difference_short}
use Rattle.series.proofs.ReducedForms.{reduced_weight, reduced_least, reduced_same}
use Rattle.rows.specs.Layout.{table_at}
use Rattle.text.specs.Facts.{ToldApart}
use Rattle.book.specs.Shelves.{Entry, empty, filled, Shelf, at_place, entry, states_of, letters_of, begins, table}
use Rattle.book.specs.Calls.{Call, reduce, weigh, compare}
use Rattle.book.specs.Verdicts.{kind_number, Says, reported}
use Rattle.book.specs.Doing.{Makes}
use Rattle.book.specs.Using.{lending, Leads, Course, Opening, Untouched, next, Page, blank, holds, page, Book}
use Rattle.book.specs.Running.{taken_back}
use Rattle.book.specs.Settling.{OutcomesAreSettled}
use Rattle.book.specs.RoundTrips.{LoadAndWriteUndoEachOther}
use Rattle.book.specs.Law.{SamePage, Matches, Reports, Reduces, Follows, Smallest, FollowsThroughout, UsesFollowTheBook}
use Rattle.book.specs.declared.verdict.Verdict.{Verdict}
use Rattle.book.specs.declared.outcome.Answer.TheVariants.{Code, Told}
use Rattle.book.specs.Outcomes.{Outcome}
use Rattle.book.proofs.Places.{at_same}
use Rattle.book.proofs.Blocks.{same_sym, same_trans}
use Rattle.book.proofs.Accepting.{placed, full, weigh_over}
use Rattle.book.proofs.Standing.{Good, Stands, anywhere, source}
use Rattle.book.proofs.Uses.{use_booked, use_stands, run_use}
use Rattle.book.proofs.Courses.{use_passed, run_passed, course_of_calls, came, onward, each, use_joined, untouched_to}
use Rattle.book.proofs.Staying.{Stays, stays_table, stands_range, untouched_stays, use_memory}

module _ {V : Type 0} (K : FiniteField V) (S T : Table V) where
  -- a verdict record on two tables reports of them as the law says
  says_reports : (v : Verdict) → Says K S T v → Reports K S T v
  says_reports v (inl a) =
      let zero : kind_number v.kind ≡ 0 = ap kind_number a.kind in
      record {
        kinds = inl zero;
        exactly = (λ e. absurd (omega (arith, zero)), λ w. absurd (w.2 (a.alike w.0 w.1)));
        least = λ e. absurd (omega (arith, zero));
        short = λ e. absurd (omega (arith, zero));
      }
  says_reports v (inr d) = record {
    kinds = inr (ap kind_number d.kind);
    exactly = (λ e. (d.word, d.least.over, d.least.differs), λ w. ap kind_number d.kind);
    least = λ e. subst (LeastDifference K S T) (sym it) d.least;
    short = λ e. subst (λ w. length w < S.states + T.states) (sym it) (difference_short K S T d.word d.least);
  }
    where
      it : reported v ≡ d.word
      it = ap₂ take d.length_word d.letters ∙ take_at d.word (replicate (31 - length d.word) 0) (length d.word) refl

  -- two pages that match what lies at one place
  match_same : (e : Entry) (g h : Page V) → Matches K e g S → Matches K e h S → SamePage g h
  match_same empty blank blank a b = tt
  match_same empty blank (holds j f) a b = absurd b
  match_same empty (holds j f) h a b = absurd a
  match_same (filled n k) blank h a b = absurd a
  match_same (filled n k) (holds i f) blank a b = absurd b
  match_same (filled n k) (holds i f) (holds j g) a b = (sym a.0 ∙ b.0, λ w o. let o' : Over k w = subst (λ m. Over m w) (sym a.0) o in sym (a.1 w o') ∙ b.1 w o')

module _ {V : Type 0} (K : FiniteField V) {F : Type 0} (value : F → V) (told_apart : ToldApart K) where
  good_matches : (m : List F) (b : ℕ) (e : Entry) (g : Page V) → Good K value m b e g → Matches K e g (table_at K value m b (states_of e) (letters_of e))
  good_matches m b empty blank h = tt
  good_matches m b empty (holds j f) h = h
  good_matches m b (filled n k) blank h = h
  good_matches m b (filled n k) (holds j f) h = (h.1, h.2)

  -- a use's reduce left a reduced form, and it lies there
  record Form (R : Table V) : Type 0 where
    k : ℕ
    f : Word → V
    R₀ : Table V
    same : SameTable R R₀
    form : Reduced K k f R₀

  form_of : (R : Table V) → Reduces K value R → Form R
  form_of R r = record {
    k = letters_of (entry r.before r.place);
    f = weight K (table K value r.before r.place);
    R₀ = R₀;
    same = subst (λ z. SameTable z R₀) (sym r.is) (same_trans (table K value r.there r.to) (table K value r.left.shelf r.to) R₀ (stays_table K value r.to r.left.shelf r.there stays) made);
    form = r.does.1.1.1;
  }
    where
      R₀ : Table V
      R₀ = r.does.1.1.0

      makes : Makes K value (lending r.before r.lent) r.to R₀ r.left
      makes = r.does.1.1.2

      eight : length r.before.entries ≡ 8
      eight = let b = use_booked K value r.use_of.uses in (use_stands K value told_apart r.use_of.opened r.use_of.uses b.0 b.1).entries

      here : entry r.left.shelf r.to ≡ filled R₀.states R₀.letters
      here = ap (λ z. at_place empty z r.to) makes.entries ∙ at_same empty r.before.entries r.to (filled R₀.states R₀.letters) (placed K (lending r.before r.lent) (reduce r.place r.to) r.does.0 r.to (inr (inl refl))) eight

      made : SameTable (table K value r.left.shelf r.to) R₀
      made = subst (λ e. SameTable (table_at K value r.left.shelf.memory (begins r.to) (states_of e) (letters_of e)) R₀) (sym here) makes.numbers.same

      stays : Stays K value r.to r.left.shelf r.there
      stays = untouched_stays K value told_apart r.to r.left.shelf r.there r.since (r.cs ++ reduce r.place r.to ∷ []) (r.os ++ Ok r.answer ∷ [])
          (record { first = r.use_of.first; opened = r.use_of.opened; uses = next r.use_of.uses r.lent (reduce r.place r.to) (Ok r.answer) r.left r.does })

  form_letters : (R : Table V) (c : Form R) → R.letters ≡ c.k
  form_letters R c = c.same.letters ∙ c.form.letters

  form_weight : (R : Table V) (c : Form R) (w : Word) → Over R.letters w → weight K R w ≡ c.f w
  form_weight R c w o = same_weight K R c.R₀ c.same w o ∙ reduced_weight K c.k c.f c.R₀ c.form w (subst (λ m. Over m w) (form_letters R c) o)

  form_fewest : (R : Table V) → Form R → (T : Table V) → Alike K R T → R.states ≤ T.states
  form_fewest R c T e = subst (λ n. n ≤ T.states) (sym c.same.states) (reduced_least K c.k c.f c.R₀ c.form T
      (λ u o. let o' : Over R.letters u = subst (λ m. Over m u) (sym (form_letters R c)) o in sym (e u o') ∙ form_weight R c u o'))

  forms_same : (R S : Table V) → Form R → Form S → R.letters ≡ S.letters → Alike K R S → SameTable R S
  forms_same R S c d l e = same_trans R c.R₀ S c.same (same_trans c.R₀ d.R₀ S
      (reduced_same K c.k c.f d.f c.R₀ d.R₀ c.form (subst (λ m. Reduced K m d.f d.R₀) (sym (form_letters S d) ∙ sym l ∙ form_letters R c) d.form)
      (λ w o. let o' : Over R.letters w = subst (λ m. Over m w) (sym (form_letters R c)) o in sym (form_weight R c w o') ∙ e w o' ∙ form_weight S d w (subst (λ m. Over m w) l o')))
      (same_sym S d.R₀ d.same))

  smallest : (R : Table V) → Reduces K value R → Smallest K value R
  smallest R r = record {
    reduces = r;
    fewest = λ T l e. form_fewest R (form_of R r) T e;
    one_form = λ S q l. (λ e. same_weight K R S e, forms_same R S (form_of R r) (form_of S q) l);
  }

  module _ (cs : List Call) (os : List Outcome) (s : Shelf F) (u : Opening K value cs os s) where
    stands : (B : List (Page V)) → Book K cs os B → Stands K value s B
    stands B f = use_stands K value told_apart u.opened u.uses B f

    matches : (B : List (Page V)) → Book K cs os B → (p : ℕ) → Matches K (entry s p) (page K B p) (table K value s p)
    matches B f p = good_matches s.memory (begins p) (entry s p) (page K B p) (anywhere K value s B (stands B f) p)

    follows : Follows K value cs os s u
    follows =
        let b = use_booked K value u.uses in
        record {
          each = let q = use_passed K value u.uses in each K value u.first s cs os (λ i. get_or q.all i u.first) q.course;
          eight = (stands b.0 b.1).entries;
          in_range = stands_range K value s b.0 (stands b.0 b.1);
          same_length = use_memory K value told_apart u.opened u.uses;
          booked = b;
          one_book = λ B B' f g p. match_same K (table K value s p) (table K value s p) (entry s p) (page K B p) (page K B' p) (matches B f p) (matches B' g p);
          tables = matches;
          weighs = λ B f l p w a t d.
              let i = source K value s B p (stands B f) (placed K (lending s l) (weigh p w) d.0 p (inl (inl refl))) (full K (lending s l) (weigh p w) d.0 p (inl refl)) in
              d.1.0 ∙ ap (λ x. Code (K.code x)) (i.weighs w (weigh_over K (lending s l) p w d.0));
          compares = λ l p q a t d.
              let x = d.1 in
              let e : t.lent.verdict ≡ x.0 = ap (λ z. z.verdict) x.3.lent in
              record { told = x.2 ∙ ap Told (sym e); reports = subst (Reports K (table K value s p) (table K value s q)) (sym e) (says_reports K (table K value s p) (table K value s q) x.0 x.1) };
          lies_on = λ p t h. let r = untouched_stays K value told_apart p s t h cs os u in record { entry_same = r.entry_same; elements = r.same };
        }

  module _ (cs : List Call) (os : List Outcome) (s : Shelf F) (u : Opening K value cs os s) (after : ℕ → Shelf F) (r : Course (Leads K value) u.first cs os s after) where
    -- the use that the first i calls are, and what holds of it
    abbrev until : (i : ℕ) → i ≤ length cs → Opening K value (take i cs) (take i os) (after i)
    until i l = record { first = u.first; opened = u.opened; uses = came K value u.first s cs os after r i l }

    follows_until : (i : ℕ) (l : i ≤ length cs) → Follows K value (take i cs) (take i os) (after i) (until i l)
    follows_until i l = follows (take i cs) (take i os) (after i) (until i l)

    within : (i : ℕ) (c : Call) → slice_get cs i ≡ Some c → i ≤ length cs
    within i c e = let l = slice_get_within cs i c e in omega arith

    throughout : FollowsThroughout K value cs os s u after
    throughout = record {
      course = r;
      came = came K value u.first s cs os after r;
      onward = onward K value u.first s cs os after r;
      follows = follows_until;
      weighed = λ i p w a e f B b.
          let d = r.steps i (weigh p w) (Ok a) e f in
          (follows_until i (within i (weigh p w) e)).weighs B b d.lent p w a d.left d.does;
      compared = λ i p q a e f.
          let d = r.steps i (compare p q) (Ok a) e f in
          let x = (follows_until i (within i (compare p q) e)).compares d.lent p q a d.left d.does in
          (d.left.lent.verdict, x);
      untouched = untouched_to K value u.first s cs os after r;
      reduced = λ i j p to a low high e f h.
          let d = r.steps i (reduce p to) (Ok a) e f in
          smallest (table K value (after j) to) (record {
            cs = take i cs;
            os = take i os;
            before = after i;
            use_of = until i (within i (reduce p to) e);
            lent = d.lent;
            place = p;
            to = to;
            answer = a;
            left = d.left;
            does = d.does;
            there = after j;
            since = subst (λ z. Untouched K value to z (after j)) (sym d.shelf) h;
            is = refl;
          });
    }

  pub lawful : OutcomesAreSettled K value → LoadAndWriteUndoEachOther K value → UsesFollowTheBook K value
  lawful settled round_trips = record {
    every_use = follows;
    courses = λ first s cs os u. let q = use_passed K value u in ((λ i. get_or q.all i first), q.course);
    throughout = throughout;
    runs = λ first t rs os h. run_use K value h;
    run_courses = λ first t rs os h. let q = run_passed K value h in ((λ i. get_or q.all i first), q.course);
    course_of_calls = course_of_calls K value;
    joined = λ first s t cs ds os ps u v. use_joined K value first s t cs ds os ps u v;
    refused_leaves = λ s t r f d. ap (taken_back s r) d.1 ∙ (λ i. record { shelf = s.shelf; lent = record { work = s.lent.work; output = take-append-drop r.output s.lent.output i; verdict = s.lent.verdict } });
    fewest = λ R r. (smallest R r).fewest;
    one_form = λ R S r t. (smallest R r).one_form S t;
    settled = settled;
    round_trips = round_trips;
  }
