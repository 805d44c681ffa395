-- A script is performed from shelf to shelf. Assumes nothing.
use Rattle.std.proofs.Common.{◌≡◌, ◌≢◌, ℕ, ◌-◌, ◌<◌, ◌≤◌, List, [], ◌∷◌, ◌++◌, length, take, drop, get_or, Option, Some, None, Result, Ok, Err, IfOk, sym, ap, subst, ◌∙◌, append_assoc, append-nil, arith, refl}
use Rattle.std.proofs.Math.Seq.{take-length}
use Rattle.command.specs.declared.field_choice.FieldChoice.{FieldChoice}
use Rattle.scripting.specs.Mistakes.{wrong}
use Rattle.scripting.specs.Performing.{Shows, Step, last, chooses, opens, lends, calls, mistaken}
use Rattle.scripting.specs.Closing.{opened, ShowsOn, Leads, Performs}
use Rattle.scripting.specs.declared.order.Given.{Given}
use Rattle.scripting.specs.declared.order.Order.TheVariants as orders
use Rattle.scripting.specs.declared.reading.Entry.TheVariants as entries
use Rattle.scripting.specs.declared.reading.Line.{Line}
use Rattle.scripting.specs.declared.performing.Opening.{Opening}
use Rattle.scripting.specs.declared.performing.Task.{Task}
use Rattle.scripting.specs.declared.performing.Close.{Close}
use Rattle.scripting.specs.declared.performing.Close.TheVariants as closes
use Rattle.scripting.specs.declared.performing.Next.TheVariants as nexts

-- lines are passed over that neither ask for a call nor open a shelf
pub record Passes (g : Given) (lines : List Line) (h : Given) (rest : List Line) : Type 0 where
  pub within : length rest ≤ length lines
  pub onward : (o : Opening) (tasks : List Task) (more : List ℕ) → Shows o h tasks rest more → Shows o g tasks lines more

-- a line that shows nothing is passed over
pub one_line : {g h k : Given} {lines all rest : List Line} (line : Line) → all ≡ line ∷ rest → ((o : Opening) (tasks : List Task) → Step o h tasks line o k tasks [] []) → Passes g lines h all → Passes g lines k rest
one_line {g} {h} {k} {lines} {all} {rest} line first step p = record {
  within = omega (arith, p.within, ap length first);
  onward = λ o tasks more shows.
      let s = step o tasks in
      p.onward o tasks more (subst (λ ls. Shows o h tasks ls more) (sym first) (subst (λ t. Shows o h tasks (line ∷ rest) (t ++ more)) (sym s.added) (s.onward rest more shows)));
}

pub lend_step : {o : Opening} {g : Given} {tasks : List Task} (line : Line) (h : Given) → line.entry ≡ entries.Order (orders.Lend h) → Step o g tasks line o h tasks [] []
lend_step line h is = record { text = []; added = refl; onward = λ lines more shows. lends line h is shows }

pub mistake_step : {o : Opening} {g : Given} {tasks : List Task} (line : Line) → wrong line.number line.entry ≢ [] → Step o g tasks line o g tasks [] []
mistake_step line bad = record { text = []; added = refl; onward = λ lines more shows. mistaken line bad shows }

-- what comes next
pub call_next : {g h : Given} {lines all rest : List Line} (line : Line) (task : Task) → all ≡ line ∷ rest → line.entry ≡ entries.Order (orders.Call task.call.now) → task.number ≡ line.number → task.given ≡ h
    → Passes g lines h all → Leads g lines (nexts.Call task) h rest
call_next {g} {h} {lines} {all} {rest} line task first is number given p =
    (omega (arith, p.within, ap length first), λ o tasks more shows. p.onward o tasks more (subst (λ ls. Shows o h tasks ls more) (sym first) (calls line task is number given shows)))

pub field_next : {g h : Given} {lines all rest : List Line} (line : Line) (f : FieldChoice) → all ≡ line ∷ rest → line.entry ≡ entries.Order (orders.Field f) → Passes g lines h all → Leads g lines (nexts.Close (closes.Field f)) h rest
field_next {g} {h} {lines} {all} {rest} line f first is p =
    (omega (arith, p.within, ap length first), λ o tasks text more makes shows. p.onward o tasks (text ++ more) (subst (λ ls. Shows o h tasks ls (text ++ more)) (sym first) (chooses text more line f is makes shows)))

pub open_next : {g h : Given} {lines all rest : List Line} (line : Line) (n : ℕ) → all ≡ line ∷ rest → line.entry ≡ entries.Order (orders.Open n) → Passes g lines h all → Leads g lines (nexts.Close (closes.Open n)) h rest
open_next {g} {h} {lines} {all} {rest} line n first is p =
    (omega (arith, p.within, ap length first), λ o tasks text more makes shows. p.onward o tasks (text ++ more) (subst (λ ls. Shows o h tasks ls (text ++ more)) (sym first) (opens text more line n is makes shows)))

pub end_next : {g h : Given} {lines rest : List Line} → rest ≡ [] → Passes g lines h rest → Leads g lines (nexts.Close closes.End) h rest
end_next {g} {h} {lines} {rest} none p =
    (omega (arith, p.within), λ o tasks text more makes ends. p.onward o tasks (text ++ more) (subst (λ ls. Shows o h tasks ls (text ++ more)) (sym none) (subst (λ t. Shows o h tasks [] t) (sym (ap (λ m. text ++ m) ends ∙ append-nil text)) (last text makes))))

-- on from the next opening
pub further : {o p : Opening} {q r : Option Opening} {g h k : Given} {lines mid rest : List Line} {a b c : List ℕ} → q ≡ Some p → Performs o g lines q h mid a b → Performs p h mid r k rest b c → Performs o g lines r k rest a c
further {o} {p} {q} {r} {g} {h} {k} {lines} {mid} {rest} {a} {b} {c} is first second = record {
  text = first.text ++ second.text;
  added = second.added ∙ ap (λ t. t ++ second.text) first.added ∙ append_assoc a first.text second.text;
  onward = λ more shows. subst (λ t. Shows o g [] lines t) (sym (append_assoc first.text second.text more)) (first.onward (second.text ++ more) (subst (λ s. ShowsOn s h mid (second.text ++ more)) (sym is) (second.onward more shows)));
}

-- to the end
pub to_the_end : {o : Opening} {q : Option Opening} {g h : Given} {lines rest : List Line} {a b : List ℕ} → q ≡ None → a ≡ [] → Performs o g lines q h rest a b → Shows o g [] lines b
to_the_end {o} {q} {g} {h} {lines} {rest} {a} {b} ends none p =
    subst (λ t. Shows o g [] lines t) (append-nil p.text ∙ sym (p.added ∙ ap (λ t. t ++ p.text) none)) (p.onward [] (subst (λ s. ShowsOn s h rest []) (sym ends) refl))

-- a list by its first line
pub by_first : (xs : List Line) (x : Line) → 1 ≤ length xs → x ≡ get_or xs 0 x → xs ≡ x ∷ take (length xs - 1) (drop 1 xs)
by_first [] x some is = absurd (omega (arith, some))
by_first (y ∷ ys) x some is = let k : length (y ∷ ys) - 1 ≡ length ys = omega arith in ap (λ z. z ∷ ys) (sym is) ∙ ap (λ zs. x ∷ zs) (sym (ap (λ n. take n ys) k ∙ take-length ys))

pub no_first : (xs : List Line) → length xs < 1 → xs ≡ []
no_first [] few = refl
no_first (y ∷ ys) few = absurd (omega (arith, few))

-- what follows of a success
pub if_ok : {T E : Type 0} {P Q : T → Type 0} (r : Result T E) → IfOk r P → ((x : T) → P x → Q x) → IfOk r Q
if_ok (Ok x) p f = f x p
if_ok (Err e) p f = tt

-- an opening by its field
pub by_field : {o : Opening} {g h : Given} {lines rest : List Line} {a b : List ℕ} (f : FieldChoice) (t : Close) → o.field ≡ f → Performs (record { field = f; elements = o.elements }) g lines (opened f t) h rest a b → Performs o g lines (opened o.field t) h rest a b
by_field {o} {g} {h} {lines} {rest} {a} {b} f t is p = subst (λ k. Performs (record { field = k; elements = o.elements }) g lines (opened k t) h rest a b) (sym is) p
