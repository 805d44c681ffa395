use Rattle.std.proofs.Common.{[], ◌∷◌, ◌++◌, length, min, vec_items, sym, ap, ◌∙◌, append-nil, append_assoc, arith}
use Rattle.std.proofs.Math.Nat.{min-le_right}
use Rattle.shelf.specs.Views.{state}
use Rattle.scripting.specs.Performing.{MakesOnFresh, shown_of, none, next}
use Rattle.scripting.specs.Closing.{Leads}
use Rattle.scripting.specs.declared.performing.Next.TheVariants as nexts
use Rattle.scripting.proofs.Made.{on_fresh}
use Rattle.scripting.proofs.performing.perform_on.Goals as goal

pub loop-task-init : goal.loop-task-init
loop-task-init g c = record { tasks = []; text = []; makes = none; added = sym (append-nil (vec_items c.args.shown.now)); within = omega arith; onward = λ o more shows. shows }

pub loop-task-preserved : goal.loop-task-preserved
loop-task-preserved g c =
    let i = c.loop-task.invariant in
    let task = c.in-Call.task in
    let text = shown_of task c.make-outcome.result c.make-outcome.new.output in
    let made = c.make-outcome.ensures.carried_out in
    let left = state c.make-outcome.new.directory c.make-outcome.new.shelf (length c.make-outcome.new.work) c.make-outcome.new.output c.make-outcome.new.verdict in
    let leads : Leads c.loop-task.rest.given c.loop-task.rest.lines.now (nexts.Call task) c.next.new.self.given c.next.new.self.lines.now = c.in-Call.ensures.leads in
    record {
      tasks = i.tasks ++ task ∷ [];
      text = i.text ++ text;
      makes = next i.makes task made.0 made.1 c.make-outcome.result left made.2;
      added = c.in_ok-show-in-Call.ensures.shown ∙ ap (λ xs. xs ++ text) i.added ∙ append_assoc (vec_items c.args.shown.now) i.text text;
      within = omega (arith, i.within, leads.0);
      onward = λ o more shows. i.onward o more (leads.1 o i.tasks more shows);
    }

pub returns-in-Close-clause-performs : goal.returns-in-Close-clause-performs
returns-in-Close-clause-performs g c =
    let i = c.loop-task.invariant in
    let leads : Leads c.loop-task.rest.given c.loop-task.rest.lines.now (nexts.Close c.in-Close.close) c.next.new.self.given c.next.new.self.lines.now = c.in-Close.ensures.leads in
    let made : MakesOnFresh g.F.Field.field g.F.Field.value (min c.args.elements 12544) i.tasks i.text =
    on_fresh g.F.Field.field g.F.Field.value (min c.args.elements 12544) c.open-directory.result c.zero-memory.result (length c.args.work.now) c.args.output.now c.blank-verdict.result c.open-directory.ensures.all_empty c.zero-memory.ensures.is_zero c.min.ensures c.told-work c.told-output i.makes (omega (arith, c.min.ensures, min-le_right c.args.elements 12544)) in
    λ f over. record {
      text = i.text;
      added = i.added;
      onward = λ more shows. i.onward (record { field = f; elements = c.args.elements }) (i.text ++ more) (leads.1 (record { field = f; elements = c.args.elements }) i.tasks i.text more (over c.args.elements i.tasks i.text made) shows);
    }
