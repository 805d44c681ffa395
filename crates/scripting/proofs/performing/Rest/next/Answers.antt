use Rattle.std.proofs.Common.{◌≡◌, refl, rules}
use Rattle.scripting.specs.declared.order.Order.TheVariants as orders
use Rattle.scripting.specs.declared.reading.Entry.TheVariants as entries
use Rattle.scripting.proofs.Shelves.{by_first, no_first, call_next, field_next, open_next, end_next, one_line, lend_step, mistake_step}
use Rattle.scripting.proofs.performing.Rest.next.Goals as goal

pub returns-in-Order-Field : goal.returns-in-Order-Field
returns-in-Order-Field c =
    let line = c.line-item.result in
    let is : line.entry ≡ entries.Order (orders.Field c.in-Order-Field.field) = search rules in
    record { leads = field_next line c.in-Order-Field.field (by_first c.loop-self.self.lines.now line c.in-len1-up.len_at_least c.line-item.is) is c.loop-self.invariant }

pub returns-in-Order-Open : goal.returns-in-Order-Open
returns-in-Order-Open c =
    let line = c.line-item.result in
    let is : line.entry ≡ entries.Order (orders.Open c.in-Order-Open.elements) = search rules in
    record { leads = open_next line c.in-Order-Open.elements (by_first c.loop-self.self.lines.now line c.in-len1-up.len_at_least c.line-item.is) is c.loop-self.invariant }

pub loop-self-preserved-in-Order-Lend : goal.loop-self-preserved-in-Order-Lend
loop-self-preserved-in-Order-Lend c =
    let line = c.line-item.result in
    let is : line.entry ≡ entries.Order (orders.Lend c.in-Order-Lend.given) = search rules in
    one_line line (by_first c.loop-self.self.lines.now line c.in-len1-up.len_at_least c.line-item.is) (λ o tasks. lend_step line c.in-Order-Lend.given is) c.loop-self.invariant

pub returns-in-Order-Call : goal.returns-in-Order-Call
returns-in-Order-Call c =
    let line = c.line-item.result in
    let is : line.entry ≡ entries.Order (orders.Call c.in-Order-Call.call) = search rules in
    record { leads = call_next line _ (by_first c.loop-self.self.lines.now line c.in-len1-up.len_at_least c.line-item.is) is refl refl c.loop-self.invariant }

pub loop-self-preserved-in-File : goal.loop-self-preserved-in-File
loop-self-preserved-in-File c =
    let line = c.line-item.result in
    one_line line (by_first c.loop-self.self.lines.now line c.in-len1-up.len_at_least c.line-item.is) (λ o tasks. mistake_step line (rw c.in-File.is (λ e. absurd (cc)))) c.loop-self.invariant

pub loop-self-preserved : goal.loop-self-preserved
loop-self-preserved c =
    let line = c.line-item.result in
    one_line line (by_first c.loop-self.self.lines.now line c.in-len1-up.len_at_least c.line-item.is) (λ o tasks. mistake_step line (rw c.in-Mistaken.is (λ e. absurd (cc)))) c.loop-self.invariant

pub returns : goal.returns
returns c = record { leads = end_next (no_first c.loop-self.self.lines.now c.in_default.len_below) c.loop-self.invariant }
