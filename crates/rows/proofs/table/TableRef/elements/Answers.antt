use Rattle.std.proofs.Common.{◌+◌, sym, ap, ◌∙◌, arith}
use Rattle.field.proofs.Rows.{length_part}
use Rattle.rows.proofs.Slices.{table_part}
use Rattle.rows.proofs.table.TableRef.elements.Goals as goal

pub returns-clause-holds_it : goal.returns-clause-holds_it
returns-clause-holds_it g c =
    let t = c.args.self in
    let size = c.size.ensures.is_table_size in
    record {
      len = length_part t.base (t.base + c.size.result) t.memory.now (omega arith) (omega (arith, t.within, size)) ∙ omega (arith, size);
      same = table_part g.F.Field.field g.F.Field.value t.base (t.base + c.size.result) t.shape.states t.shape.letters t.memory.now (ap (λ m. t.base + m) (sym size));
    }
