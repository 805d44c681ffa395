use Rattle.std.proofs.Common.{◌<◌, ◌≤◌, length, subst}
use Rattle.bench_c.specs.Rewriting.{refused}
use Rattle.bench_c.proofs.Rewritten.{short, written}
use Rattle.bench_c.proofs.read_and_write.Goals as goal

pub returns-in_default : goal.returns-in_default
returns-in_default g c = record { rewrites = refused c.in_default.field-0 c.in_default.ensures.refused }

pub returns-then-out-text_size : goal.returns-then-out-text_size
returns-then-out-text_size g c =
    record {
      rewrites = short g.F.Field.field g.F.Field.value c.args.text.now c.args.out.now c.in-Ok.shape c.read_table.new.work c.in-Ok.ensures.accepted
          (subst (λ m. length c.args.out.now < m) c.text_size.ensures.counted c.if-out-text_size.true);
    }

pub returns : goal.returns
returns g c =
    record {
      rewrites = written g.F.Field.field g.F.Field.value c.args.text.now c.args.out.now c.in-Ok.shape c.read_table.new.work c.in-Ok.ensures.accepted
          c.new.result c.new.ensures.of_shape c.new.ensures.in_front (subst (λ m. m ≤ length c.args.out.now) c.text_size.ensures.counted c.if-out-text_size.false)
          c.write_table.result c.write_table.new.output c.write_table.ensures.counted c.write_table.ensures.written c.write_table.ensures.later_bytes_kept;
    }
