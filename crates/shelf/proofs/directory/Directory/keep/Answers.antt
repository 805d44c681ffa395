use Rattle.std.proofs.Common.{◌≡◌, ◌+◌, ◌-◌, length, refl, ap, ap₂, ◌∙◌, sym, subst, arith}
use borrow.Rule.Slice.PartMut.{put_mid}
use Rattle.series.specs.Tables.{SameTable}
use Rattle.rows.specs.Layout.{table_size, table_at}
use Rattle.rows.specs.Seen.{table_of}
use Rattle.rows.specs.Tables.{TableWritten}
use Rattle.book.specs.Shelves.{filled, with_place}
use Rattle.book.proofs.Blocks.{same_trans}
use Rattle.shelf.specs.Views.{entry_of}
use Rattle.shelf.proofs.Entries.{place_fits}
use Rattle.shelf.proofs.Kept.{table_kept}
use Rattle.shelf.proofs.directory.Directory.keep.Goals as goal

pub returns : goal.returns
returns g c =
    let K = g.F.Field.field in
    let v = g.F.Field.value in
    let t = c.args.made in
    let z = t.shape in
    let base = c.begins-base.result in
    let held = c.elements.ensures.holds_it in
    let size : c.size.result ≡ table_size z.states z.letters = c.size.ensures.is_table_size ∙ ap (λ y. table_size y.states y.letters) c.shape-shape.ensures.told in
    record {
      kept = λ l R s. record {
        entries =
            c.set.ensures.one_entry_changed
            ∙ ap (with_place c.args.self.now c.args.to.number) (ap entry_of c.of.ensures.holds ∙ ap (λ y. filled y.states y.letters) c.shape-shape.ensures.told ∙ ap₂ filled s.states s.letters);
        numbers =
            subst (λ b. TableWritten K v b R c.args.shelf.now (put_mid base (base + c.size.result - base) c.args.shelf.now c.copy_row.new.to)) c.begins-base.ensures.told
            (table_kept K v base (base + c.size.result - base) z.states z.letters c.args.shelf.now c.copy_row.new.to R (omega (arith, size))
            (omega (arith, place_fits z c.args.to.number (length c.args.shelf.now) base c.begins-base.ensures.told c.args.to.within c.requires.shelf_whole, size))
            (ap length c.copy_row.ensures.very_elements ∙ held.len ∙ omega (arith, size))
            (subst (λ xs. SameTable (table_at K v xs 0 z.states z.letters) R) (sym c.copy_row.ensures.very_elements) (same_trans (table_at K v c.elements.result.now 0 z.states z.letters) (table_of K v t) R held.same s)));
        lent = refl;
      };
    }
