use Rattle.std.proofs.Common.{◌≡◌, map, slice_set, ap, ◌∙◌, subst}
use Rattle.std.proofs.lemmas.List.{map-set}
use Rattle.book.specs.Shelves.{with_place}
use Rattle.shelf.specs.Views.{entry_of}
use Rattle.shelf.proofs.Entries.{set_at}
use Rattle.shelf.proofs.directory.Directory.set.Goals as goal

pub returns : goal.returns
returns c =
    let es = c.self.inside.entries in
    record {
      one_entry_changed = subst (λ xs. map entry_of (slice_set es c.index.result c.args.e) ≡ with_place xs c.args.place.number (entry_of c.args.e)) c.self.view_is (
          map-set entry_of es c.index.result c.args.e
          ∙ ap (λ i. slice_set (map entry_of es) i (entry_of c.args.e)) c.index.ensures.from_zero
          ∙ set_at (map entry_of es) c.args.place.number (entry_of c.args.e) c.args.place.within.0
          );
    }
