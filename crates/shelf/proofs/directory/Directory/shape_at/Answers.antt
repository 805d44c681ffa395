use Rattle.std.proofs.Common.{◌≡◌, map, get_or, sym, ap, ◌∙◌, subst, arith}
use Rattle.std.proofs.lemmas.List.{get_or-map}
use Rattle.book.specs.Shelves.{at_place, empty}
use Rattle.shelf.specs.Views.{entry_of}
use Rattle.shelf.proofs.Entries.{at_get}
use Rattle.shelf.proofs.directory.Directory.shape_at.Goals as goal

pub returns : goal.returns
returns c =
    let es = c.self.inside.entries in
    record {
      told = subst (λ xs. at_place empty xs c.args.place.number ≡ entry_of c.shape.result) c.self.view_is (
          at_get empty (map entry_of es) c.args.place.number c.args.place.within.0
          ∙ ap (λ i. get_or (map entry_of es) i empty) (sym c.index.ensures.from_zero)
          ∙ get_or-map entry_of es c.index.result c.index-self-index.result empty (omega (arith, c.self.invariant, c.index.ensures.one_of_eight))
          ∙ ap entry_of (sym c.shape.ensures.told)
          );
    }
