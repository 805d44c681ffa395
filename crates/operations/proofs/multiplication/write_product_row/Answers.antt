use Rattle.operations.proofs.Products.{products_of}
use Rattle.operations.proofs.multiplication.write_product_row.Goals as goal

pub returns : goal.returns
returns g c =
    let m = c.states-m.ensures.told in
    record {
      row_of_product_table =
          products_of g.F.Field.field g.F.Field.value (rw m at c.matrix_row.ensures.row_of_matrix) (rw m at c.matrix_row-2.ensures.row_of_matrix)
          c.write_products.ensures.products_written;
    }
