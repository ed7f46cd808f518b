-- That `row_at` of src/waits.rt keeps its contract.
use borrow.Author.Rules.{rules}
use Rattle.totals.proofs.MadeLaws.{made_at}
use Rattle.aic_figures.specs.WaitsBook.{cell_in}
use Rattle.aic_figures.proofs.ColumnLaws.{row_told}
use Rattle.aic_figures.proofs.waits.row_at.Goals as goal

pub returns : goal.returns
returns c =
    let a = c.args in
    row_told a.book.now a.k _ c.from_fn.ensures.items.long
    (made_at _ _ (λ x. cell_in a.book.now x a.k) 0 (λ i y q k. search rules) _ 18 c.from_fn.ensures.items)
