-- That `numbers_at` of src/waits.rt keeps its contract.
use mathlib.Core.Path.{ap, ◌∙◌}
use Rattle.aic_figures.specs.WaitsBook.{figures_in}
use Rattle.aic_figures.proofs.WaitLaws.{numbers-told}
use Rattle.aic_figures.proofs.waits.numbers_at.Goals as goal

pub returns : goal.returns
returns c =
    let a = c.args in
    let waits = c.has in
    λ f h. c.numbers_of.ensures ∙ numbers-told f a.book.now h a.k c.requires waits.ensures (c.figures_of.ensures ∙ ap (figures_in waits.result) c.row_at.ensures)
