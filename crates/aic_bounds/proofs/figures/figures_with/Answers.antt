-- That `figures_with` of src/figures.rt keeps its contract.
use Rattle.aic_bounds.proofs.FigureLaws.{figures-from}
use Rattle.aic_bounds.proofs.figures.figures_with.Goals as goal

pub returns : goal.returns
returns c =
    let a = c.args in
    figures-from a.n a.f a.b c.better_if-largest.ensures c.one_if.ensures c.add-begun.ensures c.loses-lost.ensures
    c.one_if-2.ensures c.add-unbounded.ensures c.either-first.ensures
