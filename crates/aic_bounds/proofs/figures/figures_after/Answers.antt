-- That `figures_after` of src/figures.rt keeps its contract.
use mathlib.Core.Path.{ap, ◌∙◌}
use Rattle.aic_bounds.specs.Figures.{figures_with}
use Rattle.aic_bounds.proofs.figures.figures_after.Goals as goal

pub returns : goal.returns
returns c =
    let a = c.args in
    c.figures_with.ensures ∙ ap (figures_with a.n a.f) c.bound_after-b.ensures
