-- That `most` of src/lib.rt keeps its contract.
use mathlib.Core.Path.{ap, ◌∙◌}
use Rattle.aic_bounds.specs.Bounds.{bound_of}
use Rattle.trace_bounds.proofs.most.Goals as goal

pub returns : goal.returns
returns c = c.bound_of.ensures ∙ ap bound_of c.largest_now.ensures
