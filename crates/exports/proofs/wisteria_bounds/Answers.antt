-- That `wisteria_bounds` of src/lib.rt keeps its contract.
use mathlib.Core.Path.{ap, ◌∙◌}
use Rattle.aic_bounds.specs.Bounds.{bound_of}
use Rattle.aic_bounds.specs.declared.figures.Figures.{Figures}
use Rattle.aic_bounds.specs.Figures.{largest_now}
use Rattle.trace_bounds.specs.Figures.{counts_of, terms_of}
use Rattle.exports.proofs.wisteria_bounds.Goals as goal

pub returns : goal.returns
returns c =
    let f = c.figures-f.ensures in
    record {
      handlers = c.most.ensures ∙ ap (λ (g : Figures). bound_of (largest_now g)) f;
      counted = c.counts_of-c.ensures ∙ ap counts_of f;
      told = c.terms_of-t.ensures ∙ ap terms_of f;
    }
