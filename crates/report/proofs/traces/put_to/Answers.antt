-- That `put_to` of src/traces.rt keeps its contract.
use mathlib.Core.Path.{ap, ◌∙◌}
use Rattle.totals.specs.declared.Added.{Added}
use Rattle.totals.specs.Totals.{added}
use Rattle.tally.specs.declared.Tallied.{Tallied}
use Rattle.report.proofs.traces.put_to.Goals as goal

pub returns : goal.returns
returns g c = let f = c.figures-f.ensures in
    ap (λ (x : Added). x.totals) (c.add-a.ensures ∙ ap (added _) (ap (λ (x : Tallied). x.figures) f))
