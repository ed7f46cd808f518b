-- That `put_to` of src/traces.rt keeps its contract.
use mathlib.Core.Path.{ap, ◌∙◌}
use Rattle.totals.specs.declared.sheets.Added.{Added}
use Rattle.totals.specs.Sheet.{added}
use Rattle.sheet_run.proofs.traces.put_to.Goals as goal

pub returns : goal.returns
returns g c = c.printed.ensures ∙ ap (λ (x : Added). x.sheet) (c.add-a.ensures ∙ ap (added _) c.note-t.ensures)
