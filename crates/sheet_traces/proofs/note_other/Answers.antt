-- That `note_other` of src/lib.rt keeps its contract.
use mathlib.Core.Path.{ap, ◌∙◌}
use mathlib.Core.Bool.{false}
use Rattle.totals.specs.declared.waits.Waits.{Waits}
use Rattle.sheet_traces.specs.Noted.{noted, unseen}
use Rattle.sheet_traces.proofs.note_other.Goals as goal

pub returns : goal.returns
returns c = c.noted.ensures ∙ ap (λ (w : Waits). noted c.args.f false unseen w) c.none.ensures
