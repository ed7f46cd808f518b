-- That `brought` of src/lib.rt keeps its contract.
use mathlib.Core.Path.{◌∙◌}
use Rattle.words.proofs.ChoiceLaws.{pick_true, pick-false}
use Rattle.sheet_traces.proofs.brought.Goals as goal

pub returns-then-carried : goal.returns-then-carried
returns-then-carried c = pick_true _ c.if-carried.true

pub returns : goal.returns
returns c = c.no_marks.ensures ∙ pick-false _ c.if-carried.false
