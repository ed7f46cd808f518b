-- That `side_quiet` of src/choice.rt keeps its contract.
use mathlib.Core.Path.{sym, ap, ◌∙◌}
use mathlib.Core.Bool.{not}
use Rattle.aintc_registers.proofs.SettleLaws.{quiet-held, quiet-from, twice_not}
use Rattle.aintc_registers.proofs.choice.side_quiet.Goals as goal

pub returns-then-chosen : goal.returns-then-chosen
returns-then-chosen c = quiet-held _ _ _ c.side_of-chosen.ensures c.if-chosen.true

pub returns : goal.returns
returns c = twice_not _ ∙ sym (ap not c.is_none.ensures) ∙ quiet-from _ _ _ c.side_of-chosen.ensures _ c.first_of.ensures.first c.first_of.ensures.within c.if-chosen.false
