-- That `put_order` of src/order.rt keeps its contract.
use Rattle.sheet.specs.Order.{in_order}
use Rattle.text.proofs.WriteLaws.{and_then, write-laid}
use mathlib.Core.Path.{◌∙◌}
use Rattle.sheet.proofs.order.put_order.Goals as goal

pub returns : goal.returns
unfolding in_order
returns c =
    and_then _ _ _ c.put_levels-a.ensures c.put_levels.ensures
    ∙ write-laid _ _
