-- That `put_stack` of src/levels.rt keeps its contract.
use Rattle.sheet.specs.Levels.{stack_part}
use Rattle.text.proofs.WriteLaws.{and_then, same_length as same_len}
use Rattle.sheet.proofs.levels.put_stack.Goals as goal

pub returns : goal.returns
unfolding stack_part
returns c =
    and_then _ _ _ (and_then _ _ _ c.put_figure-a.ensures c.put_bars-b.ensures) c.put_levels.ensures

pub shape_of-out : goal.shape_of-out
shape_of-out c = same_len _ _ _ (returns c)
