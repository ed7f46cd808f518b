-- That `wired_core` of src/pair.rt keeps its contract.
use Rattle.board_wires.proofs.PairLaws.{core-lined}
use mathlib.Core.Path.{◌∙◌}
use Rattle.board_wires.proofs.pair.wired_core.Goals as goal

pub returns : goal.returns
returns c = c.lined_core.ensures ∙ core-lined _ _ _ _ c.core_at.ensures c.values-v.ensures
