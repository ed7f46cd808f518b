-- That `turn` of src/lib.rt keeps its contract.
use mathlib.Core.Path.{◌∙◌}
use Rattle.words.proofs.ChoiceLaws.{pick_true, pick-false}
use Rattle.coreinterrupt_room.specs.Room.{turned}
use Rattle.coreinterrupt_room.proofs.turn.Goals as goal

pub returns-then-on : goal.returns-then-on
unfolding turned
returns-then-on c = c.join.ensures ∙ pick_true _ c.if-on.true

pub returns : goal.returns
unfolding turned
returns c = c.drop_bits.ensures ∙ pick-false _ c.if-on.false
