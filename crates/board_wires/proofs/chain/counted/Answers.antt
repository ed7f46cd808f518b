-- That `counted` of src/chain.rt keeps its contract.
use Rattle.words.proofs.ChoiceLaws.{pick_true, pick-false}
use Rattle.board_wires.proofs.chain.counted.Goals as goal

pub returns-then-on : goal.returns-then-on
returns-then-on c = pick_true _ c.if-on.true

pub returns : goal.returns
returns c = pick-false _ c.if-on.false
