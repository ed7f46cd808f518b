-- That `reply_of` of src/lib.rt keeps its contract.
use Rattle.board.specs.Model.{replied}
use borrow.Author.Tests.{eq-eqb, ne_eqb}
use Rattle.words.proofs.ChoiceLaws.{pick_true, pick-false}
use Rattle.board.proofs.reply_of.Goals as goal

pub returns-then-n-eq-CARRIED_OUT : goal.returns-then-n-eq-CARRIED_OUT
unfolding replied
returns-then-n-eq-CARRIED_OUT c = pick_true _ (eq-eqb _ _ c.if-n-eq-CARRIED_OUT.true)

pub returns : goal.returns
unfolding replied
returns c = pick-false _ (ne_eqb _ _ c.if-n-eq-CARRIED_OUT.false)
