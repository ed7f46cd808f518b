-- That `access_number` of src/lib.rt keeps its contract.
use mathlib.Core.Path.{refl, ◌∙◌}
use borrow.Author.Tests.{le-leb, lt-leb}
use Rattle.words.proofs.ChoiceLaws.{pick_true, pick-false}
use Rattle.aintc_registers.specs.Model.{access_number}
use Rattle.aintc_room.proofs.access_number.Goals as goal

pub returns-then-privilege-gt1 : goal.returns-then-privilege-gt1
unfolding access_number
returns-then-privilege-gt1 c = pick-false _ (lt-leb _ _ c.if-privilege-gt1.true) ∙ pick_true _ refl

pub returns-then-barred : goal.returns-then-barred
unfolding access_number
returns-then-barred c = pick_true _ c.if-barred.true ∙ pick_true _ (le-leb _ _ c.if-privilege-gt1.false) ∙ pick_true _ refl

pub returns : goal.returns
unfolding access_number
returns c = pick-false _ c.if-barred.false ∙ pick_true _ (le-leb _ _ c.if-privilege-gt1.false) ∙ pick_true _ refl
