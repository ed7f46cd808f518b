-- That `row_of` of src/map.rt keeps its contract.
use Rattle.aintc_registers.specs.Map.{row_of}
use Rattle.words.proofs.ChoiceLaws.{pick_true, pick-false}
use borrow.Author.Tests.{lt-ltb, le-ltb}
use mathlib.Core.Path.{◌∙◌}
use Rattle.aintc_registers.proofs.map.row_of.Goals as goal

pub returns-then-offset-lt-ITR : goal.returns-then-offset-lt-ITR
unfolding row_of
returns-then-offset-lt-ITR c = pick_true _ (lt-ltb _ _ c.if-offset-lt-ITR.true)

pub returns-then-offset-lt-ILR : goal.returns-then-offset-lt-ILR
unfolding row_of
returns-then-offset-lt-ILR c = pick_true _ (lt-ltb _ _ c.if-offset-lt-ILR.true) ∙ pick-false _ (le-ltb _ _ c.if-offset-lt-ITR.false)

pub returns-then-offset-lt-PAST : goal.returns-then-offset-lt-PAST
unfolding row_of
returns-then-offset-lt-PAST c = pick_true _ (lt-ltb _ _ c.if-offset-lt-PAST.true) ∙ pick-false _ (le-ltb _ _ c.if-offset-lt-ILR.false) ∙ pick-false _ (le-ltb _ _ c.if-offset-lt-ITR.false)

pub returns : goal.returns
unfolding row_of
returns c = pick-false _ (le-ltb _ _ c.if-offset-lt-PAST.false) ∙ pick-false _ (le-ltb _ _ c.if-offset-lt-ILR.false) ∙ pick-false _ (le-ltb _ _ c.if-offset-lt-ITR.false)
