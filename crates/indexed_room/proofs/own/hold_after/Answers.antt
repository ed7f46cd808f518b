-- That `hold_after` of src/own.rt keeps its contract.
use mathlib.Core.Path.{sym, ◌∙◌}
use borrow.Author.Tests.{eq-eqb, ne_eqb}
use Rattle.words.proofs.ChoiceLaws.{pick_true, pick-false}
use Rattle.indexed_room.proofs.own.hold_after.Goals as goal

pub returns-then-mode-eq1 : goal.returns-then-mode-eq1
returns-then-mode-eq1 c = λ p e small. c.held_as.ensures small ∙ pick_true _ (eq-eqb p.held.hold 1 (sym e ∙ c.if-mode-eq1.true))

pub returns : goal.returns
returns c = λ p e small. pick-false _ (ne_eqb p.held.hold 1 (λ z. c.if-mode-eq1.false (e ∙ z)))
