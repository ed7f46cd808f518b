-- That `forget_other_type` of src/effects.rt keeps its contract.
use Rattle.aic_registers.proofs.CallLaws.{type-from}
use borrow.Author.Tests.{eq-eqb, ne_eqb}
use Rattle.words.proofs.ChoiceLaws.{pick_true, pick-false}
use mathlib.Core.Path.{sym, ◌∙◌}
use Rattle.aic_registers.proofs.effects.forget_other_type.Goals as goal

pub returns-then-type_of : goal.returns-then-type_of
returns-then-type_of c = pick_true _ (eq-eqb _ _ (sym (type-from _ _ _ _ c.mode_at-mode.ensures c.type_of.ensures) ∙ c.if-type_of.true ∙ c.type_of-2.ensures))

pub returns : goal.returns
returns c = c.forget.ensures ∙ pick-false _ (ne_eqb _ _ (λ q. c.if-type_of.false (type-from _ _ _ _ c.mode_at-mode.ensures c.type_of.ensures ∙ q ∙ sym c.type_of-2.ensures)))
