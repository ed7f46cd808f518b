-- That `read_at` of src/registers.rt keeps its contract.
use Rattle.words.specs.Choice.{pick}
use Rattle.aic_registers.specs.Handlers.{answered}
use Rattle.aic_registers.specs.Registers.{read_at}
use borrow.Author.Tests.{ne_eqb}
use Rattle.words.proofs.ChoiceLaws.{pick-false}
use mathlib.Core.Path.{sym, ap, ◌∙◌}
use Rattle.aic_registers.proofs.registers.read_at.Goals as goal

pub returns-in-256 : goal.returns-in-256
unfolding read_at pick
returns-in-256 c = c.read_ivr.ensures ∙ sym (ap (read_at c.args.s) c.in-256.is)

pub returns-in-260 : goal.returns-in-260
unfolding read_at pick
returns-in-260 c = c.read_fvr.ensures ∙ sym (ap (read_at c.args.s) c.in-260.is)

pub returns-in_default : goal.returns-in_default
unfolding read_at
returns-in_default c = c.answer_of.ensures ∙ ap (answered c.args.s) c.read_stored.ensures ∙ pick-false _ (ne_eqb _ _ c.in_default.in_default-own.rest.1) ∙ pick-false _ (ne_eqb _ _ c.in_default.in_default-own.rest.0.1)
