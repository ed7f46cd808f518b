-- That `read_stored` of src/registers.rt keeps its contract.
use Rattle.words.specs.Choice.{pick}
use Rattle.aic_registers.specs.Registers.{output_bits, stored}
use borrow.Author.Tests.{ne_eqb, lt-ltb, le-ltb}
use Rattle.words.proofs.ChoiceLaws.{pick_true, pick-false}
use mathlib.Core.Path.{sym, ap, ◌∙◌}
use Rattle.aic_registers.proofs.registers.read_stored.Goals as goal

pub returns-then-offset-lt-SVR : goal.returns-then-offset-lt-SVR
unfolding stored
returns-then-offset-lt-SVR c = c.mode_at.ensures ∙ pick_true _ (lt-ltb _ _ c.if-offset-lt-SVR.true)

pub returns-then-offset-lt-IVR : goal.returns-then-offset-lt-IVR
unfolding stored
returns-then-offset-lt-IVR c = c.vector_at.ensures ∙ pick_true _ (lt-ltb _ _ c.if-offset-lt-IVR.true) ∙ pick-false _ (le-ltb _ _ c.if-offset-lt-SVR.false)

pub returns-in-264 : goal.returns-in-264
unfolding stored pick
returns-in-264 c = c.current_source.ensures ∙ sym (ap (stored c.args.s) c.in-264.is)

pub returns-in-268 : goal.returns-in-268
unfolding stored pick
returns-in-268 c = c.pending_word.ensures ∙ sym (ap (stored c.args.s) c.in-268.is)

pub returns-in-272 : goal.returns-in-272
unfolding stored pick
returns-in-272 c = sym (ap (stored c.args.s) c.in-272.is)

pub returns-in-276 : goal.returns-in-276
unfolding stored output_bits pick
returns-in-276 c = c.output_bits.ensures ∙ sym (ap (stored c.args.s) c.in-276.is)

pub returns-in-308 : goal.returns-in-308
unfolding stored pick
returns-in-308 c = sym (ap (stored c.args.s) c.in-308.is)

pub returns-in-312 : goal.returns-in-312
unfolding stored pick
returns-in-312 c = sym (ap (stored c.args.s) c.in-312.is)

pub returns-in-328 : goal.returns-in-328
unfolding stored pick
returns-in-328 c = sym (ap (stored c.args.s) c.in-328.is)

pub returns-in_default : goal.returns-in_default
unfolding stored
returns-in_default c = pick-false _ (ne_eqb _ _ c.in_default.in_default-own.rest.1) ∙ pick-false _ (ne_eqb _ _ c.in_default.in_default-own.rest.0.1) ∙ pick-false _ (ne_eqb _ _ c.in_default.in_default-own.rest.0.0.1) ∙ pick-false _ (ne_eqb _ _ c.in_default.in_default-own.rest.0.0.0.1) ∙ pick-false _ (ne_eqb _ _ c.in_default.in_default-own.rest.0.0.0.0.1) ∙ pick-false _ (ne_eqb _ _ c.in_default.in_default-own.rest.0.0.0.0.0.1) ∙ pick-false _ (ne_eqb _ _ c.in_default.in_default-own.rest.0.0.0.0.0.0.1) ∙ pick-false _ (le-ltb _ _ c.if-offset-lt-IVR.false) ∙ pick-false _ (le-ltb _ _ c.if-offset-lt-SVR.false)
