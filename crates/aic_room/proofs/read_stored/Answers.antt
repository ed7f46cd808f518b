-- That `read_stored` of src/lib.rt keeps its contract.
use mathlib.Core.Path.{ap, sym, ◌∙◌}
use native.Mathlib.Omega.{arith}
use borrow.Author.Tests.{ne_eqb, lt-ltb, le-ltb}
use Rattle.words.specs.Choice.{pick}
use Rattle.words.proofs.ChoiceLaws.{pick_true, pick-false}
use Rattle.aic_registers.specs.Registers.{stored}
use Rattle.aic_room.proofs.CellLaws.{enabled-is, forced-is, spurious-is, debug-is, mode-is, vector-is}
use Rattle.aic_room.proofs.LevelLaws.{laid-stale}
use Rattle.aic_room.proofs.read_stored.Goals as goal

pub returns-then-offset-lt-SVR : goal.returns-then-offset-lt-SVR
unfolding stored
returns-then-offset-lt-SVR c = λ a h l. mode-is h _ (omega (arith, c.if-offset-lt-SVR.true)) ∙ pick_true _ (lt-ltb _ _ c.if-offset-lt-SVR.true)

pub returns-then-offset-lt-IVR : goal.returns-then-offset-lt-IVR
unfolding stored
returns-then-offset-lt-IVR c = λ a h l. vector-is h _ (omega (arith, c.if-offset-lt-IVR.true)) ∙ pick_true _ (lt-ltb _ _ c.if-offset-lt-IVR.true) ∙ pick-false _ (le-ltb _ _ c.if-offset-lt-SVR.false)

pub returns-in-264 : goal.returns-in-264
unfolding stored pick
returns-in-264 c = λ a h l. c.current.ensures a h l ∙ sym (ap (stored a) c.in-264.is)

pub returns-in-268 : goal.returns-in-268
unfolding stored pick
returns-in-268 c = λ a h l. c.pending.ensures a (laid-stale h) ∙ sym (ap (stored a) c.in-268.is)

pub returns-in-272 : goal.returns-in-272
unfolding stored pick
returns-in-272 c = λ a h l. enabled-is h ∙ sym (ap (stored a) c.in-272.is)

pub returns-in-276 : goal.returns-in-276
unfolding stored pick
returns-in-276 c = λ a h l. c.output_bits.ensures a h ∙ sym (ap (stored a) c.in-276.is)

pub returns-in-308 : goal.returns-in-308
unfolding stored pick
returns-in-308 c = λ a h l. spurious-is h ∙ sym (ap (stored a) c.in-308.is)

pub returns-in-312 : goal.returns-in-312
unfolding stored pick
returns-in-312 c = λ a h l. debug-is h ∙ sym (ap (stored a) c.in-312.is)

pub returns-in-328 : goal.returns-in-328
unfolding stored pick
returns-in-328 c = λ a h l. forced-is h ∙ sym (ap (stored a) c.in-328.is)

pub returns-in_default : goal.returns-in_default
unfolding stored
returns-in_default c =
    λ a h l. pick-false _ (ne_eqb _ _ c.in_default.in_default-own.rest.1) ∙ pick-false _ (ne_eqb _ _ c.in_default.in_default-own.rest.0.1) ∙ pick-false _ (ne_eqb _ _ c.in_default.in_default-own.rest.0.0.1) ∙ pick-false _ (ne_eqb _ _ c.in_default.in_default-own.rest.0.0.0.1) ∙ pick-false _ (ne_eqb _ _ c.in_default.in_default-own.rest.0.0.0.0.1) ∙ pick-false _ (ne_eqb _ _ c.in_default.in_default-own.rest.0.0.0.0.0.1) ∙ pick-false _ (ne_eqb _ _ c.in_default.in_default-own.rest.0.0.0.0.0.0.1) ∙ pick-false _ (le-ltb _ _ c.if-offset-lt-IVR.false) ∙ pick-false _ (le-ltb _ _ c.if-offset-lt-SVR.false)
