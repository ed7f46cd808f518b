-- That `write_at` of src/lib.rt keeps its contract.
use mathlib.Core.Path.{◌∙◌}
use Prim.Native.Nat.{ℕ}
use borrow.Author.Tests.{ne_eqb, lt-ltb, le-ltb}
use Rattle.words.specs.Choice.{pick}
use Rattle.words.proofs.ChoiceLaws.{pick_true, pick-false}
use Rattle.aic_registers.specs.Registers.{written_at}
use Rattle.aic_room.proofs.CellLaws.{laid_as}
use Rattle.aic_room.proofs.ReplyLaws.{laid_at, few}
use Rattle.aic_room.proofs.write_at.Goals as goal

pub returns-then-offset-lt-SVR : goal.returns-then-offset-lt-SVR
unfolding written_at
returns-then-offset-lt-SVR c = λ a ok h. laid_as (pick_true _ (lt-ltb _ _ c.if-offset-lt-SVR.true)) (c.write_mode.ensures a h)

pub returns-then-offset-lt-IVR : goal.returns-then-offset-lt-IVR
unfolding written_at
returns-then-offset-lt-IVR c = λ a ok h. laid_as (pick_true _ (lt-ltb _ _ c.if-offset-lt-IVR.true) ∙ pick-false _ (le-ltb _ _ c.if-offset-lt-SVR.false)) (c.write_vector.ensures a h)

pub returns-in-256 : goal.returns-in-256
unfolding written_at pick
returns-in-256 c =
    λ a ok h. laid_at (λ (o : ℕ). written_at a o c.args.v) c.in-256.is (c.write_ivr.ensures a ok h)

pub returns-in-288 : goal.returns-in-288
unfolding written_at pick
returns-in-288 c =
    λ a ok h. laid_at (λ (o : ℕ). written_at a o c.args.v) c.in-288.is (c.enable.ensures a h)

pub returns-in-292 : goal.returns-in-292
unfolding written_at pick
returns-in-292 c =
    λ a ok h. laid_at (λ (o : ℕ). written_at a o c.args.v) c.in-292.is (c.disable.ensures a h)

pub returns-in-296 : goal.returns-in-296
unfolding written_at pick
returns-in-296 c =
    λ a ok h. laid_at (λ (o : ℕ). written_at a o c.args.v) c.in-296.is (c.clear.ensures a h)

pub returns-in-300 : goal.returns-in-300
unfolding written_at pick
returns-in-300 c =
    λ a ok h. laid_at (λ (o : ℕ). written_at a o c.args.v) c.in-300.is (c.set.ensures a h)

pub returns-in-304 : goal.returns-in-304
unfolding written_at pick
returns-in-304 c =
    λ a ok h. laid_at (λ (o : ℕ). written_at a o c.args.v) c.in-304.is (c.end_last.ensures a h (few a ok))

pub returns-in-308 : goal.returns-in-308
unfolding written_at pick
returns-in-308 c =
    λ a ok h. laid_at (λ (o : ℕ). written_at a o c.args.v) c.in-308.is (c.write_spurious.ensures a h)

pub returns-in-312 : goal.returns-in-312
unfolding written_at pick
returns-in-312 c =
    λ a ok h. laid_at (λ (o : ℕ). written_at a o c.args.v) c.in-312.is (c.write_debug.ensures a h)

pub returns-in-320 : goal.returns-in-320
unfolding written_at pick
returns-in-320 c =
    λ a ok h. laid_at (λ (o : ℕ). written_at a o c.args.v) c.in-320.is (c.force.ensures a h)

pub returns-in-324 : goal.returns-in-324
unfolding written_at pick
returns-in-324 c =
    λ a ok h. laid_at (λ (o : ℕ). written_at a o c.args.v) c.in-324.is (c.unforce.ensures a h)

pub returns-in_default : goal.returns-in_default
unfolding written_at
returns-in_default c =
    λ a ok h. laid_as (pick-false _ (ne_eqb _ _ c.in_default.in_default-own.rest.1) ∙ pick-false _ (ne_eqb _ _ c.in_default.in_default-own.rest.0.1) ∙ pick-false _ (ne_eqb _ _ c.in_default.in_default-own.rest.0.0.1) ∙ pick-false _ (ne_eqb _ _ c.in_default.in_default-own.rest.0.0.0.1) ∙ pick-false _ (ne_eqb _ _ c.in_default.in_default-own.rest.0.0.0.0.1) ∙ pick-false _ (ne_eqb _ _ c.in_default.in_default-own.rest.0.0.0.0.0.1) ∙ pick-false _ (ne_eqb _ _ c.in_default.in_default-own.rest.0.0.0.0.0.0.1) ∙ pick-false _ (ne_eqb _ _ c.in_default.in_default-own.rest.0.0.0.0.0.0.0.1) ∙ pick-false _ (ne_eqb _ _ c.in_default.in_default-own.rest.0.0.0.0.0.0.0.0.1) ∙ pick-false _ (ne_eqb _ _ c.in_default.in_default-own.rest.0.0.0.0.0.0.0.0.0.1) ∙ pick-false _ (le-ltb _ _ c.if-offset-lt-IVR.false) ∙ pick-false _ (le-ltb _ _ c.if-offset-lt-SVR.false)) h
