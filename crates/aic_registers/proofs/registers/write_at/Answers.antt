-- That `write_at` of src/registers.rt keeps its contract.
use Prim.Native.Nat.{ℕ}
use Rattle.words.specs.Choice.{pick}
use Rattle.aic_record.specs.Record.{with_enabled, with_forced}
use Rattle.aic_registers.specs.Effects.{vectored, enabled_by, disabled_by, unforced_by}
use Rattle.aic_registers.specs.Registers.{written_at}
use borrow.Author.Tests.{ne_eqb, lt-ltb, le-ltb}
use Rattle.words.proofs.ChoiceLaws.{pick_true, pick-false}
use mathlib.Core.Path.{sym, ap, ◌∙◌}
use Rattle.aic_registers.proofs.registers.write_at.Goals as goal

pub returns-then-offset-lt-SVR : goal.returns-then-offset-lt-SVR
unfolding written_at
returns-then-offset-lt-SVR c = c.write_mode.ensures ∙ pick_true _ (lt-ltb _ _ c.if-offset-lt-SVR.true)

pub returns-then-offset-lt-IVR : goal.returns-then-offset-lt-IVR
unfolding written_at vectored
returns-then-offset-lt-IVR c = c.put_vector.ensures ∙ pick_true _ (lt-ltb _ _ c.if-offset-lt-IVR.true) ∙ pick-false _ (le-ltb _ _ c.if-offset-lt-SVR.false)

pub returns-in-256 : goal.returns-in-256
unfolding written_at pick
returns-in-256 c = c.write_ivr.ensures ∙ sym (ap (λ (o : ℕ). written_at c.args.s o c.args.v) c.in-256.is)

pub returns-in-288 : goal.returns-in-288
unfolding written_at pick enabled_by
returns-in-288 c = c.with_enabled.ensures ∙ ap (with_enabled c.args.s) c.join.ensures ∙ sym (ap (λ (o : ℕ). written_at c.args.s o c.args.v) c.in-288.is)

pub returns-in-292 : goal.returns-in-292
unfolding written_at pick disabled_by
returns-in-292 c = c.with_enabled-in-292.ensures ∙ ap (with_enabled c.args.s) c.drop_bits.ensures ∙ sym (ap (λ (o : ℕ). written_at c.args.s o c.args.v) c.in-292.is)

pub returns-in-296 : goal.returns-in-296
unfolding written_at pick
returns-in-296 c = c.clear_memory.ensures ∙ sym (ap (λ (o : ℕ). written_at c.args.s o c.args.v) c.in-296.is)

pub returns-in-300 : goal.returns-in-300
unfolding written_at pick
returns-in-300 c = c.set_memory.ensures ∙ sym (ap (λ (o : ℕ). written_at c.args.s o c.args.v) c.in-300.is)

pub returns-in-304 : goal.returns-in-304
unfolding written_at pick
returns-in-304 c = c.end_last.ensures ∙ sym (ap (λ (o : ℕ). written_at c.args.s o c.args.v) c.in-304.is)

pub returns-in-308 : goal.returns-in-308
unfolding written_at pick
returns-in-308 c = c.with_spurious.ensures ∙ sym (ap (λ (o : ℕ). written_at c.args.s o c.args.v) c.in-308.is)

pub returns-in-312 : goal.returns-in-312
unfolding written_at pick
returns-in-312 c = c.write_debug.ensures ∙ sym (ap (λ (o : ℕ). written_at c.args.s o c.args.v) c.in-312.is)

pub returns-in-320 : goal.returns-in-320
unfolding written_at pick
returns-in-320 c = c.force.ensures ∙ sym (ap (λ (o : ℕ). written_at c.args.s o c.args.v) c.in-320.is)

pub returns-in-324 : goal.returns-in-324
unfolding written_at pick unforced_by
returns-in-324 c = c.with_forced.ensures ∙ ap (with_forced c.args.s) c.drop_bits-in-324.ensures ∙ sym (ap (λ (o : ℕ). written_at c.args.s o c.args.v) c.in-324.is)

pub returns-in_default : goal.returns-in_default
unfolding written_at
returns-in_default c = pick-false _ (ne_eqb _ _ c.in_default.in_default-own.rest.1) ∙ pick-false _ (ne_eqb _ _ c.in_default.in_default-own.rest.0.1) ∙ pick-false _ (ne_eqb _ _ c.in_default.in_default-own.rest.0.0.1) ∙ pick-false _ (ne_eqb _ _ c.in_default.in_default-own.rest.0.0.0.1) ∙ pick-false _ (ne_eqb _ _ c.in_default.in_default-own.rest.0.0.0.0.1) ∙ pick-false _ (ne_eqb _ _ c.in_default.in_default-own.rest.0.0.0.0.0.1) ∙ pick-false _ (ne_eqb _ _ c.in_default.in_default-own.rest.0.0.0.0.0.0.1) ∙ pick-false _ (ne_eqb _ _ c.in_default.in_default-own.rest.0.0.0.0.0.0.0.1) ∙ pick-false _ (ne_eqb _ _ c.in_default.in_default-own.rest.0.0.0.0.0.0.0.0.1) ∙ pick-false _ (ne_eqb _ _ c.in_default.in_default-own.rest.0.0.0.0.0.0.0.0.0.1) ∙ pick-false _ (le-ltb _ _ c.if-offset-lt-IVR.false) ∙ pick-false _ (le-ltb _ _ c.if-offset-lt-SVR.false)
