-- That `write_single` of src/effects.rt keeps its contract.
use mathlib.Core.Path.{ap, ◌∙◌}
use Prim.Native.Nat.{ℕ, ◌%◌}
use native.Mathlib.Omega.{arith}
use borrow.Author.Tests.{ne_eqb}
use Rattle.words.proofs.ChoiceLaws.{pick-false}
use Rattle.words.specs.Choice.{pick}
use Rattle.words.specs.Counting.{one}
use Rattle.words.specs.Word.{bit}
use Rattle.aintc_registers.specs.Effects.{single_written}
use Rattle.aintc_room.proofs.CellLaws.{laid_as, put-revision, put_guarded, put-idle, put-threshold}
use Rattle.aintc_room.proofs.EffectLaws.{laid_at}
use Rattle.aintc_room.proofs.effects.write_single.Goals as goal

pub returns-in-72 : goal.returns-in-72
unfolding single_written pick
returns-in-72 c = λ a h. laid_at (λ (o : ℕ). single_written a o c.args.v) c.in-72.is (c.agree.ensures a h)

pub returns-in-0 : goal.returns-in-0
unfolding single_written pick
returns-in-0 c = λ a h. laid_at (λ (o : ℕ). single_written a o c.args.v) c.in-0.is (put-revision h (c.args.v % 256) (omega arith))

pub returns-in-16 : goal.returns-in-16
unfolding single_written pick
returns-in-16 c = λ a h. laid_at (λ (o : ℕ). single_written a o c.args.v) c.in-16.is (c.configure.ensures a h)

pub returns-in-76 : goal.returns-in-76
unfolding single_written pick
returns-in-76 c = λ a h. laid_at (λ (o : ℕ). single_written a o c.args.v) c.in-76.is (put_guarded h (bit c.args.v 0) _ (c.one_if.ensures ∙ ap one c.has.ensures))

pub returns-in-80 : goal.returns-in-80
unfolding single_written pick
returns-in-80 c = λ a h. laid_at (λ (o : ℕ). single_written a o c.args.v) c.in-80.is (put-idle h (bit c.args.v 1) (bit c.args.v 0) _ _ (c.one_if-in-80.ensures ∙ ap one c.has-in-80.ensures) (c.one_if-in-80-2.ensures ∙ ap one c.has-in-80-2.ensures))

pub returns-in-104 : goal.returns-in-104
unfolding single_written pick
returns-in-104 c = λ a h. laid_at (λ (o : ℕ). single_written a o c.args.v) c.in-104.is (put-threshold h (c.args.v % 256) (omega arith))

pub returns-in_default : goal.returns-in_default
unfolding single_written
returns-in_default c = λ a h. laid_as (pick-false _ (ne_eqb _ _ c.in_default.in_default-own.rest.1) ∙ pick-false _ (ne_eqb _ _ c.in_default.in_default-own.rest.0.1) ∙ pick-false _ (ne_eqb _ _ c.in_default.in_default-own.rest.0.0.1) ∙ pick-false _ (ne_eqb _ _ c.in_default.in_default-own.rest.0.0.0.0.0.1) ∙ pick-false _ (ne_eqb _ _ c.in_default.in_default-own.rest.0.0.0.1) ∙ pick-false _ (ne_eqb _ _ c.in_default.in_default-own.rest.0.0.0.0.1)) h
