-- That `write_bank` of src/effects.rt keeps its contract.
use mathlib.Core.Path.{ap, ◌∙◌}
use Prim.Native.Nat.{ℕ}
use borrow.Author.Tests.{ne_eqb}
use Rattle.words.proofs.ChoiceLaws.{pick-false}
use Rattle.words.specs.Choice.{pick}
use Rattle.words.specs.Word.{either, without}
use Rattle.aintc_registers.specs.Effects.{bank_written}
use Rattle.aintc_room.proofs.CellLaws.{laid_as, masks-is, soft-is, put_masks}
use Rattle.aintc_room.proofs.EffectLaws.{laid_at, masks_as, soft_as}
use Rattle.aintc_room.proofs.effects.write_bank.Goals as goal

pub returns-in-132 : goal.returns-in-132
unfolding bank_written pick
returns-in-132 c = λ a h. laid_at (λ (r : ℕ). bank_written a c.args.n r c.args.v) c.in-132.is (put_masks h _ _ c.requires)

pub returns-in-136 : goal.returns-in-136
unfolding bank_written pick
returns-in-136 c = λ a h. laid_at (λ (r : ℕ). bank_written a c.args.n r c.args.v) c.in-136.is (masks_as h _ _ _ c.requires (c.drop_bits-w.ensures ∙ ap (λ (w : ℕ). without w c.args.v) (masks-is h _ c.requires)))

pub returns-in-140 : goal.returns-in-140
unfolding bank_written pick
returns-in-140 c = λ a h. laid_at (λ (r : ℕ). bank_written a c.args.n r c.args.v) c.in-140.is (masks_as h _ _ _ c.requires (c.join-w.ensures ∙ ap (λ (w : ℕ). either w c.args.v) (masks-is h _ c.requires)))

pub returns-in-144 : goal.returns-in-144
unfolding bank_written pick
returns-in-144 c = λ a h. laid_at (λ (r : ℕ). bank_written a c.args.n r c.args.v) c.in-144.is (soft_as h _ _ _ c.requires (c.join-w-in-144.ensures ∙ ap (λ (w : ℕ). either w c.args.v) (soft-is h _ c.requires)))

pub returns-in-148 : goal.returns-in-148
unfolding bank_written pick
returns-in-148 c = λ a h. laid_at (λ (r : ℕ). bank_written a c.args.n r c.args.v) c.in-148.is (soft_as h _ _ _ c.requires (c.drop_bits-w-in-148.ensures ∙ ap (λ (w : ℕ). without w c.args.v) (soft-is h _ c.requires)))

pub returns-in_default : goal.returns-in_default
unfolding bank_written
returns-in_default c = λ a h. laid_as (pick-false _ (ne_eqb _ _ c.in_default.in_default-own.rest.1) ∙ pick-false _ (ne_eqb _ _ c.in_default.in_default-own.rest.0.1) ∙ pick-false _ (ne_eqb _ _ c.in_default.in_default-own.rest.0.0.1) ∙ pick-false _ (ne_eqb _ _ c.in_default.in_default-own.rest.0.0.0.1) ∙ pick-false _ (ne_eqb _ _ c.in_default.in_default-own.rest.0.0.0.0.1)) h
