-- That `write_at` of src/effects.rt keeps its contract.
use mathlib.Core.Path.{ap, ◌∙◌}
use Prim.Native.Nat.{ℕ, ◌-◌, ◌/◌}
use native.Mathlib.Omega.{arith}
use borrow.Author.Tests.{lt-ltb, le-ltb}
use Rattle.words.proofs.ChoiceLaws.{pick_true, pick-false}
use Rattle.aintc_registers.specs.Effects.{bank_written, written_at}
use Rattle.aintc_room.proofs.CellLaws.{laid_as}
use Rattle.aintc_room.proofs.effects.write_at.Goals as goal

pub returns-then-offset-lt-ITR : goal.returns-then-offset-lt-ITR
unfolding written_at
returns-then-offset-lt-ITR c = λ a h. laid_as (pick_true _ (lt-ltb _ _ c.if-offset-lt-ITR.true)) (c.write_single.ensures a h)

pub write_bank-requires : goal.write_bank-requires
write_bank-requires c = omega (arith, c.if-offset-lt-ILR.true)

pub returns-then-offset-lt-ILR : goal.returns-then-offset-lt-ILR
unfolding written_at
returns-then-offset-lt-ILR c =
    let x = c.args in
    λ a h. laid_as (ap (λ (r : ℕ). bank_written a ((x.offset - 128) / 32) r x.v) c.row_of.ensures ∙ pick_true _ (lt-ltb _ _ c.if-offset-lt-ILR.true) ∙ pick-false _ (le-ltb _ _ c.if-offset-lt-ITR.false)) (c.write_bank.ensures a h)

pub returns : goal.returns
unfolding written_at
returns c = λ a h. laid_as (pick-false _ (le-ltb _ _ c.if-offset-lt-ILR.false) ∙ pick-false _ (le-ltb _ _ c.if-offset-lt-ITR.false)) (c.write_route.ensures a h)
