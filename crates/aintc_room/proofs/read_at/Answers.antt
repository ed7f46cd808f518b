-- That `read_at` of src/lib.rt keeps its contract.
use mathlib.Core.Path.{ap, ◌∙◌}
use Prim.Native.Nat.{◌-◌, ◌/◌}
use native.Mathlib.Omega.{arith}
use borrow.Author.Tests.{lt-ltb, le-ltb}
use Rattle.words.proofs.ChoiceLaws.{pick_true, pick-false}
use Rattle.aintc_registers.specs.Registers.{bank_read, read_at}
use Rattle.aintc_room.proofs.read_at.Goals as goal

pub returns-then-offset-lt-ITR : goal.returns-then-offset-lt-ITR
unfolding read_at
returns-then-offset-lt-ITR c = λ a h. c.read_single.ensures a h ∙ pick_true _ (lt-ltb _ _ c.if-offset-lt-ITR.true)

pub read_bank-requires : goal.read_bank-requires
read_bank-requires c = omega (arith, c.if-offset-lt-ILR.true)

pub returns-then-offset-lt-ILR : goal.returns-then-offset-lt-ILR
unfolding read_at
returns-then-offset-lt-ILR c =
    let x = c.args in
    λ a h. c.read_bank.ensures a h ∙ ap (bank_read a ((x.offset - 128) / 32)) c.row_of.ensures ∙ pick_true _ (lt-ltb _ _ c.if-offset-lt-ILR.true) ∙ pick-false _ (le-ltb _ _ c.if-offset-lt-ITR.false)

pub returns : goal.returns
unfolding read_at
returns c = λ a h. c.read_route.ensures a h ∙ pick-false _ (le-ltb _ _ c.if-offset-lt-ILR.false) ∙ pick-false _ (le-ltb _ _ c.if-offset-lt-ITR.false)
