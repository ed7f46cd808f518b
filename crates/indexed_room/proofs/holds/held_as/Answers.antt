-- That `held_as` of src/holds.rt keeps its contract.
use mathlib.Core.Path.{◌≡◌, ◌∙◌}
use Prim.Native.Nat.{◌+◌, ◌%◌}
use native.Mathlib.Omega.{arith}
use borrow.Author.Tests.{eq-eqb, ne_eqb}
use Rattle.words.proofs.ChoiceLaws.{pick_true, pick-false}
use Rattle.cic_held.specs.Held.{held_as}
use Rattle.indexed_room.proofs.holds.held_as.Goals as goal

pub returns-then-word-eq-NONE : goal.returns-then-word-eq-NONE
unfolding held_as
returns-then-word-eq-NONE c = λ small. pick_true _ (eq-eqb c.args.word _ c.if-word-eq-NONE.true)

pub returns : goal.returns
unfolding held_as
returns c = λ small.
    let w = c.args.word in
    let e : w % 65534 + 2 ≡ w + 2 = omega (arith, small c.if-word-eq-NONE.false) in
    e ∙ pick-false _ (ne_eqb w _ c.if-word-eq-NONE.false)
