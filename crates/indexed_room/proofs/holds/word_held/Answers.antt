-- That `word_held` of src/holds.rt keeps its contract.
use mathlib.Core.Path.{◌≡◌, ◌∙◌}
use Prim.Native.Nat.{◌-◌}
use native.Mathlib.Omega.{arith}
use borrow.Author.Tests.{eq-eqb, ne_eqb}
use Rattle.words.proofs.ChoiceLaws.{pick_true, pick-false}
use Rattle.cic_held.specs.Held.{word_held}
use Rattle.indexed_room.proofs.holds.word_held.Goals as goal

pub returns-then-x-eq1 : goal.returns-then-x-eq1
unfolding word_held
returns-then-x-eq1 c = pick_true _ (eq-eqb c.args.x 1 c.if-x-eq1.true)

pub returns-then-x-lt2 : goal.returns-then-x-lt2
unfolding word_held
returns-then-x-lt2 c =
    let x = c.args.x in
    let e : 0 ≡ x - 2 = omega (arith, c.if-x-lt2.true) in
    e ∙ pick-false _ (ne_eqb x 1 c.if-x-eq1.false)

pub returns : goal.returns
unfolding word_held
returns c = pick-false _ (ne_eqb c.args.x 1 c.if-x-eq1.false)
