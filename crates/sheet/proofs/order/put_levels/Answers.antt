-- That `put_levels` of src/order.rt keeps its contract.
use Prim.Native.Nat.{◌-◌}
use Rattle.sheet.proofs.TurnLaws.{down-done, down_turn}
use Rattle.sheet.specs.Order.{by_level, chosen, stands}
use Rattle.text.proofs.WriteLaws.{same_length as same_len}
use mathlib.Core.Path.{◌∙◌, refl}
use native.Mathlib.Omega.{arith}
use Rattle.sheet.proofs.order.put_levels.Goals as goal

pub loop-l-init : goal.loop-l-init
loop-l-init c = (omega arith, refl, refl)

pub loop-l-preserved : goal.loop-l-preserved
loop-l-preserved c =
    let a = c.args in
    let h = c.loop-l-test.true in
    (omega (arith, c.loop-l.invariant.0), down_turn (λ c. chosen (stands a.t a.used a.fast c) 32) c.loop-l.l (c.loop-l.l - 1) _ _ _ (omega (arith, h)) c.put_level-next.ensures c.loop-l.invariant.1, same_len _ _ _ c.put_level-next.ensures ∙ c.loop-l.invariant.2)

pub returns : goal.returns
unfolding by_level
returns c =
    let a = c.args in
    down-done (λ l. chosen (stands a.t a.used a.fast l) 32) c.loop-l.l _ _ c.loop-l-test.false c.loop-l.invariant.1
