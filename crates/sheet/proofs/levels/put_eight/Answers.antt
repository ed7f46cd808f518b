-- That `put_eight` of src/levels.rt keeps its contract.
use Prim.Native.Nat.{◌-◌}
use Rattle.sheet.proofs.TurnLaws.{down-done, down_turn}
use Rattle.sheet.specs.Levels.{bar, tallest}
use Rattle.stack.specs.Bytes.{level_bytes}
use Rattle.text.proofs.WriteLaws.{same_length as same_len}
use mathlib.Core.Path.{◌∙◌, refl}
use native.Mathlib.Omega.{arith}
use Rattle.sheet.proofs.levels.put_eight.Goals as goal

pub loop-l-init : goal.loop-l-init
loop-l-init c = (omega arith, refl, refl)

pub loop-l-preserved : goal.loop-l-preserved
loop-l-preserved c =
    let a = c.args in
    let h = c.loop-l-test.true in
    (omega (arith, c.loop-l.invariant.0), down_turn (λ c. bar (tallest a.t 8) (level_bytes a.t c) c) c.loop-l.l (c.loop-l.l - 1) _ _ _ (omega (arith, h)) (rw (← c.level_bytes-b.ensures, ← c.tallest-most.ensures) c.put_bar-next.ensures) c.loop-l.invariant.1, same_len _ _ _ c.put_bar-next.ensures ∙ c.loop-l.invariant.2)

pub returns : goal.returns
returns c =
    let a = c.args in
    down-done (λ l. bar (tallest a.t 8) (level_bytes a.t l) l) c.loop-l.l _ _ c.loop-l-test.false c.loop-l.invariant.1
