-- That `put_rows` of src/levels.rt keeps its contract.
use Prim.Native.Nat.{◌-◌}
use Rattle.sheet.proofs.TurnLaws.{down-done, down_turn}
use Rattle.sheet.specs.Levels.{level_row}
use Rattle.text.proofs.WriteLaws.{same_length as same_len}
use mathlib.Core.Path.{◌∙◌, refl}
use native.Mathlib.Omega.{arith}
use Rattle.sheet.proofs.levels.put_rows.Goals as goal

pub loop-l-init : goal.loop-l-init
loop-l-init c = (omega arith, refl, refl)

pub loop-l-preserved : goal.loop-l-preserved
loop-l-preserved c =
    let a = c.args in
    let h = c.loop-l-test.true in
    (omega (arith, c.loop-l.invariant.0), down_turn (level_row a.board.now.table a.board.now.names a.board.now.lengths) c.loop-l.l (c.loop-l.l - 1) _ _ _ (omega (arith, h)) c.put_row-next.ensures c.loop-l.invariant.1, same_len _ _ _ c.put_row-next.ensures ∙ c.loop-l.invariant.2)

pub returns : goal.returns
returns c =
    let a = c.args in
    down-done (level_row a.board.now.table a.board.now.names a.board.now.lengths) c.loop-l.l _ _ c.loop-l-test.false c.loop-l.invariant.1
