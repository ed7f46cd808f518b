-- That `put_values` of src/lib.rt keeps its contract.
use mathlib.Core.Path.{refl, ◌∙◌}
use Rattle.text.proofs.WriteLaws.{same_length as same-length-of}
use Rattle.vcd.proofs.ChangeLaws.{values-turn, values-done}
use Rattle.vcd.proofs.put_values.Goals as goal

pub loop-k-init : goal.loop-k-init
loop-k-init c = (refl, refl)

pub loop-k-preserved : goal.loop-k-preserved
loop-k-preserved c =
    let a = c.args in (
      values-turn a.widths.now a.values.now c.loop-k.k _ _ _ _ c.loop-k-test.true c.number_at.ensures c.put_change-next.ensures c.loop-k.invariant.0,
      same-length-of (c.loop-k.out, c.loop-k.next) _ _ c.put_change-next.ensures ∙ c.loop-k.invariant.1,
    )

pub returns : goal.returns
returns c =
    let a = c.args in
    values-done a.widths.now a.values.now c.loop-k.k _ _ c.loop-k-test.false c.loop-k.invariant.0
