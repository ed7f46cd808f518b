-- That `put_changes` of src/lib.rt keeps its contract.
use mathlib.Core.Path.{refl, ◌∙◌}
use Rattle.text.proofs.WriteLaws.{same_length as same-length-of}
use Rattle.vcd.proofs.ChangeLaws.{changes-turn, changes-done}
use Rattle.vcd.proofs.put_changes.Goals as goal

pub loop-k-init : goal.loop-k-init
loop-k-init c = (refl, refl)

pub loop-k-preserved : goal.loop-k-preserved
loop-k-preserved c =
    let a = c.args in (
      changes-turn a.widths.now a.before.now a.values.now c.loop-k.k _ _ _ _ _ c.loop-k-test.true c.number_at.ensures c.number_at-in-loop-k.ensures c.put_if_changed-next.ensures c.loop-k.invariant.0,
      same-length-of (c.loop-k.out, c.loop-k.next) _ _ c.put_if_changed-next.ensures ∙ c.loop-k.invariant.1,
    )

pub returns : goal.returns
returns c =
    let a = c.args in
    changes-done a.widths.now a.before.now a.values.now c.loop-k.k _ _ c.loop-k-test.false c.loop-k.invariant.0
