-- That `put_waits` of src/sources.rt keeps its contract.
use Rattle.sheet.proofs.TurnLaws.{each-done, each_turn}
use Rattle.sheet.specs.Sources.{waits_row}
use Rattle.text.proofs.WriteLaws.{same_length as same_len}
use borrow.Author.Rules.{rules}
use mathlib.Core.Path.{◌∙◌, refl}
use Rattle.sheet.proofs.sources.put_waits.Goals as goal

pub loop-i-init : goal.loop-i-init
loop-i-init c = (refl, refl)

pub loop-i-preserved : goal.loop-i-preserved
loop-i-preserved c =
    let a = c.args in
    (each_turn (waits_row a.w a.trace) a.is.now c.loop-i.i-index _ _ _ (search rules) c.put_wait-next.ensures c.loop-i.invariant.0, same_len _ _ _ c.put_wait-next.ensures ∙ c.loop-i.invariant.1)

pub returns : goal.returns
returns c =
    let a = c.args in
    each-done (waits_row a.w a.trace) a.is.now c.loop-i.i-index _ _ (search rules) c.loop-i.invariant.0
