-- That `put_escaped` of src/escapes.rt keeps its contract.
use Rattle.sheet.proofs.TurnLaws.{each-done, each_turn}
use Rattle.sheet.specs.Names.{escape}
use Rattle.text.proofs.WriteLaws.{same_length as same_len}
use borrow.Author.Rules.{rules}
use mathlib.Core.Path.{◌∙◌, refl}
use Rattle.sheet.proofs.escapes.put_escaped.Goals as goal

pub loop-b-init : goal.loop-b-init
loop-b-init c = (refl, refl)

pub loop-b-preserved : goal.loop-b-preserved
loop-b-preserved c =
    let a = c.args in
    (each_turn escape a.name.now c.loop-b.b-index _ _ _ (search rules) c.put_byte-next.ensures c.loop-b.invariant.0, same_len _ _ _ c.put_byte-next.ensures ∙ c.loop-b.invariant.1)

pub returns : goal.returns
returns c =
    let a = c.args in
    each-done escape a.name.now c.loop-b.b-index _ _ (search rules) c.loop-b.invariant.0
