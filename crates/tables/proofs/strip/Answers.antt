-- That `strip` of src/lib.rt keeps its contract.
use mathlib.Core.Path.{refl, ◌∙◌}
use Rattle.text.proofs.WriteLaws.{same_length as same-length-of}
use Rattle.tables.proofs.BareLaws.{bare-turn, bare-done}
use borrow.Author.Rules.{rules}
use Rattle.tables.proofs.strip.Goals as goal

pub loop-b-init : goal.loop-b-init
loop-b-init c = (refl, refl)

pub loop-b-preserved : goal.loop-b-preserved
loop-b-preserved c =
    (bare-turn c.args.text.now c.loop-b.b-index c.loop-b.inside _ _ _ _ (search rules) c.shown.ensures c.put-at.ensures c.loop-b.invariant.0, same-length-of _ _ _ c.put-at.ensures ∙ c.loop-b.invariant.1)

pub returns : goal.returns
returns c = bare-done c.args.text.now c.loop-b.b-index c.loop-b.inside _ _ (search rules) c.loop-b.invariant.0
