-- That `put_all` of src/lib.rt keeps its contract.
use Rattle.text.proofs.WriteLaws.{write-turn, write_done, same_length as same-length-of}
use mathlib.Core.Path.{refl, ◌∙◌}
use borrow.Author.Rules.{rules}
use Rattle.text.proofs.put_all.Goals as goal

pub loop-b-init : goal.loop-b-init
loop-b-init c = (refl, refl)

pub loop-b-preserved : goal.loop-b-preserved
loop-b-preserved c =
    (write-turn c.args.text.now c.loop-b.b-index _ _ _ (search rules) c.put-next.ensures c.loop-b.invariant.0, same-length-of _ _ _ c.put-next.ensures ∙ c.loop-b.invariant.1)

pub returns : goal.returns
returns c = write_done c.args.text.now c.loop-b.b-index _ _ (search rules) c.loop-b.invariant.0
