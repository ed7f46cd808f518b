-- That `outputs` of src/lib.rt keeps its contract.
use mathlib.Core.Bool.{Bool}
use Rattle.board.specs.Model.{checked, silent, outputs}
use Rattle.coreinterrupt.specs.Model as CoreInterrupt
use borrow.Author.Tests.{eq-eqb, ne_eqb}
use Rattle.words.proofs.ChoiceLaws.{pick_true, pick-false}
use mathlib.Core.Path.{sym, ap, ◌∙◌}
use Rattle.board.proofs.outputs.Goals as goal

pub returns-then-n-eq-CARRIED_OUT : goal.returns-then-n-eq-CARRIED_OUT
unfolding outputs
returns-then-n-eq-CARRIED_OUT c =
    let a = c.args in
    let n = c.checked-n.ensures ∙ ap (λ (t : Bool). checked a.b t 0) c.is_there.ensures in
    c.outputs.ensures ∙ ap CoreInterrupt.outputs c.wired_core.ensures ∙ pick_true _ (eq-eqb _ _ (sym n ∙ c.if-n-eq-CARRIED_OUT.true))

pub returns : goal.returns
unfolding outputs
returns c =
    let a = c.args in
    let n = c.checked-n.ensures ∙ ap (λ (t : Bool). checked a.b t 0) c.is_there.ensures in
    ap silent n ∙ pick-false _ (ne_eqb _ _ (λ z. c.if-n-eq-CARRIED_OUT.false (n ∙ z)))
