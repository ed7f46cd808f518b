-- That `add` of src/lib.rt keeps its contract.
use lib.Dec.{ltb}
use Rattle.coreinterrupt.specs.declared.Begun.{Begun}
use Rattle.board_wires.specs.declared.Board.{Board}
use Rattle.board.specs.Record.{with_controller, answered}
use Rattle.board.specs.Model.{checked, add}
use Rattle.board.proofs.AnswerLaws.{taken, left, none-given}
use mathlib.Core.Path.{sym, ap, ◌∙◌}
use borrow.Author.Tests.{ltb-true}
use Rattle.board.proofs.add.Goals as goal

pub with_controller-requires : goal.with_controller-requires
with_controller-requires c = ltb-true _ _ (none-given _ _ _ (sym c.checked-n.ensures ∙ c.if-n-eq-CARRIED_OUT.true)).1.0

pub returns-then-n-eq-CARRIED_OUT : goal.returns-then-n-eq-CARRIED_OUT
unfolding add
returns-then-n-eq-CARRIED_OUT c =
    let b = c.args.b in
    let s = c.start-s.ensures in
    taken b (c.checked-n.ensures ∙ ap (λ (x : Begun). checked b (ltb b.controllers 8) x.refusal) s)
    c.if-n-eq-CARRIED_OUT.true
    (c.answer_of.ensures ∙ ap (λ (d : Board). answered d b.controllers) (c.with_controller.ensures ∙ ap (λ (x : Begun). with_controller b x.core) s))

pub returns : goal.returns
unfolding add
returns c =
    let b = c.args.b in
    let s = c.start-s.ensures in
    left b _ (c.checked-n.ensures ∙ ap (λ (x : Begun). checked b (ltb b.controllers 8) x.refusal) s) c.if-n-eq-CARRIED_OUT.false
    c.refusal_of.ensures
