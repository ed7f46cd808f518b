-- That `put_pin` of src/lib.rt keeps its contract.
use Prim.Native.Nat.{◌≤◌}
use lib.Dec.{ltb, leb}
use Rattle.words.proofs.TruthLaws.{and_right}
use Rattle.board_wires.specs.declared.Board.{Board}
use Rattle.board.specs.Record.{answered}
use Rattle.board.specs.Model.{put_pin}
use Rattle.board.proofs.AnswerLaws.{taken, left, none-given}
use mathlib.Core.Path.{sym, ap, ◌∙◌}
use borrow.Author.Tests.{leb-true}
use borrow.Author.Rules.{rules}
use Rattle.board.proofs.put_pin.Goals as goal

pub overflow_cast-level : goal.overflow_cast-level
overflow_cast-level c =
    let a = c.args in
    let g = none-given _ _ _ (sym c.checked-n.ensures ∙ c.if-n-eq-CARRIED_OUT.true) in
    let h : a.level ≤ 1 = leb-true _ _ (and_right (ltb a.p 320) (leb a.level 1) g.1.0) in
    search rules

pub returns-then-n-eq-CARRIED_OUT : goal.returns-then-n-eq-CARRIED_OUT
unfolding put_pin
returns-then-n-eq-CARRIED_OUT c =
    taken c.args.b c.checked-n.ensures c.if-n-eq-CARRIED_OUT.true
    (c.answer_of.ensures ∙ ap (λ (d : Board). answered d 0) c.with_pin.ensures)

pub returns : goal.returns
unfolding put_pin
returns c = left c.args.b _ c.checked-n.ensures c.if-n-eq-CARRIED_OUT.false c.refusal_of.ensures
