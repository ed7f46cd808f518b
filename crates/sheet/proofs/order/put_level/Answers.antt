-- That `put_level` of src/order.rt keeps its contract.
use Rattle.sheet.proofs.TurnLaws.{chosen_more, chosen_none}
use Rattle.sheet.specs.Order.{chosen, stands}
use Rattle.text.proofs.WriteLaws.{same_length as same_len}
use Rattle.text.specs.Text.{write}
use Rattle.words.proofs.CountingLaws.{at_end}
use borrow.Author.Rules.{rules}
use native.Mathlib.Omega.{arith}
use Rattle.sheet.proofs.order.put_level.Goals as goal

pub loop-i-init : goal.loop-i-init
loop-i-init c = (omega arith, chosen_none _ _)

pub loop-i-preserved : goal.loop-i-preserved
loop-i-preserved c =
    let a = c.args in
    (search rules, chosen_more (stands a.t a.used a.fast a.l) c.loop-i.i _ _ _ _ c.stands-here.ensures c.loop-i.invariant.1 c.put_if-next.ensures)

pub shape_of-out : goal.shape_of-out
shape_of-out c = same_len _ _ _ c.loop-i.invariant.1

pub returns : goal.returns
returns c =
    let a = c.args in
    at_end (λ n. write (a.out.now, a.at) (chosen (stands a.t a.used a.fast a.l) n)) _ _ c.loop-i.invariant.0 c.loop-i-test.false c.loop-i.invariant.1
