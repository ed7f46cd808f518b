-- That `put_rows` of src/frame.rt keeps its contract.
use native.Mathlib.Omega.{arith}
use Rattle.words.proofs.CountingLaws.{at_end}
use Rattle.text.specs.Text.{write}
use Rattle.text.proofs.WriteLaws.{same_length as same_len}
use Rattle.drawing.specs.Frame.{rows}
use Rattle.drawing.proofs.FrameLaws.{rows_none, rows_more}
use borrow.Author.Rules.{rules}
use Rattle.drawing.proofs.frame.put_rows.Goals as goal

pub loop-n-init : goal.loop-n-init
loop-n-init c = (omega arith, rows_none _)

pub loop-n-preserved : goal.loop-n-preserved
loop-n-preserved c =
    let t = c.loop-n-test.true in
    (search rules, rows_more _ _ _ c.loop-n.n _ (omega (arith, t)) c.loop-n.invariant.1 c.put_centred-next.ensures)

pub shape_of-out : goal.shape_of-out
shape_of-out c = same_len _ _ _ c.loop-n.invariant.1

pub returns : goal.returns
returns c =
    let a = c.args in
    at_end (λ n. write (a.out.now, a.at) (rows n)) _ _ c.loop-n.invariant.0 c.loop-n-test.false c.loop-n.invariant.1
