-- That `put_opening` of src/lib.rt keeps its contract.
use Rattle.drawing.proofs.BarLaws.{opening-made, opening-none}
use Rattle.drawing.proofs.FreeLaws.{free-within}
use Rattle.text.proofs.WriteLaws.{nothing}
use Rattle.text.specs.Text.{write}
use native.Mathlib.Omega.{arith}
use mathlib.Core.Path.{ap, ◌∙◌}
use Rattle.drawing.proofs.put_opening.Goals as goal

pub overflow_cast-to : goal.overflow_cast-to
overflow_cast-to c = omega (arith, (free-within _ _ _ _ c.free-to.ensures).1)

pub put_bar-requires : goal.put_bar-requires
put_bar-requires c =
    let h = free-within _ _ _ _ c.free-to.ensures in
    (omega (arith, h.0), omega (arith, h.1))

pub returns-then-was-is : goal.returns-then-was-is
returns-then-was-is c =
    let a = c.args in
    c.put_bar.ensures
    ∙ ap (write _) (opening-made a.ws.now a.k _ _ _ c.entries_of-was.ensures c.entries_of-is.ensures c.if-was-is.true c.free-to.ensures)

pub returns : goal.returns
returns c = nothing _ ∙ ap (write _) (opening-none _ _ _ _ c.entries_of-was.ensures c.entries_of-is.ensures c.if-was-is.false)
