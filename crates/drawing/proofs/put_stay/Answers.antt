-- That `put_stay` of src/lib.rt keeps its contract.
use Rattle.drawing.specs.Drawing.{bar_text}
use Rattle.drawing.proofs.FreeLaws.{free-within}
use native.Mathlib.Omega.{arith}
use mathlib.Core.Path.{◌∙◌}
use Rattle.drawing.proofs.put_stay.Goals as goal

pub overflow_cast-to : goal.overflow_cast-to
overflow_cast-to c = omega (arith, (free-within _ _ _ _ c.free-to.ensures).1)

pub put_bar-requires : goal.put_bar-requires
put_bar-requires c =
    let h = free-within _ _ _ _ c.free-to.ensures in
    (omega (arith, h.0), omega (arith, h.1))

pub returns : goal.returns
unfolding bar_text
returns c =
    c.put_bar.ensures ∙ rw (c.free-to.ensures, c.byte_at-s.ensures, c.byte_at-l.ensures)
