-- That `three_in` of src/room.rt keeps its contract.
use mathlib.Core.Path.{ap, ◌∙◌}
use native.Mathlib.Omega.{arith}
use Rattle.text.specs.Text.{write}
use Rattle.text.proofs.WriteLaws.{and_then}
use Rattle.text.proofs.DigitLaws.{last_more}
use Rattle.text.proofs.room.three_in.Goals as goal

pub returns : goal.returns
returns c =
    let a = c.two_in-next.ensures in
    let b = c.one_in.ensures in
    (and_then _ _ _ a.0 b.0 ∙ ap (write _) (last_more 2 _), (omega (arith, a.1.0, b.1.0), b.1.1 ∙ a.1.1))
