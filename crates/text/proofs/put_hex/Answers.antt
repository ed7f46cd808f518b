-- That `put_hex` of src/lib.rt keeps its contract.
use mathlib.Core.Path.{ap, ◌∙◌}
use Rattle.text.specs.Text.{write}
use Rattle.text.proofs.WriteLaws.{eight-bytes}
use Rattle.text.proofs.DigitLaws.{hex-row}
use Rattle.text.proofs.put_hex.Goals as goal

pub returns : goal.returns
returns c =
    eight-bytes _ _ _ _ _ _ _ _ _ c.put_hex_digit-a.ensures c.put_hex_digit-b.ensures c.put_hex_digit-c.ensures c.put_hex_digit-d.ensures
    c.put_hex_digit-e.ensures c.put_hex_digit-f.ensures c.put_hex_digit-g.ensures c.put_hex_digit.ensures
    ∙ ap (write _) (hex-row _)
