-- That `put_digits` of src/lib.rt keeps its contract.
use mathlib.Core.Path.{ap, ◌∙◌}
use Rattle.text.specs.Text.{write}
use Rattle.text.proofs.WriteLaws.{and_then, nothing}
use Rattle.explain.proofs.StatedLaws.{hex-none, hex-more}
use Rattle.explain.proofs.+put_digits.Goals as goal

pub returns-then-digits-eq0 : goal.returns-then-digits-eq0
returns-then-digits-eq0 t c = nothing _ ∙ ap (write _) (hex-none _ _ c.if-digits-eq0.true)

pub returns : goal.returns
returns t c =
    and_then _ _ _ c.put_digits-next.ensures c.put_digit.ensures
    ∙ ap (write _) (hex-more _ _ c.if-digits-eq0.false)
