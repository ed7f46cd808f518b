-- That `put_decimal_digits` of src/lib.rt keeps its contract.
use mathlib.Core.Path.{ap, ◌∙◌}
use Rattle.text.specs.Text.{write}
use Rattle.text.proofs.WriteLaws.{and_then, nothing}
use Rattle.text.proofs.DigitLaws.{decimal-none, decimal_last, decimal-more}
use Rattle.text.proofs.+put_decimal_digits.Goals as goal

pub returns-then-digits-eq0 : goal.returns-then-digits-eq0
returns-then-digits-eq0 t c = nothing _ ∙ ap (write _) (decimal-none _ _ c.if-digits-eq0.true)

pub returns-then-n-lt10 : goal.returns-then-n-lt10
returns-then-n-lt10 t c =
    c.put.ensures ∙ ap (write _) (decimal_last _ _ c.if-digits-eq0.false c.if-n-lt10.true)

pub returns : goal.returns
returns t c =
    and_then _ _ _ c.put_decimal_digits-next.ensures c.put-2.ensures
    ∙ ap (write _) (decimal-more _ _ c.if-digits-eq0.false c.if-n-lt10.false)
