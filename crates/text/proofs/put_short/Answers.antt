-- That `put_short` of src/lib.rt keeps its contract.
use mathlib.Core.Path.{ap, ◌∙◌}
use native.Mathlib.Omega.{arith}
use Rattle.text.specs.Text.{write}
use Rattle.text.proofs.DigitLaws.{last-single, last-all}
use Rattle.text.proofs.put_short.Goals as goal

pub returns-then-n-lt10 : goal.returns-then-n-lt10
returns-then-n-lt10 c =
    c.put_one.ensures ∙ ap (write _) (last-single 19 _ c.if-n-lt10.true)

pub returns-then-n-lt100 : goal.returns-then-n-lt100
returns-then-n-lt100 c =
    c.put_two.ensures ∙ ap (write _) (last-all 1 19 _ (omega arith) (omega (arith, c.if-n-lt10.false)) (omega (arith, c.if-n-lt100.true)))

pub returns-then-n-lt1000 : goal.returns-then-n-lt1000
returns-then-n-lt1000 c =
    c.put_three.ensures ∙ ap (write _) (last-all 2 19 _ (omega arith) (omega (arith, c.if-n-lt100.false)) (omega (arith, c.if-n-lt1000.true)))

pub returns-then-n-lt10000 : goal.returns-then-n-lt10000
returns-then-n-lt10000 c =
    c.put_four.ensures ∙ ap (write _) (last-all 3 19 _ (omega arith) (omega (arith, c.if-n-lt1000.false)) (omega (arith, c.if-n-lt10000.true)))

pub returns : goal.returns
returns c =
    c.put_five.ensures ∙ ap (write _) (last-all 4 19 _ (omega arith) (omega (arith, c.if-n-lt10000.false)) (omega (arith, c.requires)))
