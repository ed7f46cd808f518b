-- That `decimal_in` of src/room.rt keeps its contract.
use mathlib.Core.Path.{ap, ◌∙◌}
use native.Mathlib.Omega.{arith}
use Rattle.text.specs.Text.{write}
use Rattle.text.proofs.DigitLaws.{last-single, last-all}
use Rattle.text.proofs.RoomLaws.{decimal-stands}
use borrow.Author.Rules.{rules}
use Rattle.text.proofs.room.decimal_in.Goals as goal

pub returns-then-n-lt10 : goal.returns-then-n-lt10
returns-then-n-lt10 c =
    decimal-stands _ _ _ (search rules) (c.one_in.ensures.0 ∙ ap (write _) (last-single 19 _ c.if-n-lt10.true))

pub returns-then-n-lt100 : goal.returns-then-n-lt100
returns-then-n-lt100 c =
    decimal-stands _ _ _ (search rules)
    (c.two_in.ensures.0 ∙ ap (write _) (last-all 1 19 _ (omega arith) (omega (arith, c.if-n-lt10.false)) (omega (arith, c.if-n-lt100.true))))

pub returns-then-n-lt1000 : goal.returns-then-n-lt1000
returns-then-n-lt1000 c =
    decimal-stands _ _ _ (search rules)
    (c.three_in.ensures.0 ∙ ap (write _) (last-all 2 19 _ (omega arith) (omega (arith, c.if-n-lt100.false)) (omega (arith, c.if-n-lt1000.true))))

pub returns-then-n-lt10000 : goal.returns-then-n-lt10000
returns-then-n-lt10000 c =
    decimal-stands _ _ _ (search rules)
    (c.four_in.ensures.0 ∙ ap (write _) (last-all 3 19 _ (omega arith) (omega (arith, c.if-n-lt1000.false)) (omega (arith, c.if-n-lt10000.true))))

pub returns-then-n-lt100000 : goal.returns-then-n-lt100000
returns-then-n-lt100000 c =
    decimal-stands _ _ _ (search rules)
    (c.five_in.ensures.0 ∙ ap (write _) (last-all 4 19 _ (omega arith) (omega (arith, c.if-n-lt10000.false)) (omega (arith, c.if-n-lt100000.true))))

pub returns : goal.returns
returns c = decimal-stands _ _ _ (search rules) c.put_decimal.ensures
