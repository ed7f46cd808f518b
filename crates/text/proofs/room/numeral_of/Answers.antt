-- That `numeral_of` of src/room.rt keeps its contract.
use mathlib.Core.Path.{refl}
use native.Mathlib.Omega.{arith}
use Rattle.text.proofs.DigitLaws.{last-single, last-all}
use Rattle.text.proofs.NumeralLaws.{numeral-made, numeral-none}
use Rattle.text.proofs.room.numeral_of.Goals as goal

pub returns-then-n-lt10 : goal.returns-then-n-lt10
returns-then-n-lt10 c =
    let l = c.if-n-lt10.true in
    numeral-made _ 1 1 _ _ (omega (arith, l)) (last-single 19 _ l) refl c.one_digit.ensures c.kept.ensures

pub returns-then-n-lt100 : goal.returns-then-n-lt100
returns-then-n-lt100 c =
    let l = c.if-n-lt10.false in
    let u = c.if-n-lt100.true in
    numeral-made _ 2 256 _ _ (omega (arith, u)) (last-all 1 19 _ (omega arith) (omega (arith, l)) (omega (arith, u))) refl c.two_digits.ensures c.kept-then-n-lt100.ensures

pub returns-then-n-lt1000 : goal.returns-then-n-lt1000
returns-then-n-lt1000 c =
    let l = c.if-n-lt100.false in
    let u = c.if-n-lt1000.true in
    numeral-made _ 3 65536 _ _ (omega (arith, u)) (last-all 2 19 _ (omega arith) (omega (arith, l)) (omega (arith, u))) refl c.three_digits.ensures c.kept-then-n-lt1000.ensures

pub returns-then-n-lt10000 : goal.returns-then-n-lt10000
returns-then-n-lt10000 c =
    let l = c.if-n-lt1000.false in
    let u = c.if-n-lt10000.true in
    numeral-made _ 4 16777216 _ _ (omega (arith, u)) (last-all 3 19 _ (omega arith) (omega (arith, l)) (omega (arith, u))) refl c.four_digits.ensures c.kept-then-n-lt10000.ensures

pub returns-then-n-lt100000 : goal.returns-then-n-lt100000
returns-then-n-lt100000 c =
    let l = c.if-n-lt10000.false in
    let u = c.if-n-lt100000.true in
    numeral-made _ 5 4294967296 _ _ (omega (arith, u)) (last-all 4 19 _ (omega arith) (omega (arith, l)) (omega (arith, u))) refl c.five_digits.ensures c.kept-then-n-lt100000.ensures

pub returns : goal.returns
returns c = numeral-none _ _ (omega (arith, c.if-n-lt100000.false)) c.kept-2.ensures
