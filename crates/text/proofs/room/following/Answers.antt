-- That `following` of src/room.rt keeps its contract.
use native.Mathlib.Omega.{arith}
use Rattle.text.proofs.NumeralLaws.{numeral_next, numeral-fits}
use Rattle.text.proofs.room.following.Goals as goal

pub overflow_add-result : goal.overflow_add-result
overflow_add-result c = record { fits = (numeral-fits _ _ c.requires.0 c.if-t-eq9.false).0 }

pub overflow_add-result-2 : goal.overflow_add-result-2
overflow_add-result-2 c =
    record { fits = omega (arith, (numeral-fits _ _ c.requires.0 c.if-t-eq9.false).1) }

pub returns : goal.returns
returns c =
    numeral_next _ _ c.requires.0 c.if-t-eq9.false
