-- That `together` of src/sheets.rt keeps its contract.
use native.Mathlib.Omega.{arith}
use Rattle.totals.specs.Sheet.{together}
use Rattle.totals.proofs.SheetLaws.{fits}
use Rattle.totals.proofs.sheets.together.Goals as goal

pub overflow_add-result : goal.overflow_add-result
overflow_add-result c = omega (arith, (fits _ _ c.requires).0)

pub overflow_add-result-2 : goal.overflow_add-result-2
overflow_add-result-2 c = omega (arith, (fits _ _ c.requires).1)

pub overflow_add-result-3 : goal.overflow_add-result-3
overflow_add-result-3 c = omega (arith, (fits _ _ c.requires).2)

pub overflow_add-result-4 : goal.overflow_add-result-4
overflow_add-result-4 c = omega (arith, (fits _ _ c.requires).3)

pub overflow_add-result-5 : goal.overflow_add-result-5
overflow_add-result-5 c = omega (arith, (fits _ _ c.requires).4)

pub returns : goal.returns
unfolding together
returns c =
    rw (c.first_of.ensures, c.more.ensures, c.join.ensures)
