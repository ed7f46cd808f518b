-- That `two_at` of src/lib.rt keeps its contract.
use native.Mathlib.Omega.{arith}
use Rattle.register_names.proofs.TableLaws.{two_of}
use Rattle.register_names.proofs.two_at.Goals as goal

pub returns : goal.returns
returns c =
    let a = c.args in
    (two_of a.table.now a.i _ _ c.digit_of-high.ensures.0 c.digit_of-low.ensures.0, omega (arith, c.digit_of-high.ensures.1, c.digit_of-low.ensures.1))
