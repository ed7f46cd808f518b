-- That `four_at` of src/lib.rt keeps its contract.
use native.Mathlib.Omega.{arith}
use Rattle.register_names.proofs.TableLaws.{four_of}
use Rattle.register_names.proofs.four_at.Goals as goal

pub returns : goal.returns
returns c =
    let a = c.args in
    (four_of a.table.now a.i _ _ c.two_at-high.ensures.0 c.two_at-low.ensures.0, omega (arith, c.two_at-high.ensures.1, c.two_at-low.ensures.1))
