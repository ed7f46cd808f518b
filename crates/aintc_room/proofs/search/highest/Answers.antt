-- That `highest` of src/search.rt keeps its contract.
use mathlib.Core.Path.{refl}
use native.Mathlib.Omega.{arith}
use lib.Count.{leading_top}
use Rattle.aintc_room.proofs.SearchLaws.{highest-bit}
use Rattle.aintc_room.proofs.search.highest.Goals as goal

pub overflow_sub-result : goal.overflow_sub-result
overflow_sub-result c = omega (arith, (leading_top 64 c.args.w (omega (arith, c.requires)) c.ranges.w.fits).1)

pub returns : goal.returns
returns c = highest-bit c.args.w _ c.ranges.w.fits c.requires refl
