-- That `tallest` of src/levels.rt keeps its contract.
use Rattle.sheet.proofs.PageLaws.{tallest-more}
use Rattle.sheet.specs.Levels.{tallest}
use Rattle.words.proofs.CountingLaws.{at_end}
use mathlib.Core.Path.{refl}
use native.Mathlib.Omega.{arith}
use Rattle.sheet.proofs.levels.tallest.Goals as goal

pub loop-l-init : goal.loop-l-init
unfolding tallest
loop-l-init c = (omega arith, refl)

pub loop-l-preserved : goal.loop-l-preserved
loop-l-preserved c = (omega arith, tallest-more _ _ _ _ _ c.loop-l.invariant.1 c.level_bytes.ensures c.larger-most.ensures)

pub returns : goal.returns
returns c = at_end (tallest c.args.t) _ 8 c.loop-l.invariant.0 c.loop-l-test.false c.loop-l.invariant.1
