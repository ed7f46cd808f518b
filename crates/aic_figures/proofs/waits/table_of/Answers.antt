-- That `table_of` of src/waits.rt keeps its contract.
use mathlib.Core.Path.{refl}
use native.Mathlib.Omega.{arith}
use borrow.Author.Count.{below_none}
use lib.ListN.{length-set}
use Rattle.aic_figures.specs.WaitsBook.{numbers_of}
use Rattle.aic_figures.proofs.WaitLaws.{filled-rows}
use Rattle.aic_figures.proofs.waits.table_of.Goals as goal

pub loop-k-init : goal.loop-k-init
loop-k-init c = (omega arith, refl, λ f h. below_none _)

pub loop-k-preserved : goal.loop-k-preserved
loop-k-preserved c =
    let l = c.loop-k in
    (omega arith, simp length-set l.invariant.1, λ f h. filled-rows l.out (λ i. numbers_of (f i)) l.k (omega (arith, l.invariant.1)) (l.invariant.2 f h) _ (c.numbers_at.ensures f h))

pub returns : goal.returns
returns c = let l = c.loop-k in (l.invariant.1, λ f h i m. l.invariant.2 f h i (omega (arith, m, c.loop-k-test.false)))
