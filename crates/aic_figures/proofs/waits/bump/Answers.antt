-- That `bump` of src/waits.rt keeps its contract.
use mathlib.Core.Bool.{Bool, ◌&&◌, and-false}
use mathlib.Core.Path.{ap, ◌∙◌}
use native.Mathlib.Omega.{arith}
use lib.Dec.{eqb, ltb}
use borrow.Author.Tests.{le-ltb}
use Rattle.aic_figures.proofs.ColumnLaws.{bumped, cells-none, bump-more, bump-done}
use Rattle.aic_figures.proofs.waits.bump.Goals as goal

pub loop-k-init : goal.loop-k-init
loop-k-init c = (
  omega arith,
  λ h. cells-none (λ a b. eqb a c.args.j && ltb b 0) (bumped c.args.book.now c.args.j c.args.i) c.args.book.now h
      (λ a b. ap (λ (x : Bool). eqb a c.args.j && x) (le-ltb b 0 (omega arith)) ∙ and-false (eqb a c.args.j)),
)

pub loop-k-preserved : goal.loop-k-preserved
loop-k-preserved c =
    let l = c.loop-k in
    let a = c.args in
    (omega arith, λ h. bump-more a.book.now a.j a.i c.requires.0 l.book l.k c.one_more-n.result c.loop-k-test.true c.one_more-n.ensures (l.invariant.1 h))

pub returns : goal.returns
returns c =
    let l = c.loop-k in
    let a = c.args in
    λ h. bump-done a.book.now a.j a.i c.requires.0 l.book l.k (omega (arith, c.loop-k-test.false)) (l.invariant.1 h)
