-- That `put_row` of src/waits.rt keeps its contract.
use Prim.Native.Nat.{ℕ, ◌+◌}
use mathlib.Core.Bool.{Bool, ◌&&◌}
use mathlib.Core.Path.{◌≡◌, refl, ap, subst}
use native.Mathlib.Omega.{arith}
use lib.Dec.{eqb, ltb}
use lib.ListN.{length, get_or}
use borrow.Author.Tests.{le-ltb}
use Rattle.aic_figures.specs.WaitsBook.{Cells}
use Rattle.aic_figures.proofs.ColumnLaws.{cells-none, cells-more, next_number, row_put}
use borrow.Author.Rules.{rules}
use Rattle.aic_figures.proofs.waits.put_row.Goals as goal

pub loop-j-init : goal.loop-j-init
loop-j-init c = (omega arith, λ h. cells-none _ _ _ h (λ a b. ap (λ (x : Bool). x && eqb b c.args.k) (le-ltb a 0 (omega arith))))

pub loop-j-preserved : goal.loop-j-preserved
loop-j-preserved c =
    let l = c.loop-j in
    let a = c.args in (
      omega arith,
      λ h. cells-more (λ x y. ltb x l.j && eqb y a.k) (λ x y. ltb x (l.j + 1) && eqb y a.k) (λ x y. get_or a.row x 0) a.book.now l.book l.j a.k _
          (omega (arith, c.loop-j-test.true)) c.requires (next_number l.j a.k) refl (l.invariant.1 h),
    )

pub returns : goal.returns
returns c =
    let l = c.loop-j in
    let a = c.args in
    let e : l.j ≡ 18 = omega (arith, l.invariant.0, c.loop-j-test.false) in
    let long : length a.row ≡ 18 = search rules in
    λ h. row_put a.book.now l.book a.k a.row h long
    (subst (λ (n : ℕ). Cells (λ x y. ltb x n && eqb y a.k) (λ x y. get_or a.row x 0) a.book.now l.book) e (l.invariant.1 h))
