-- That `settle_all` of src/lib.rt keeps its contract.
use Prim.Native.Nat.{ℕ, ◌-◌, ◌^◌, ◌<◌}
use mathlib.Core.Path.{sym, subst}
use mathlib.Core.Bool.{false}
use native.Mathlib.Omega.{arith}
use mir.Syntax.{w32}
use mir.Val.{Fits}
use Rattle.words.specs.Counting.{lowest_below}
use Rattle.words.specs.Word.{bit}
use Rattle.words.proofs.HopLaws.{lowest_in, hop_less}
use Rattle.words.proofs.WordLaws.{with_bit_lt}
use Rattle.aic_figures.specs.Book.{settled_at}
use Rattle.aic_figures.proofs.BookLaws.{done_none, done_all, done_more, settled-still, within}
use borrow.Author.Rules.{rules}
use Rattle.aic_figures.proofs.settle_all.Goals as goal

pub loop-left-init : goal.loop-left-init
loop-left-init c = let f : Fits w32 c.args.some = search rules in (f.fits, (λ j n b. b), λ _. done_none 96 (settled_at c.args.book.now) c.args.some c.args.book.now)

pub settle-requires : goal.settle-requires
settle-requires c = (lowest_in _ _ c.loop-left.invariant.0 c.loop-left-test.true c.lowest-i.ensures).0

pub loop-left-smaller : goal.loop-left-smaller
loop-left-smaller c =
    let l = c.loop-left in
    let i = c.lowest-i in
    subst (λ (x : ℕ). 32 - lowest_below 32 (bit x) < 32 - lowest_below 32 (bit l.left)) (sym c.with_bit-left.ensures)
    (hop_less l.left i.result l.invariant.0 c.loop-left-test.true i.ensures)

pub loop-left-preserved : goal.loop-left-preserved
loop-left-preserved c =
    let a = c.args in
    let l = c.loop-left in
    let i = c.lowest-i in
    let m = lowest_in l.left i.result l.invariant.0 c.loop-left-test.true i.ensures in (
      subst (λ (x : ℕ). x < 2 ^ 32) (sym c.with_bit-left.ensures) (with_bit_lt l.left i.result false),
      within a.some l.left _ i.result c.with_bit-left.ensures l.invariant.1,
      λ h. rw c.settle.ensures
          (done_more 96 (settled_at a.book.now) a.some l.left _ a.book.now l.book i.result _ (omega (arith, h)) m.0 (l.invariant.1 i.result m.0 m.1) c.with_bit-left.ensures
          (settled-still (settled_at a.book.now) a.some l.left a.book.now l.book i.result m.0 m.1 (l.invariant.2 h)) (l.invariant.2 h)),
    )

pub returns : goal.returns
returns c = λ h. done_all 96 _ _ _ _ _ c.loop-left-test.false (c.loop-left.invariant.2 h)
