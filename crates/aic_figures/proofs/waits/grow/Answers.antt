-- That `grow` of src/waits.rt keeps its contract.
use Prim.Native.Nat.{ℕ, ◌-◌, ◌<◌, ◌^◌}
use mathlib.Core.Path.{sym, subst}
use mathlib.Core.Bool.{false}
use mir.Syntax.{w32}
use mir.Val.{Fits}
use Rattle.words.specs.Counting.{lowest_below}
use Rattle.words.specs.Word.{bit}
use Rattle.words.proofs.HopLaws.{lowest_in, hop_less}
use Rattle.words.proofs.WordLaws.{with_bit_lt}
use Rattle.aic_figures.proofs.BookLaws.{within}
use Rattle.aic_figures.proofs.ColumnLaws.{grow-none, grow-more, grow-done}
use borrow.Author.Rules.{rules}
use Rattle.aic_figures.proofs.waits.grow.Goals as goal

pub loop-left-init : goal.loop-left-init
loop-left-init c =
    let f : Fits w32 c.args.w = search rules in
    (f.fits, (λ k n b. b), λ h s. grow-none c.args.book.now c.args.j c.args.w c.requires.0 c.requires.1 h s)

pub bump-requires : goal.bump-requires
bump-requires c = (
  c.requires.1,
  (lowest_in _ _ c.loop-left.invariant.0 c.loop-left-test.true c.lowest-i.ensures).0,
)

pub loop-left-smaller : goal.loop-left-smaller
loop-left-smaller c =
    let l = c.loop-left in
    let i = c.lowest-i in
    subst (λ (x : ℕ). 32 - lowest_below 32 (bit x) < 32 - lowest_below 32 (bit l.left)) (sym c.with_bit-left.ensures)
    (hop_less l.left i.result l.invariant.0 c.loop-left-test.true i.ensures)

pub loop-left-preserved : goal.loop-left-preserved
loop-left-preserved c =
    let a = c.args in
    let l = c.loop-left in
    let i = c.lowest-i in
    let m = lowest_in l.left i.result l.invariant.0 c.loop-left-test.true i.ensures in (
      subst (λ (x : ℕ). x < 2 ^ 32) (sym c.with_bit-left.ensures) (with_bit_lt l.left i.result false),
      within a.w l.left _ i.result c.with_bit-left.ensures l.invariant.1,
      λ h few.
          let d = l.invariant.2 h few in
          grow-more a.book.now a.j a.w c.requires.0 c.requires.1 l.left _ i.result l.book _ m.0 (l.invariant.1 i.result m.0 m.1) m.1 c.with_bit-left.ensures d
          (c.bump.ensures d.size),
    )

pub returns : goal.returns
returns c =
    let a = c.args in
    let l = c.loop-left in
    λ h few. grow-done a.book.now a.j a.w c.requires.0 c.requires.1 l.left l.book c.loop-left-test.false (l.invariant.2 h few)
