-- That `move_rows` of src/waits.rt keeps its contract.
use Prim.Native.Nat.{ℕ, ◌-◌, ◌^◌, ◌<◌}
use mathlib.Core.Path.{sym, subst}
use mathlib.Core.Bool.{false}
use mir.Syntax.{w32}
use mir.Val.{Fits}
use Rattle.words.specs.Counting.{lowest_below}
use Rattle.words.specs.Word.{bit}
use Rattle.words.proofs.HopLaws.{lowest_in, hop_less}
use Rattle.words.proofs.WordLaws.{with_bit_lt}
use Rattle.aic_figures.proofs.BookLaws.{within}
use Rattle.aic_figures.proofs.WaitsKeptLaws.{rows_none, rows_all, rows_more, still, row_same}
use borrow.Author.Rules.{rules}
use Rattle.aic_figures.proofs.waits.move_rows.Goals as goal

pub loop-left-init : goal.loop-left-init
loop-left-init c = let p : Fits w32 c.args.some = search rules in (p.fits, (λ j n b. b), λ t ok h k. rows_none _ _ _ k)

pub move_row-requires : goal.move_row-requires
move_row-requires c =
    let l = c.loop-left in
    (lowest_in l.left _ l.invariant.0 c.loop-left-test.true c.lowest-i.ensures).0

pub loop-left-smaller : goal.loop-left-smaller
loop-left-smaller c =
    let l = c.loop-left in
    let i = c.lowest-i in
    subst (λ (x : ℕ). 32 - lowest_below 32 (bit x) < 32 - lowest_below 32 (bit l.left)) (sym c.with_bit-left.ensures)
    (hop_less l.left i.result l.invariant.0 c.loop-left-test.true i.ensures)

pub loop-left-preserved : goal.loop-left-preserved
loop-left-preserved c =
    let a = c.args in
    let l = c.loop-left in
    let i = c.lowest-i in
    let p = lowest_in l.left i.result l.invariant.0 c.loop-left-test.true i.ensures in (
      subst (λ (x : ℕ). x < 2 ^ 32) (sym c.with_bit-left.ensures) (with_bit_lt l.left i.result false),
      within a.some l.left _ i.result c.with_bit-left.ensures l.invariant.1,
      λ t ok h k.
          let d = l.invariant.2 t ok h k in
          rows_more _ a.some l.left a.book.now l.book i.result p.0 p.1 d _ _ _ (l.invariant.1 i.result p.0 p.1) c.with_bit-left.ensures
          (row_same i.result a.n a.m t c.has.ensures c.has-in-loop-left.ensures
          (still _ a.some l.left a.book.now l.book i.result p.0 p.1 d))
          (c.move_row.ensures t ok h d.size),
    )

pub returns : goal.returns
returns c = λ t ok h k. rows_all _ _ _ _ _ c.loop-left-test.false (c.loop-left.invariant.2 t ok h k)
