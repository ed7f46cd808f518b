-- That `lines` of src/names.rt keeps its contract.
use mathlib.Core.Path.{refl}
use native.Mathlib.Omega.{arith}
use Rattle.report.proofs.LineLaws.{line-within, name-within}
use Rattle.report.proofs.PutLaws.{put-none}
use Rattle.report.proofs.NameLaws.{lines_more, lines-all}
use Rattle.report.proofs.names.lines.Goals as goal

pub loop-sum-init : goal.loop-sum-init
loop-sum-init g c = (omega arith, put-none _ _ _ refl)

pub returns-then-s-e : goal.returns-then-s-e
returns-then-s-e g c = let l = c.loop-sum in (l.invariant.0, lines-all _ _ l.invariant.0 l.invariant.1)

pub slice_bounds-pass-count : goal.slice_bounds-pass-count
slice_bounds-pass-count g c = (name-within _ _ _ _ (line-within _ _ _ c.loop-sum.invariant.0 c.line_end-e.ensures).0 c.name_end-n.ensures).0

pub slice_bounds-pass-end : goal.slice_bounds-pass-end
slice_bounds-pass-end g c = let w = line-within _ _ _ c.loop-sum.invariant.0 c.line_end-e.ensures in
    omega (arith, w.1, (name-within _ _ _ _ w.0 c.name_end-n.ensures).1)

pub loop-sum-smaller : goal.loop-sum-smaller
loop-sum-smaller g c = omega (arith, line-within _ _ _ c.loop-sum.invariant.0 c.line_end-e.ensures, c.if-s-e.false)

pub loop-sum-preserved : goal.loop-sum-preserved
loop-sum-preserved g c = let l = c.loop-sum in
    let m = c.if-s-e.false in
    (omega (arith, m), lines_more _ _ _ l.skips l.invariant.0 c.line_end-e.ensures m l.invariant.1 c.pass-sum.ensures)

pub slice_bounds-pass-start : goal.slice_bounds-pass-start
slice_bounds-pass-start g c = (name-within _ _ _ _ (line-within _ _ _ c.loop-sum.invariant.0 c.line_end-e.ensures).0 c.name_end-n.ensures).0
