-- That `lines` of src/names.rt keeps its contract.
use mathlib.Core.Path.{◌≡◌, refl}
use native.Mathlib.Omega.{arith}
use Rattle.std.specs.declared.result.Result.TheVariants.{Err}
use Rattle.report.proofs.LineLaws.{line-within, name-within}
use Rattle.sheet_run.proofs.PutLaws.{put-none, put_then}
use Rattle.sheet_run.proofs.names.lines.Goals as goal

pub loop-table-init : goal.loop-table-init
loop-table-init g c = (omega arith, put-none _ _ _ refl)

pub slice_bounds-pass-count : goal.slice_bounds-pass-count
slice_bounds-pass-count g c = (name-within _ _ _ _ (line-within _ _ _ c.loop-table.invariant.0 c.line_end-e.ensures).0 c.name_end-n.ensures).0

pub slice_bounds-pass-end : goal.slice_bounds-pass-end
slice_bounds-pass-end g c = let w = line-within _ _ _ c.loop-table.invariant.0 c.line_end-e.ensures in
    omega (arith, w.1, (name-within _ _ _ _ w.0 c.name_end-n.ensures).1)

pub loop-table-smaller : goal.loop-table-smaller
loop-table-smaller g c = omega (arith, line-within _ _ _ c.loop-table.invariant.0 c.line_end-e.ensures, c.if-s-e.false)

pub loop-table-preserved : goal.loop-table-preserved
loop-table-preserved g c = (omega (arith, c.if-s-e.false), put_then _ c.loop-table.invariant.1 c.in_ok-sheet.ensures)

pub slice_bounds-pass-start : goal.slice_bounds-pass-start
slice_bounds-pass-start g c = (name-within _ _ _ _ (line-within _ _ _ c.loop-table.invariant.0 c.line_end-e.ensures).0 c.name_end-n.ensures).0

pub returns-in_err-sheet-clause-stopped : goal.returns-in_err-sheet-clause-stopped
returns-in_err-sheet-clause-stopped g c =
    let h : c.from_residual.result ≡ Err c.in_err-sheet.field-0.0 = grind arith in
    rw h (put_then _ c.loop-table.invariant.1 c.in_err-sheet.ensures)
