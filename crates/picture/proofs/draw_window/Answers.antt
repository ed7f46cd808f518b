-- That `draw_window` of src/lib.rt keeps its contract.
use Prim.Native.Nat.{ℕ}
use mathlib.Core.Path.{sym, ap, ◌∙◌}
use mathlib.Core.Bool.{false}
use native.Mathlib.Omega.{arith}
use lib.ListN.{replicate, length-replicate}
use lib.Seq.{length-take-le}
use Rattle.text.specs.Text.{laid}
use Rattle.text.proofs.WriteLaws.{laid-fits}
use Rattle.trace.specs.Trace.{steps_from}
use Rattle.trace.proofs.TraceLaws.{steps_limited}
use Rattle.picture.proofs.PictureLaws.{few, drawn-is}
use Rattle.picture.proofs.draw_window.Goals as goal

pub slice_bounds-columns-end : goal.slice_bounds-columns-end
slice_bounds-columns-end c = laid-fits _ _ _ c.fill-f.ensures.0

pub slice_bounds-draw-end : goal.slice_bounds-draw-end
slice_bounds-draw-end c = sym (length-take-le _ _ (laid-fits _ _ _ c.fill-f.ensures.0))

pub draw-requires : goal.draw-requires
draw-requires c = (
  few c.args.first c.args.steps c.args.m (steps_from false 20000 c.args.trace.now c.args.start) c.requires.3 (replicate 501 0)
      (length-replicate {0} {A = ℕ} 501 0) _ c.fill-f.ensures.0,
  omega (arith, c.requires.2, steps_limited false 20000 c.args.trace.now c.args.start),
)

pub returns : goal.returns
returns c =
    c.draw.ensures
    ∙ ap (laid _)
    (drawn-is c.args.first c.args.steps c.args.m (steps_from false 20000 c.args.trace.now c.args.start) c.requires.3 (replicate 501 0)
    (length-replicate {0} {A = ℕ} 501 0) _ c.fill-f.ensures.0 _ _ c.fill-f.ensures.1 c.fill-f.ensures.2)
