-- That `picture_aic` of src/lib.rt keeps its contract.
use mathlib.Core.Path.{sym, ap, ◌∙◌}
use native.Mathlib.Omega.{arith}
use Rattle.text.specs.Text.{laid}
use Rattle.picture.proofs.PictureLaws.{inside_is, is-ready, as_many, wrong-window, a_picture, if-inside}
use Rattle.picture.proofs.picture_aic.Goals as goal

pub play_steps-p-requires : goal.play_steps-p-requires
play_steps-p-requires c =
    is-ready c.args.trace.now c.args.first c.args.steps _ c.requires.0 c.requires.1 c.requires.2

pub draw_window-n-requires : goal.draw_window-n-requires
draw_window-n-requires c =
    let i = inside_is _ _ _ (sym c.inside.ensures ∙ c.if-inside.true) in
    let n = as_many c.args.trace.now c.args.first c.args.steps _ c.requires.0 c.requires.1 c.requires.2 _ c.play_steps-p.ensures in
    (is-ready c.args.trace.now c.args.first c.args.steps _ c.requires.0 c.requires.1 c.requires.2, i.begins, omega (arith, i.reached, n), i.most)

pub returns-then-inside : goal.returns-then-inside
returns-then-inside c =
    let h = sym c.inside.ensures ∙ c.if-inside.true in (
      c.draw_window-n.ensures ∙ ap (laid _) (a_picture _ _ _ _ c.requires.0 c.requires.1 c.requires.2 _ c.play_steps-p.ensures h),
      sym h ∙ if-inside _ _ _ _ c.requires.0 c.requires.1 c.requires.2 _ c.play_steps-p.ensures,
    )

pub returns : goal.returns
returns c =
    let h = sym c.inside.ensures ∙ c.if-inside.false in (
      c.put_wrong_window-n.ensures ∙ ap (laid _) (wrong-window _ _ _ _ c.requires.0 c.requires.1 c.requires.2 _ c.play_steps-p.ensures h),
      sym h ∙ if-inside _ _ _ _ c.requires.0 c.requires.1 c.requires.2 _ c.play_steps-p.ensures,
    )
