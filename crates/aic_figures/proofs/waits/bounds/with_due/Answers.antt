-- That `with_due` of src/waits/bounds.rt keeps its contract.
use mathlib.Core.Path.{ap, ◌∙◌}
use native.Mathlib.Omega.{arith}
use mir.Syntax.{w32}
use mir.Val.{Fits}
use Rattle.aic_bounds.specs.Following.{plus}
use Rattle.aic_figures.proofs.RowLaws.{plus-nobody}
use borrow.Author.Rules.{rules}
use Rattle.aic_figures.proofs.waits.bounds.with_due.Goals as goal

pub returns-then-some-eq0 : goal.returns-then-some-eq0
returns-then-some-eq0 c =
    let a = c.args in
    let f : Fits w32 a.n = search rules in
    λ t ok h. plus-nobody a.n a.some _ (omega (arith, f.fits)) c.if-some-eq0.true

pub returns : goal.returns
returns c =
    let a = c.args in
    λ t ok h. c.plus.ensures ∙ ap (plus a.n a.some) (c.due_word.ensures t ok h)
