-- That `entry_fits` of src/lib.rt keeps its contract.
use mathlib.Core.Bool.{Bool, ◌&&◌}
use mathlib.Core.Path.{ap, ◌∙◌}
use lib.Dec.{leb}
use borrow.Author.Tests.{eq-eqb, ne_eqb}
use Rattle.words.proofs.ChoiceLaws.{pick_true, pick-false}
use Rattle.aic_record.specs.Sound.{entry_fits}
use Rattle.aic_record.proofs.entry_fits.Goals as goal

pub returns-then-source-eq0 : goal.returns-then-source-eq0
unfolding entry_fits
returns-then-source-eq0 c = pick_true _ (eq-eqb _ _ c.if-source-eq0.true)

pub returns : goal.returns
unfolding entry_fits
returns c =
    let a = c.args in
    ap (λ (b : Bool). leb a.source 31 && leb a.level 7 && b) c.is_over.ensures ∙ pick-false _ (ne_eqb _ _ c.if-source-eq0.false)
