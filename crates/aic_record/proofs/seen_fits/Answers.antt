-- That `seen_fits` of src/lib.rt keeps its contract.
use mathlib.Core.Bool.{Bool, ◌&&◌}
use mathlib.Core.Path.{ap, ◌∙◌}
use lib.Dec.{ltb, leb}
use borrow.Author.Tests.{eq-eqb, ne_eqb}
use Rattle.words.proofs.ChoiceLaws.{pick_true, pick-false}
use Rattle.aic_record.specs.Sound.{seen_fits}
use Rattle.aic_record.proofs.seen_fits.Goals as goal

pub returns-then-n-eq1 : goal.returns-then-n-eq1
unfolding seen_fits
returns-then-n-eq1 c = let a = c.args in
    ap (λ (b : Bool). a.on && leb 1 a.n.source && leb a.n.source 31 && leb a.n.level 7 && ltb a.depth 8 && b) c.is_over.ensures
    ∙ pick_true _ (eq-eqb _ _ c.if-n-eq1.true)

pub returns : goal.returns
unfolding seen_fits
returns c = pick-false _ (ne_eqb _ _ c.if-n-eq1.false)
