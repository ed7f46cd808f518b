-- That `picture_begun` of src/lib.rt keeps its contract.
use mathlib.Core.Path.{ap, ◌∙◌}
use Rattle.text.specs.Text.{laid}
use Rattle.picture.proofs.PictureLaws.{no_entries_lem, not_aic}
use Rattle.picture.proofs.picture_begun.Goals as goal

pub returns-then-m-ne-AIC : goal.returns-then-m-ne-AIC
returns-then-m-ne-AIC c = (
  c.put_no_entries-n.ensures ∙ ap (laid _) (no_entries_lem _ _ _ _ c.requires.0 c.requires.1 c.if-m-ne-AIC.true),
  not_aic _ _ _ _ c.requires.0 c.requires.1 c.if-m-ne-AIC.true,
)
