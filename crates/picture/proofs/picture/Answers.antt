-- That `picture` of src/lib.rt keeps its contract.
use mathlib.Core.Path.{ap, ◌∙◌}
use Rattle.text.specs.Text.{laid}
use Rattle.picture.proofs.PictureLaws.{no_beginning_lem, not-begun}
use Rattle.picture.proofs.picture.Goals as goal

pub returns-then-b-ne-CARRIED_OUT : goal.returns-then-b-ne-CARRIED_OUT
returns-then-b-ne-CARRIED_OUT c =
    let b = c.begin-b.ensures in (
      c.put_no_beginning-n.ensures ∙ ap (laid _) (no_beginning_lem _ _ _ _ b c.if-b-ne-CARRIED_OUT.true),
      not-begun _ _ _ _ b c.if-b-ne-CARRIED_OUT.true,
    )
