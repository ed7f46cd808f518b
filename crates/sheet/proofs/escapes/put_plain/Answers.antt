-- That `put_plain` of src/escapes.rt keeps its contract.
use Rattle.text.specs.Phrases.{bytes}
use Rattle.sheet.proofs.PageLaws.{told-hex}
use Rattle.sheet.specs.Names.{plain}
use Rattle.text.proofs.WriteLaws.{and_then}
use Rattle.text.specs.Text.{write}
use Rattle.words.proofs.ChoiceLaws.{pick-false, pick_true}
use mathlib.Core.Path.{◌∙◌, ap}
use Rattle.sheet.proofs.escapes.put_plain.Goals as goal

pub returns-then-b : goal.returns-then-b
unfolding plain bytes
returns-then-b c =
    c.put.ensures ∙ ap (write _) (pick_true _ c.if-b.true)

pub returns : goal.returns
unfolding plain bytes
returns c =
    and_then _ _ _ (and_then _ _ _ c.put_all-a.ensures c.put-c.ensures) c.put-2.ensures
    ∙ ap (write _) (told-hex _ _ _ c.digit.ensures c.digit-2.ensures ∙ pick-false _ c.if-b.false)
