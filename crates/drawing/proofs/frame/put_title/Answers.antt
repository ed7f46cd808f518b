-- That `put_title` of src/frame.rt keeps its contract.
use Rattle.text.proofs.WriteLaws.{and_then, same_length as same_len}
use Rattle.text.specs.Phrases.{bytes}
use Rattle.text.specs.Text.{write}
use mathlib.Core.Path.{ap, ◌∙◌}
use Rattle.drawing.proofs.FrameLaws.{title-made}
use Rattle.drawing.proofs.frame.put_title.Goals as goal

pub returns : goal.returns
unfolding bytes
returns c =
    and_then _ _ _
    (and_then _ _ _
    (and_then _ _ _ (and_then _ _ _ c.put_counted-a.ensures c.put_all-b.ensures) c.put_counted-c.ensures)
    c.put_counted-d.ensures)
    c.put_all.ensures
    ∙ ap (write _) (title-made _ _ _ _ c.wide-w.ensures c.one_less-last.ensures)

pub shape_of-out : goal.shape_of-out
shape_of-out c = same_len _ _ _ (returns c)
