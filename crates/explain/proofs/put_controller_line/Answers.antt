-- That `put_controller_line` of src/lib.rt keeps its contract.
use mathlib.Core.Path.{sym, ◌∙◌}
use lib.Seq.{length-take-le}
use Rattle.text.proofs.WriteLaws.{and_then, write-laid, laid-fits}
use Rattle.text.specs.Phrases.{bytes}
use Rattle.explain.specs.Explain.{controller_line, commented}
use Rattle.explain.proofs.StatedLaws.{column_so, controller-fits}
use Rattle.explain.proofs.put_controller_line.Goals as goal

pub slice_bounds-line-end : goal.slice_bounds-line-end
slice_bounds-line-end c = laid-fits _ _ _ (c.put_controller-n.ensures ∙ write-laid _ _)

pub slice_bounds-put_column-end : goal.slice_bounds-put_column-end
slice_bounds-put_column-end c = sym (length-take-le _ _ (laid-fits _ _ _ (c.put_controller-n.ensures ∙ write-laid _ _)))

pub returns : goal.returns
unfolding controller_line commented bytes
returns c =
    and_then _ _ _ (and_then _ _ _ (and_then _ _ _
    (column_so _ _ _ _ _ c.put_controller-n.ensures (controller-fits _ _ _) c.put_column-a.ensures)
    c.put_all-b.ensures) c.put_document-c.ensures) c.put.ensures
