-- That `put_step_line` of src/lib.rt keeps its contract.
use mathlib.Core.Path.{sym, ◌∙◌}
use lib.Seq.{length-take-le}
use Rattle.text.proofs.WriteLaws.{and_then, write-laid, laid-fits}
use Rattle.text.specs.Phrases.{bytes}
use Rattle.explain.specs.Explain.{step_line, commented}
use Rattle.explain.proofs.StatedLaws.{column_so, stated-fits}
use Rattle.explain.proofs.put_step_line.Goals as goal

pub slice_bounds-line-end : goal.slice_bounds-line-end
slice_bounds-line-end c = laid-fits _ _ _ (c.put_stated-n.ensures ∙ write-laid _ _)

pub slice_bounds-put_column-end : goal.slice_bounds-put_column-end
slice_bounds-put_column-end c = sym (length-take-le _ _ (laid-fits _ _ _ (c.put_stated-n.ensures ∙ write-laid _ _)))

pub returns : goal.returns
unfolding step_line commented bytes
returns c =
    and_then _ _ _ (and_then _ _ _ (and_then _ _ _
    (column_so _ _ _ _ _ c.put_stated-n.ensures (stated-fits _ _) c.put_column-b.ensures)
    c.put_all-c.ensures) c.put_step_words-d.ensures) c.put.ensures
