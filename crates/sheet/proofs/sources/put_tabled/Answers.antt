-- That `put_tabled` of src/sources.rt keeps its contract.
use Rattle.text.specs.Phrases.{bytes}
use Rattle.sheet.specs.Sources.{tabled}
use Rattle.text.proofs.WriteLaws.{and_then, same_length as same_len}
use Rattle.sheet.proofs.sources.put_tabled.Goals as goal

pub returns : goal.returns
unfolding tabled bytes
returns c =
    and_then _ _ _ (and_then _ _ _ (and_then _ _ _ (and_then _ _ _ (and_then _ _ _ c.put_cell_of-a.ensures c.put_counted-b.ensures) c.put_all-c.ensures) c.put_typed-d.ensures) c.put_all-e.ensures) c.put_source_cell.ensures

pub shape_of-out : goal.shape_of-out
shape_of-out c = same_len _ _ _ (returns c)
