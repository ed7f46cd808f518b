-- That `column` of src/window.rt keeps its contract.
use Rattle.picture.proofs.ColumnLaws.{packs}
use Rattle.picture.proofs.window.column.Goals as goal

pub returns : goal.returns
returns c = let o = c.outputs-o in
    packs _ _ o.result _ _ _ _ _ o.ensures c.last_source-source.ensures c.last_level-level.ensures c.one_if.ensures
    c.one_if-2.ensures c.pack.ensures
