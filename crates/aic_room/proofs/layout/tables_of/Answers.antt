-- That `tables_of` of src/layout.rt keeps its contract.
use Rattle.aic_room.proofs.LayLaws.{tables-laid}
use Rattle.aic_room.proofs.layout.tables_of.Goals as goal

pub returns : goal.returns
returns c =
    λ s. tables-laid c.args.a s _ _ _ _ _ _ c.lay_bytes.ensures c.lay_vectors.ensures c.lay_bytes-2.ensures c.lay_bytes-3.ensures c.lay_classes.ensures c.lay_table.ensures
