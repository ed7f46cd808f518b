-- That `put_map` of src/fields.rt keeps its contract.
use Rattle.register_words.proofs.FieldLaws.{map_text}
use Rattle.register_words.proofs.fields.put_map.Goals as goal

pub returns : goal.returns
returns c =
    map_text _ _ _ _ _ _ _ _ _ _ _ c.put_counted-a.ensures c.put_counted-b.ensures c.put_byte-c.ensures c.put_byte-d.ensures c.put_byte.ensures
