-- That `put_share` of src/fields.rt keeps its contract.
use Rattle.register_words.proofs.FieldLaws.{share_text}
use Rattle.register_words.proofs.fields.put_share.Goals as goal

pub returns : goal.returns
returns c =
    share_text _ _ _ _ _ _ _ _ c.put_bits.ensures c.keep-w.ensures c.rest-n.ensures
