-- That `put_forced` of src/fields.rt keeps its contract.
use Rattle.text.specs.Phrases.{bytes}
use Rattle.register_words.proofs.FieldLaws.{bits_of}
use Rattle.register_words.proofs.fields.put_forced.Goals as goal

pub returns : goal.returns
unfolding bytes
returns c =
    bits_of _ _ _ _ _ _ c.put_bits.ensures c.drop_bits-w.ensures
