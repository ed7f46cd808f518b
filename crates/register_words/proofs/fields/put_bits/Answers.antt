-- That `put_bits` of src/fields.rt keeps its contract.
use Rattle.text.proofs.WriteLaws.{and_then}
use Rattle.register_words.specs.Fields.{bit_words}
use Rattle.register_words.proofs.fields.put_bits.Goals as goal

pub returns : goal.returns
unfolding bit_words
returns c =
    and_then _ _ _ c.put_all-a.ensures c.put_numbers.ensures
