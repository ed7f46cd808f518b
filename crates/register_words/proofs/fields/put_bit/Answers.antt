-- That `put_bit` of src/fields.rt keeps its contract.
use Rattle.text.specs.Phrases.{bytes}
use Rattle.register_words.proofs.FieldLaws.{bit_text, bit-none}
use Rattle.register_words.proofs.fields.put_bit.Goals as goal

pub returns-then-set-lower : goal.returns-then-set-lower
unfolding bytes
returns-then-set-lower c =
    bit_text _ _ _ _ _ _ c.has-set.ensures c.requires _ _ c.if-set-lower.true c.put_either-a.ensures c.put_decimal.ensures

pub returns : goal.returns
returns c = bit-none _ _ _ _ _ _ c.has-set.ensures c.requires c.if-set-lower.false
