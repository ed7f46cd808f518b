-- That `put_mode` of src/fields.rt keeps its contract.
use Rattle.text.specs.Phrases.{bytes}
use Rattle.register_words.proofs.FieldLaws.{mode_text}
use Rattle.register_words.proofs.fields.put_mode.Goals as goal

pub returns : goal.returns
unfolding bytes
returns c =
    mode_text _ _ _ _ _ _ c.put_type-a.ensures c.put_counted.ensures c.has-outer.ensures
