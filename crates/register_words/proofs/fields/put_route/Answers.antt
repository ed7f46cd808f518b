-- That `put_route` of src/fields.rt keeps its contract.
use Rattle.text.specs.Phrases.{bytes}
use Rattle.register_words.proofs.FieldLaws.{route_text}
use Rattle.register_words.proofs.fields.put_route.Goals as goal

pub returns : goal.returns
unfolding bytes
returns c =
    route_text _ _ _ _ _ c.put_either-a.ensures c.put_decimal.ensures c.has-fast.ensures
