-- That `put_value` of src/lib.rt keeps its contract.
use Rattle.text.proofs.WriteLaws.{and_then}
use Rattle.text.specs.Phrases.{bytes}
use Rattle.explain.specs.Explain.{value_words}
use Rattle.explain.proofs.put_value.Goals as goal

pub returns : goal.returns
unfolding value_words bytes
returns c = and_then _ _ _ c.put_all-a.ensures c.put_hex.ensures
