-- That `put_step_words` of src/lib.rt keeps its contract.
use Rattle.text.proofs.WriteLaws.{and_then}
use Rattle.explain.specs.Explain.{step_words}
use Rattle.explain.proofs.put_step_words.Goals as goal

pub returns : goal.returns
unfolding step_words
returns c = and_then _ _ _ (and_then _ _ _ c.put_decimal-b.ensures c.put_place-c.ensures) c.put_did.ensures
