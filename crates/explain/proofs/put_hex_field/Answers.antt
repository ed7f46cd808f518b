-- That `put_hex_field` of src/lib.rt keeps its contract.
use Rattle.text.proofs.WriteLaws.{and_then}
use Rattle.text.specs.Phrases.{bytes}
use Rattle.explain.specs.Stated.{hex_field}
use Rattle.explain.proofs.put_hex_field.Goals as goal

pub returns : goal.returns
unfolding hex_field bytes
returns c = and_then _ _ _ c.put_all-a.ensures c.put_digits.ensures
