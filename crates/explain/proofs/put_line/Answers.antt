-- That `put_line` of src/lib.rt keeps its contract.
use Rattle.text.proofs.WriteLaws.{and_then}
use Rattle.text.specs.Phrases.{bytes}
use Rattle.explain.specs.Stated.{line_stated}
use Rattle.explain.proofs.put_line.Goals as goal

pub returns : goal.returns
unfolding line_stated bytes
returns c = and_then _ _ _ (and_then _ _ _ c.put_all-a.ensures c.put_field-b.ensures) c.put_field.ensures
