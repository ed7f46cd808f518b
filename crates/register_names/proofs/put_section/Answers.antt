-- That `put_section` of src/lib.rt keeps its contract.
use Rattle.text.proofs.WriteLaws.{and_then}
use Rattle.text.specs.Phrases.{bytes}
use Rattle.register_names.specs.Rows.{sectioned}
use Rattle.register_names.proofs.put_section.Goals as goal

pub returns : goal.returns
unfolding sectioned bytes
returns c =
    and_then _ _ _ (and_then _ _ _ c.put_all-a.ensures c.put_until-b.ensures) c.put_all.ensures
