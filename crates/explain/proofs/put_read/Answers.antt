-- That `put_read` of src/lib.rt keeps its contract.
use Rattle.text.proofs.WriteLaws.{and_then}
use Rattle.text.specs.Phrases.{bytes}
use Rattle.explain.specs.Stated.{read_stated}
use Rattle.explain.proofs.StatedLaws.{offset_so}
use Rattle.explain.proofs.put_read.Goals as goal

pub returns : goal.returns
unfolding read_stated bytes
returns c =
    and_then _ _ _ (and_then _ _ _ c.put_all-a.ensures (offset_so _ _ _ _ c.offset_digits-n.ensures c.put_hex_field-b.ensures))
    c.put_privilege.ensures
