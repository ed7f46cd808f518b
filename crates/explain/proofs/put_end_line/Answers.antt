use Rattle.text.proofs.WriteLaws.{and_then}
use Rattle.text.specs.Phrases.{bytes}
use Rattle.explain.specs.Explain.{end_line}
use Rattle.explain.proofs.put_end_line.Goals as goal

-- src/lib.rt:205:1
pub returns : goal.returns
unfolding end_line bytes
returns c =
    and_then _ _ _ (and_then _ _ _ (and_then _ _ _ (and_then _ _ _ (and_then _ _ _ c.put_all-a.ensures c.put_field-b.ensures) c.put_field-c.ensures) c.put_all-d.ensures) c.put_end_reason-e.ensures) c.put.ensures
