-- That `put_heading` of src/by_kind.rt keeps its contract.
use Rattle.text.proofs.WriteLaws.{and_then, same_length as same_len}
use Rattle.text.specs.Phrases.{bytes}
use Rattle.vcd.specs.Dump.{heading}
use Rattle.waves.proofs.HeadingLaws.{all-declared}
use Rattle.waves.proofs.by_kind.put_heading.Goals as goal

pub returns : goal.returns
unfolding heading bytes
returns c =
    and_then _ _ _
    (and_then _ _ _
    (and_then _ _ _
    (and_then _ _ _ (and_then _ _ _ (and_then _ _ _ c.put_opening-a.ensures c.put_all-b.ensures) c.put_name-c.ensures) c.put_all-d.ensures)
    (all-declared _ _ c.put_every-e.ensures c.put_own-f.ensures))
    c.put_all-g.ensures)
    c.put_declared.ensures

pub shape_of-out : goal.shape_of-out
shape_of-out c = same_len _ _ _ (returns c)
