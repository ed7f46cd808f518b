-- That `put_refusal` of src/lib.rt keeps its contract.
use mathlib.Core.Path.{◌∙◌}
use Rattle.text.proofs.WriteLaws.{and_then, write-laid}
use Rattle.text.specs.Phrases.{bytes, counted}
use Rattle.encode.specs.Lines.{refused_line}
use Rattle.encode.proofs.put_refusal.Goals as goal

pub returns : goal.returns
unfolding refused_line bytes counted
returns c =
    and_then _ _ _ (and_then _ _ _ (and_then _ _ _ c.put_all-a.ensures c.put_decimal-b.ensures) c.put_expected-c.ensures) c.put.ensures
    ∙ write-laid _ _
