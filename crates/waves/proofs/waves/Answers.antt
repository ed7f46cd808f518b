-- That `waves` of src/lib.rt keeps its contract.
use mathlib.Core.Path.{ap, ◌∙◌}
use Rattle.text.specs.Text.{write}
use Rattle.text.proofs.WriteLaws.{write-laid}
use Rattle.waves.proofs.WaveLaws.{waves-begun, waves-refused}
use Rattle.waves.proofs.waves.Goals as goal

pub returns-then-b-ne-CARRIED_OUT : goal.returns-then-b-ne-CARRIED_OUT
returns-then-b-ne-CARRIED_OUT c = c.put_none.ensures ∙ ap (write _) (waves-refused _ _ _ c.begin-b.ensures c.if-b-ne-CARRIED_OUT.true) ∙ write-laid _ _

pub returns : goal.returns
returns c = c.put_begun.ensures ∙ ap (write _) (waves-begun _ _ _ c.begin-b.ensures c.if-b-ne-CARRIED_OUT.false) ∙ write-laid _ _
