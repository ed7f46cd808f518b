-- That `put_groups` of src/statements.rt keeps its contract.
use mathlib.Core.Path.{ap, ◌∙◌}
use Rattle.text.specs.Text.{write}
use Rattle.text.proofs.WriteLaws.{and_then, nothing}
use Rattle.encode.proofs.ByteLaws.{groups_none, groups_last, groups-more}
use Rattle.encode.proofs.statements.+put_groups.Goals as goal

pub returns-then-most-eq0 : goal.returns-then-most-eq0
returns-then-most-eq0 t c = nothing _ ∙ ap (write _) (groups_none _ _ c.if-most-eq0.true)

pub returns-then-v-lt128 : goal.returns-then-v-lt128
returns-then-v-lt128 t c =
    c.put.ensures ∙ ap (write _) (groups_last _ _ c.if-most-eq0.false c.if-v-lt128.true)

pub returns : goal.returns
returns t c =
    and_then _ _ _ c.put-next.ensures c.put_groups.ensures
    ∙ ap (write _) (groups-more _ _ c.if-most-eq0.false c.if-v-lt128.false)
