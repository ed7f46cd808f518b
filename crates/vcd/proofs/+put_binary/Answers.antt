-- That `put_binary` of src/lib.rt keeps its contract.
use mathlib.Core.Path.{ap, ◌∙◌}
use Rattle.text.specs.Text.{write}
use Rattle.text.proofs.WriteLaws.{and_then, nothing}
use Rattle.vcd.proofs.BinaryLaws.{binary-none, binary_last, binary-more}
use Rattle.vcd.proofs.+put_binary.Goals as goal

pub returns-then-digits-eq0 : goal.returns-then-digits-eq0
returns-then-digits-eq0 t c = nothing _ ∙ ap (write _) (binary-none _ _ c.if-digits-eq0.true)

pub returns-then-v-lt2 : goal.returns-then-v-lt2
returns-then-v-lt2 t c =
    c.put.ensures ∙ ap (write _) (binary_last _ _ c.if-digits-eq0.false c.if-v-lt2.true)

pub returns : goal.returns
returns t c =
    and_then _ _ _ c.put_binary-next.ensures c.put-2.ensures
    ∙ ap (write _) (binary-more _ _ c.if-digits-eq0.false c.if-v-lt2.false)
