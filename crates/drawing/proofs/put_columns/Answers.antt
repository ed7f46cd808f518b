-- That `put_columns` of src/lib.rt keeps its contract.
use Rattle.drawing.proofs.ColumnLaws.{columns_on, columns-over}
use Rattle.text.proofs.WriteLaws.{rest_of, nothing, same_length as same_len}
use Rattle.text.specs.Text.{write}
use native.Mathlib.Omega.{arith}
use mathlib.Core.Path.{refl, ap, ◌∙◌}
use borrow.Author.Rules.{rules}
use Rattle.drawing.proofs.put_columns.Goals as goal

pub loop-k-init : goal.loop-k-init
loop-k-init c = (refl, refl, omega arith)

pub loop-k-preserved : goal.loop-k-preserved
loop-k-preserved c =
    let a = c.args in
    (rest_of _ _ _ _ c.put_column-next.ensures ∙ ap (write _) (columns_on a.first a.ws.now c.loop-k.k c.loop-k-test.true) ∙ c.loop-k.invariant.0, same_len _ _ _ c.put_column-next.ensures ∙ c.loop-k.invariant.1, search rules)

pub returns : goal.returns
returns c =
    let a = c.args in
    nothing _ ∙ ap (write _) (columns-over a.first a.ws.now c.loop-k.k c.loop-k-test.false) ∙ c.loop-k.invariant.0
