-- That `put_sources` of src/lib.rt keeps its contract.
use mathlib.Core.Path.{refl, ◌∙◌}
use native.Mathlib.Omega.{arith}
use Rattle.text.proofs.WriteLaws.{same_length as same-length-of}
use Rattle.table_text.proofs.TextLaws.{sources-turn, sources-done}
use Rattle.table_text.proofs.put_sources.Goals as goal

pub loop-i-init : goal.loop-i-init
loop-i-init c = (refl, refl, omega arith)

pub overflow_cast-i : goal.overflow_cast-i
overflow_cast-i c = omega (arith, c.loop-i-test.true)

pub loop-i-preserved : goal.loop-i-preserved
loop-i-preserved c =
    let l = c.loop-i in (
      sources-turn _ l.i _ _ _ c.loop-i-test.true c.put_source-next.ensures l.invariant.0,
      same-length-of (l.out, l.next) _ _ c.put_source-next.ensures ∙ l.invariant.1,
      omega (arith, c.loop-i-test.true),
    )

pub returns : goal.returns
returns c = let l = c.loop-i in sources-done _ l.i _ _ c.loop-i-test.false l.invariant.0
