-- That `put_fault` of src/slips.rt keeps its contract.
use native.Mathlib.Omega.{arith}
use mathlib.Core.Path.{ap, ◌∙◌}
use Rattle.text.specs.Text.{write}
use Rattle.text.proofs.WriteLaws.{and_then}
use Rattle.tables.proofs.SeekLaws.{past-within, nth-within}
use Rattle.tables.proofs.ReadLaws.{next-is, word-is_some}
use Rattle.std.specs.Prelude.{is_some}
use Rattle.tables.specs.Slips.{told}
use Rattle.tables.proofs.SlipLaws.{fault-told}
use Rattle.tables.proofs.slips.put_fault.Goals as goal

pub read_next-w-requires : goal.read_next-w-requires
read_next-w-requires c = rw c.past_nth.ensures (past-within _ _)

pub put_line-a-requires : goal.put_line-a-requires
put_line-a-requires c =
    let x = next-is c.args.cleared.now _ c.args.n _ c.past_nth.ensures c.read_next-w.ensures in
    omega (arith, x.start, nth-within c.args.cleared.now c.args.n, c.requires)

pub returns : goal.returns
unfolding told
returns c =
    let a = c.args in
    let x = next-is a.cleared.now _ a.n _ c.past_nth.ensures c.read_next-w.ensures in
    and_then _ _ _ (and_then _ _ _ c.put_line-a.ensures c.put_expected-b.ensures) c.put.ensures
    ∙ ap (write _) (fault-told a.text.now a.cleared.now a.n _ _ _ x.start c.byte_or-quote.ensures (c.is_some.ensures ∙ ap is_some x.number ∙ word-is_some _))
