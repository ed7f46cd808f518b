-- That `put_over` of src/slips.rt keeps its contract.
use native.Mathlib.Omega.{arith}
use mathlib.Core.Path.{ap, ◌∙◌}
use Prim.Native.Nat.{◌+◌}
use Rattle.text.specs.Text.{write}
use Rattle.text.proofs.WriteLaws.{nothing, and_then}
use Rattle.tables.proofs.SeekLaws.{past-within, nth-within}
use Rattle.tables.proofs.ReadLaws.{next-is}
use Rattle.tables.specs.Slips.{told, line_over}
use Rattle.tables.proofs.SlipLaws.{start-past, over-told}
use Rattle.tables.proofs.slips.put_over.Goals as goal

pub returns-in_default : goal.returns-in_default
unfolding line_over
returns-in_default c = rw c.in_default.is (nothing _)

pub read_next-w-requires : goal.read_next-w-requires
read_next-w-requires c = rw c.past_nth.ensures (past-within _ _)

pub put_line-a-requires : goal.put_line-a-requires
put_line-a-requires c =
    let x = next-is c.args.cleared.now _ c.in-Some.n _ c.past_nth.ensures c.read_next-w.ensures in
    omega (arith, x.start, nth-within c.args.cleared.now c.in-Some.n, c.requires)

pub slice_bounds-put_over_words-count : goal.slice_bounds-put_over_words-count
slice_bounds-put_over_words-count c =
    let x = next-is c.args.cleared.now _ c.in-Some.n _ c.past_nth.ensures c.read_next-w.ensures in
    omega (arith, x.start, x.past, start-past c.args.cleared.now c.in-Some.n)

pub slice_bounds-put_over_words-start : goal.slice_bounds-put_over_words-start
slice_bounds-put_over_words-start c =
    let x = next-is c.args.cleared.now _ c.in-Some.n _ c.past_nth.ensures c.read_next-w.ensures in
    omega (arith, x.start, x.past, start-past c.args.cleared.now c.in-Some.n)

pub slice_bounds-put_over_words-end : goal.slice_bounds-put_over_words-end
slice_bounds-put_over_words-end c =
    let x = next-is c.args.cleared.now _ c.in-Some.n _ c.past_nth.ensures c.read_next-w.ensures in
    omega (arith, x.past, past-within c.args.cleared.now (c.in-Some.n + 1))

pub returns : goal.returns
unfolding told
returns c =
    let x = next-is c.args.cleared.now _ c.in-Some.n _ c.past_nth.ensures c.read_next-w.ensures in
    rw c.in-Some.is (and_then _ _ _ (and_then _ _ _ c.put_line-a.ensures c.put_over_words-b.ensures) c.put.ensures
    ∙ ap (write _) (over-told c.args.text.now c.args.cleared.now c.in-Some.n _ _ x.start x.past))
