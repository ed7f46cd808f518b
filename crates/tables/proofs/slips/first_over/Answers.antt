-- That `first_over` of src/slips.rt keeps its contract.
use mathlib.Core.Path.{refl, sym, ◌∙◌}
use native.Mathlib.Omega.{arith}
use Rattle.tables.specs.Typed.{past_nth}
use Rattle.tables.proofs.SeekLaws.{past-within}
use Rattle.tables.proofs.ReadLaws.{next-is}
use Rattle.tables.proofs.SlipLaws.{next-over, over_found, over_none, over-more}
use borrow.Author.Rules.{rules}
use Rattle.tables.proofs.slips.first_over.Goals as goal

pub loop-n-init : goal.loop-n-init
loop-n-init c = (unfold past_nth in refl, λ k l. absurd (search rules))

pub read_next-next-requires : goal.read_next-next-requires
read_next-next-requires c = rw c.loop-n.invariant.0 (past-within _ _)

pub returns-then-is_over : goal.returns-then-is_over
returns-then-is_over c =
    let l = c.loop-n in
    let s = c.args.cleared.now in
    let x = next-is s l.past l.n _ l.invariant.0 c.read_next-next.ensures in
    over_found s l.n (omega arith) l.invariant.1 (sym (c.is_over.ensures ∙ next-over s l.n _ x) ∙ c.if-is_over.true)

pub loop-n-preserved : goal.loop-n-preserved
loop-n-preserved c =
    let l = c.loop-n in
    let s = c.args.cleared.now in
    let x = next-is s l.past l.n _ l.invariant.0 c.read_next-next.ensures in
    (x.past, over-more s l.n l.invariant.1 (sym (c.is_over.ensures ∙ next-over s l.n _ x) ∙ c.if-is_over.false))

pub returns : goal.returns
returns c = over_none c.args.cleared.now (λ k m. c.loop-n.invariant.1 k (omega arith))
