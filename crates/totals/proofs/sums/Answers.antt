-- That `sums` of src/lib.rt keeps its contract.
use Prim.Native.Nat.{◌+◌}
use native.Mathlib.Omega.{arith}
use lib.ListN.{get_or}
use Rattle.totals.proofs.TotalsLaws.{all-joined, fit_at}
use Rattle.totals.proofs.MadeLaws.{made_at, callable_below}
use borrow.Author.Rules.{rules}
use Rattle.totals.proofs.sums.Goals as goal

pub from_fn-requires : goal.from_fn-requires
from_fn-requires c =
    let a = c.args in
    (omega arith, callable_below _ _ 32 _ (λ x q r. search rules) (λ x l. let h = fit_at a.a a.b c.requires x l in search rules))

pub returns : goal.returns
returns c =
    let a = c.args in
    all-joined ◌+◌ _ _ _ 32 c.from_fn.ensures.items.long (search rules) (search rules) (omega arith)
    (made_at _ _ (λ k. get_or a.a k 0 + get_or a.b k 0) 0 (λ i y q k. search rules) _ 32 c.from_fn.ensures.items)
