-- That `largest` of src/lib.rt keeps its contract.
use Prim.Native.Nat.{max}
use native.Mathlib.Omega.{arith}
use lib.ListN.{get_or}
use Rattle.totals.proofs.TotalsLaws.{all-joined}
use Rattle.totals.proofs.MadeLaws.{made_at}
use borrow.Author.Rules.{rules}
use Rattle.totals.proofs.largest.Goals as goal

pub returns : goal.returns
returns c =
    let a = c.args in
    all-joined max _ _ _ 32 c.from_fn.ensures.items.long (search rules) (search rules) (omega arith)
    (made_at _ _ (λ k. max (get_or a.a k 0) (get_or a.b k 0)) 0 (λ i y q k. search rules) _ 32 c.from_fn.ensures.items)
