-- That `chosen` of src/waits.rt keeps its contract.
use native.Mathlib.Omega.{arith}
use lib.ListN.{get_or}
use Rattle.words.specs.Choice.{pick}
use Rattle.words.specs.Word.{bit}
use Rattle.totals.proofs.MadeLaws.{made_at}
use Rattle.totals.proofs.WaitLaws.{all-chosen}
use borrow.Author.Rules.{rules}
use Rattle.totals.proofs.waits.chosen.Goals as goal

pub returns : goal.returns
unfolding pick
returns c =
    let a = c.args in
    λ p e.
    all-chosen p a.w _ _ _ 32 c.from_fn.ensures.items.long (search rules) (search rules) (omega arith)
    (made_at _ _ (λ k. pick (bit a.w k) (get_or a.b k 0) (get_or a.a k 0)) 0 (λ i y q k. search rules) _ 32 c.from_fn.ensures.items) e
