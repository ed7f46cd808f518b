-- That `words_in` of src/transfer.rt keeps its contract.
use Prim.Native.Nat.{◌+◌}
use native.Mathlib.Omega.{arith}
use lib.ListN.{get_or}
use Rattle.cic_registers.proofs.MadeLaws.{made_at, callable_below}
use borrow.Author.Rules.{rules}
use Rattle.cic_room.proofs.transfer.words_in.Goals as goal

pub from_fn-requires : goal.from_fn-requires
from_fn-requires g c = (omega (arith, c.requires), callable_below _ _ _ _ (λ x q r. search rules) (λ x l. let h = c.requires in search rules))

pub returns : goal.returns
returns g c =
    let a = c.args in
    let made = c.from_fn.ensures.items in
    (made.long, made_at _ _ (λ k. get_or a.room.now (a.at + k) 0) 0 (λ i y q k. search rules) _ _ made)
