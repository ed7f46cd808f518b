-- That `held_in` of src/transfer.rt keeps its contract.
use Prim.Native.Nat.{◌+◌, ◌%◌}
use native.Mathlib.Omega.{arith}
use lib.ListN.{get_or}
use Rattle.cic_registers.proofs.MadeLaws.{made_at, callable_below}
use borrow.Author.Rules.{rules}
use Rattle.indexed_room.proofs.transfer.held_in.Goals as goal

pub from_fn-requires : goal.from_fn-requires
from_fn-requires c = (omega arith, callable_below _ _ 256 _ (λ x q r. search rules) (λ x l. omega arith))

pub returns : goal.returns
returns c =
    let a = c.args in
    let made = c.from_fn.ensures.items in
    (made.long, made_at _ _ (λ k. get_or a.room.now (1024 + k) 0 % 65536) 0 (λ i y q k. search rules) _ 256 made)
