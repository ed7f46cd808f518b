-- That `shared` of src/hosts.rt keeps its contract.
use Rattle.words.proofs.ArrayLaws.{bit_at-both}
use Rattle.words.specs.Word.{both}
use lib.ListN.{get_or}
use native.Mathlib.Omega.{arith}
use Prim.Native.Nat.{◌/◌}
use Rattle.cic_registers.proofs.MadeLaws.{made_at, callable_below}
use borrow.Author.Rules.{rules}
use Rattle.cic_registers.proofs.hosts.shared.Goals as goal

pub from_fn-requires : goal.from_fn-requires
from_fn-requires c = (omega arith, callable_below _ _ 8 _ (λ x q r. search rules) (λ x l. search rules))

pub returns : goal.returns
returns c =
    let a = c.args in
    λ h l.
    bit_at-both _ a.a a.b h
    (made_at _ _ (λ k. both (get_or a.a k 0) (get_or a.b k 0)) 0 (λ i y q k. search rules) _ 8 c.from_fn.ensures.items (h / 32) (omega (arith, l)))
