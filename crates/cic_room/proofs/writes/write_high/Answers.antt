-- That `write_high` of src/writes.rt keeps its contract.
use mathlib.Core.Path.{refl, sym, ap}
use Prim.Native.Nat.{◌<◌, ◌≤◌}
use native.Mathlib.Omega.{arith}
use borrow.Author.Tests.{leb-false}
use lib.Dec.{ltb, leb}
use Rattle.words.proofs.TruthLaws.{or_neither}
use Rattle.steps.specs.Refusals.{absent}
use Rattle.cic_registers.specs.declared.layout.Register.{Register}
use Rattle.cic_registers.specs.declared.layout.Register.TheVariants.{Nothing}
use Rattle.cic_registers.specs.Map.{access_of}
use Rattle.cic_registers.specs.Registers.{value_refusal, written_to}
use Rattle.cic_registers.specs.Access.{write_in}
use Rattle.cic_room.proofs.ReplyLaws.{done_as, stopped, at_enables, at_none}
use borrow.Author.Tests.{ltb-false}
use Rattle.cic_room.proofs.writes.write_high.Goals as goal

pub returns-then-offset : goal.returns-then-offset
unfolding access_of value_refusal written_to
returns-then-offset c = λ f d ok h. done_as (ap (λ (z : Register). write_in d z c.args.v) (sym (at_none c.args.offset c.requires.0 c.if-offset.true))) (stopped d (written_to d Nothing c.args.v) absent absent refl (λ q. absurd (omega (arith, q))) c.refuse.ensures h)

pub overflow_sub-offset : goal.overflow_sub-offset
overflow_sub-offset c =
    let o = c.args.offset in
    let q = or_neither (ltb o 0x1500) (leb 0x1520 o) c.if-offset.false in
    let l : 0x1500 ≤ o = ltb-false o 0x1500 q.0 in
    let m : o < 0x1520 = leb-false 0x1520 o q.1 in
    omega (arith, l)

pub replace_hosts-requires : goal.replace_hosts-requires
replace_hosts-requires c =
    let o = c.args.offset in
    let q = or_neither (ltb o 0x1500) (leb 0x1520 o) c.if-offset.false in
    let l : 0x1500 ≤ o = ltb-false o 0x1500 q.0 in
    let m : o < 0x1520 = leb-false 0x1520 o q.1 in
    omega (arith, l, m)

pub returns : goal.returns
returns c =
    let o = c.args.offset in
    let q = or_neither (ltb o 0x1500) (leb 0x1520 o) c.if-offset.false in
    let l : 0x1500 ≤ o = ltb-false o 0x1500 q.0 in
    let m : o < 0x1520 = leb-false 0x1520 o q.1 in
    λ f d ok h. done_as (ap (λ (z : Register). write_in d z c.args.v) (sym (at_enables o c.requires.1 l m))) (c.replace_hosts.ensures f d ok h)
