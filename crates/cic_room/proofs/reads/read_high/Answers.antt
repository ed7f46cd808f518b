-- That `read_high` of src/reads.rt keeps its contract.
use mathlib.Core.Path.{◌∙◌}
use Prim.Native.Nat.{◌-◌, ◌/◌, ◌<◌, ◌≤◌}
use native.Mathlib.Omega.{arith}
use borrow.Author.Tests.{leb-false}
use lib.Dec.{ltb, leb}
use Rattle.words.proofs.TruthLaws.{or_neither}
use Rattle.cic_record.proofs.PartsLaws.{sound-parts}
use Rattle.cic_room.proofs.PutLaws.{hosts-is, allow-is}
use Rattle.cic_room.proofs.ReplyLaws.{at_enables, at_none, word_as, told-nothing, told_allow}
use borrow.Author.Tests.{ltb-false}
use Rattle.cic_room.proofs.reads.read_high.Goals as goal

pub returns-then-offset : goal.returns-then-offset
returns-then-offset c = λ f d ok h. c.refuse.ensures ∙ told-nothing d c.args.offset (at_none c.args.offset c.requires.0 c.if-offset.true)

pub overflow_sub-k : goal.overflow_sub-k
overflow_sub-k c =
    let o = c.args.offset in
    let q = or_neither (ltb o 0x1500) (leb 0x1520 o) c.if-offset.false in
    let l : 0x1500 ≤ o = ltb-false o 0x1500 q.0 in
    let m : o < 0x1520 = leb-false 0x1520 o q.1 in
    omega (arith, l)

pub overflow_mul-k : goal.overflow_mul-k
overflow_mul-k c =
    let o = c.args.offset in
    let q = or_neither (ltb o 0x1500) (leb 0x1520 o) c.if-offset.false in
    let l : 0x1500 ≤ o = ltb-false o 0x1500 q.0 in
    let m : o < 0x1520 = leb-false 0x1520 o q.1 in
    omega (arith, l, m)

pub bounds-room-k : goal.bounds-room-k
bounds-room-k c =
    let o = c.args.offset in
    let q = or_neither (ltb o 0x1500) (leb 0x1520 o) c.if-offset.false in
    let l : 0x1500 ≤ o = ltb-false o 0x1500 q.0 in
    let m : o < 0x1520 = leb-false 0x1520 o q.1 in
    omega (arith, l, m)

pub returns : goal.returns
returns c =
    let o = c.args.offset in
    let k = (o - 0x1500) / 4 in
    let q = or_neither (ltb o 0x1500) (leb 0x1520 o) c.if-offset.false in
    let l : 0x1500 ≤ o = ltb-false o 0x1500 q.0 in
    let m : o < 0x1520 = leb-false 0x1520 o q.1 in
    λ f d ok h.
    c.if_any.ensures
    ∙ told_allow d o k _ _ (at_enables o c.requires.1 l m) (hosts-is h) (allow-is h k (omega (arith, l, m)) ∙ word_as 8 d.hosts d.allow k (omega (arith, l, m)) (sound-parts d ok).allow)
