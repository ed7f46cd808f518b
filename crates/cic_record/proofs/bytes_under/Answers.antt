-- That `bytes_under` of src/lib.rt keeps its contract.
use mathlib.Core.Path.{ap}
use Prim.Native.Nat.{ℕ}
use lib.ListN.{get_or}
use lib.Dec.{ltb}
use native.Mathlib.Omega.{arith}
use Rattle.words.specs.Counting.{all_below}
use Rattle.words.proofs.CountingLaws.{all-none_yet, all_more, at_end}
use Rattle.cic_record.proofs.bytes_under.Goals as goal

pub loop-b-init : goal.loop-b-init
loop-b-init c = (omega arith, all-none_yet _)

pub loop-b-preserved : goal.loop-b-preserved
loop-b-preserved c =
    let l = c.loop-b in
    let a = c.args in
    (omega arith, all_more (λ j. ltb (get_or a.m.now j 0) a.limit) l.b-index l.invariant.1 (ap (λ (x : ℕ). ltb x a.limit) c.from.ensures))

pub returns : goal.returns
returns c = at_end (λ k. all_below k (λ j. ltb (get_or c.args.m.now j 0) c.args.limit)) c.loop-b.b-index _ c.loop-b.invariant.0 c.loop-b-test.false c.loop-b.invariant.1
