-- That `hosts_sound` of src/lib.rt keeps its contract.
use mathlib.Core.Bool.{◌&&◌}
use lib.Dec.{eqb, ltb}
use lib.ListN.{get_or}
use native.Mathlib.Omega.{arith}
use Rattle.words.specs.Counting.{all_below}
use Rattle.words.proofs.CountingLaws.{all-none_yet, all_more, at_end}
use Rattle.cic_held.specs.Held.{entry_sound}
use Rattle.cic_held.proofs.hosts_sound.Goals as goal

pub loop-k-init : goal.loop-k-init
loop-k-init c = (omega arith, all-none_yet _)

pub loop-k-preserved : goal.loop-k-preserved
loop-k-preserved c =
    let l = c.loop-k in
    let a = c.args in
    (omega arith, all_more (λ j. entry_sound a.systems (ltb j a.hosts && eqb a.hold 1) (get_or a.m.now j 0)) l.k l.invariant.1 c.entry_sound-ok.ensures)

pub returns : goal.returns
returns c =
    let a = c.args in
    at_end (λ k. all_below k (λ j. entry_sound a.systems (ltb j a.hosts && eqb a.hold 1) (get_or a.m.now j 0))) c.loop-k.k 256 c.loop-k.invariant.0 c.loop-k-test.false c.loop-k.invariant.1
