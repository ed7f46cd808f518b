-- That `slots_sound` of src/lib.rt keeps its contract.
use mathlib.Core.Path.{sym}
use native.Mathlib.Omega.{arith}
use Rattle.words.specs.Counting.{all_below}
use Rattle.words.proofs.CountingLaws.{all-none_yet, all_more, at_end}
use Rattle.aic_record.specs.Passes.{slot_sound}
use Rattle.aic_record.proofs.SoundLaws.{below_none, below_next}
use Rattle.aic_record.proofs.PassLaws.{slot_is}
use Rattle.aic_record.proofs.slots_sound.Goals as goal

pub loop-i-init : goal.loop-i-init
loop-i-init c = (omega arith, all-none_yet _, sym (below_none _))

pub loop-i-preserved : goal.loop-i-preserved
loop-i-preserved c =
    let a = c.args in
    let l = c.loop-i in
    (omega arith, all_more (slot_sound a.source a.level a.depth) l.i l.invariant.1 (slot_is a.source a.level a.depth l.i l.below l.invariant.2 c.slot_sound-ok.ensures), sym (below_next a.level l.i))

pub returns : goal.returns
returns c =
    let a = c.args in
    at_end (λ n. all_below n (slot_sound a.source a.level a.depth)) _ 8 c.loop-i.invariant.0 c.loop-i-test.false c.loop-i.invariant.1
