-- That `modes_sound` of src/lib.rt keeps its contract.
use mathlib.Core.Path.{ap, ◌∙◌}
use mathlib.Core.Bool.{Bool, not, ◌&&◌, ◌||◌}
use native.Mathlib.Omega.{arith}
use lib.Dec.{eqb}
use lib.ListN.{get_or}
use Rattle.words.specs.Counting.{all_below}
use Rattle.words.proofs.CountingLaws.{all-none_yet, all_more, at_end}
use Rattle.aic_record.specs.Mode.{edge_of, kept_mode}
use Rattle.aic_record.specs.Passes.{mode_sound}
use Rattle.aic_record.proofs.modes_sound.Goals as goal

pub loop-k-init : goal.loop-k-init
loop-k-init c = (omega arith, all-none_yet _)

pub loop-k-preserved : goal.loop-k-preserved
unfolding mode_sound
loop-k-preserved c =
    let a = c.args in
    let l = c.loop-k in (
      omega arith,
      all_more (mode_sound a.mode.now a.memory) l.k l.invariant.1
          (c.mode_sound-ok.ensures ∙ ap (λ (b : Bool). (edge_of (get_or a.mode.now l.k 0) || not b) && eqb (kept_mode (get_or a.mode.now l.k 0)) (get_or a.mode.now l.k 0)) c.has.ensures),
    )

pub returns : goal.returns
returns c = at_end (λ n. all_below n (mode_sound c.args.mode.now c.args.memory)) _ 32 c.loop-k.invariant.0 c.loop-k-test.false c.loop-k.invariant.1
