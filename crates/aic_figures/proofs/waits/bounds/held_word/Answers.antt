-- That `held_word` of src/waits/bounds.rt keeps its contract.
use Prim.Native.Nat.{ℕ, ◌+◌, ◌%◌, ◌<◌}
use mathlib.Core.Path.{ap, ◌∙◌}
use native.Mathlib.Omega.{arith}
use lib.ListN.{get_or}
use Rattle.words.specs.Word.{word_of}
use Rattle.aic_record.proofs.SoundLaws.{sound-is}
use Rattle.aic_room.proofs.CellLaws.{depth_is}
use Rattle.aic_bounds.proofs.WordLaws.{held_among, held_none, held_more, held-from}
use Rattle.aic_figures.proofs.BoundLaws.{source_at_lem, over_at}
use Rattle.aic_figures.proofs.waits.bounds.held_word.Goals as goal

pub returns-then-depth-gt8 : goal.returns-then-depth-gt8
returns-then-depth-gt8 c = λ t ok h. absurd (omega (arith, c.if-depth-gt8.true, depth_is h, (sound-is t ok).entries))

pub loop-d-init : goal.loop-d-init
loop-d-init c = (omega arith, λ t ok h. held_none t)

pub loop-d-preserved : goal.loop-d-preserved
loop-d-preserved c =
    let l = c.loop-d in
    let k = c.loop-d-test.true in
    let a = c.args in
    let j = get_or a.room.now (40 + l.d) 0 % 32 in (
      omega (arith, k),
      λ t ok h.
          let n : l.d < t.depth = omega (arith, k, depth_is h) in
          held_more t l.d l.w j _ _ _ (l.invariant.1 t ok h) (source_at_lem ok h l.d n) c.has.ensures (over_at ok h l.d n (omega arith)) c.with_bit-w.ensures,
    )

pub returns : goal.returns
returns c =
    let l = c.loop-d in
    λ t ok h. held-from t l.w _ (l.invariant.1 t ok h ∙ ap (λ (n : ℕ). word_of 32 (held_among t n)) (omega (arith, l.invariant.0, c.loop-d-test.false, depth_is h))) c.drop_bits.ensures
