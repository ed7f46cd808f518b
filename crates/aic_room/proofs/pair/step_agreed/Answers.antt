-- That `step_agreed` of src/pair.rt keeps its contract.
use mathlib.Core.Path.{◌≡◌}
use mathlib.Core.Bool.{true}
use Rattle.words.proofs.TruthLaws.{and_left}
use Rattle.aic_record.specs.Promises.{Shaped}
use Rattle.aic_record.specs.Sound.{sound}
use Rattle.aic.specs.Model.{step}
use Rattle.aic.proofs.SoundLaws.{step-sound}
use Rattle.aic_room.proofs.PairLaws.{answer-told}
use borrow.Author.Rules.{rules}
use Rattle.aic_room.proofs.pair.step_agreed.Goals as goal

pub returns : goal.returns
returns c =
    let s = c.args.s in
    let x = c.args.x in
    let ok : sound s ≡ true = and_left _ _ c.requires in
    let g = c.well_formed.0.1.1.1.1.1.1.1.1 in
    let k = g.1.1 in
    let shaped : Shaped s = (search rules, search rules, search rules, search rules) in
    let d = c.step_in-reply.ensures s ok (c.lay-room.ensures shaped) in
    answer-told s c.args.l x _ _ _ _ c.requires d.1 c.refusal_in.ensures c.value_in.ensures
    (c.record_of-aic.ensures (step s x).aic (step-sound s x shaped ok) d.0) (c.levels_in-levels.ensures (step s x).aic d.0)
