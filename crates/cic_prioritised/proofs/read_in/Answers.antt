-- That `read_in` of src/lib.rt keeps its contract.
use mathlib.Core.Path.{◌∙◌}
use Rattle.steps.specs.declared.Step.TheVariants.{Read}
use Rattle.cic_indexed.specs.Model.{read}
use Rattle.cic_indexed.proofs.Promises.{kept}
use Rattle.cic_prioritised.proofs.FaceLaws.{answer-is}
use Rattle.cic_prioritised.proofs.read_in.Goals as goal

pub returns : goal.returns
returns c =
    let p = c.args.p in
    let x = c.read-r.ensures p c.requires (c.lay-room.ensures c.requires) in
    c.answer_with.ensures ∙ answer-is (read p c.args.offset) x.1 (c.record_of.ensures _ (kept.step_sound p (Read c.args.offset) c.requires) x.0)
