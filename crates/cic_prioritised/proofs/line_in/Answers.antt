-- That `line_in` of src/lib.rt keeps its contract.
use mathlib.Core.Path.{◌∙◌}
use Rattle.steps.specs.declared.Step.TheVariants.{Line}
use Rattle.cic_indexed.specs.Model.{line}
use Rattle.cic_indexed.proofs.Promises.{kept}
use Rattle.cic_prioritised.proofs.FaceLaws.{answer-is}
use Rattle.cic_prioritised.proofs.line_in.Goals as goal

pub returns : goal.returns
returns c =
    let p = c.args.p in
    let x = c.line-r.ensures p c.requires (c.lay-room.ensures c.requires) in
    c.answer_with.ensures ∙ answer-is (line p c.args.number c.args.level) x.1 (c.record_of.ensures _ (kept.step_sound p (Line c.args.number c.args.level) c.requires) x.0)
