-- That `write_in` of src/lib.rt keeps its contract.
use mathlib.Core.Path.{◌∙◌}
use Rattle.steps.specs.declared.Step.TheVariants.{Write}
use Rattle.cic_indexed.specs.Model.{write}
use Rattle.cic_indexed.proofs.Promises.{kept}
use Rattle.cic_prioritised.proofs.FaceLaws.{answer-is}
use Rattle.cic_prioritised.proofs.write_in.Goals as goal

pub returns : goal.returns
returns c =
    let p = c.args.p in
    let x = c.write-r.ensures p c.requires (c.lay-room.ensures c.requires) in
    c.answer_with.ensures ∙ answer-is (write p c.args.offset c.args.v) x.1 (c.record_of.ensures _ (kept.step_sound p (Write c.args.offset c.args.v) c.requires) x.0)
