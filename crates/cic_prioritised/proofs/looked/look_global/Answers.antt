-- That `look_global` of src/looked.rt keeps its contract.
use mathlib.Core.Path.{ap, ◌∙◌}
use Rattle.cic_record.proofs.PartsLaws.{sound-counts}
use Rattle.cic_held.specs.declared.indices.Found.{Found}
use Rattle.cic_indexed.specs.Model.{read_as}
use Rattle.cic_indexed.proofs.SoundLaws.{sound-cic}
use Rattle.cic_prioritised.specs.Looking.{looked, words_at}
use Rattle.cic_prioritised.proofs.LookLaws.{refused-look, carried-look}
use Rattle.cic_prioritised.proofs.looked.look_global.Goals as goal

pub returns-then-n-ne-CARRIED_OUT : goal.returns-then-n-ne-CARRIED_OUT
unfolding read_as
returns-then-n-ne-CARRIED_OUT c = c.answer.ensures ∙ refused-look c.args.p _ _ c.read_refusal-n.ensures c.if-n-ne-CARRIED_OUT.true

pub look_now-f-requires : goal.look_now-f-requires
look_now-f-requires c =
    let n = sound-counts c.args.p.cic (sound-cic c.args.p c.requires) in
    (n.systems.1, n.channels.1)

pub returns : goal.returns
unfolding read_as words_at
returns c =
    c.answer-2.ensures ∙ ap (λ (f : Found). looked 0 f.index f.words) c.look_now-f.ensures
    ∙ carried-look c.args.p _ _ _ c.read_refusal-n.ensures c.if-n-ne-CARRIED_OUT.false
