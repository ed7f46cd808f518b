-- That `note_aic` of src/lib.rt keeps its contract.
use mathlib.Core.Path.{◌∙◌}
use Rattle.sheet_traces.proofs.NoteLaws.{is-sound, is_shaped, is_shut, is-short, few_steps, note-is}
use Rattle.sheet_traces.proofs.note_aic.Goals as goal

pub play_steps-p-requires : goal.play_steps-p-requires
play_steps-p-requires c =
    let p = c.requires in (
      is-sound _ _ p.0 p.1 p.2,
      is_shaped _ _ p.0 p.1 p.2,
      is_shut _ _ p.0 p.1 p.2,
      is-short _ _ p.0 p.1 p.2,
      few_steps _ _ p.0 p.1 p.2 _,
    )

pub returns : goal.returns
returns c =
    c.noted.ensures ∙ note-is _ _ c.requires.0 c.requires.1 c.requires.2 c.args.limit c.args.table _ c.play_steps-p.ensures
