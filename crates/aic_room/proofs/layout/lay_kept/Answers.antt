-- That `lay_kept` of src/layout.rt keeps its contract.
use mathlib.Core.Path.{◌∙◌}
use Rattle.aic_room.proofs.LayLaws.{kept-laid}
use Rattle.aic_room.proofs.layout.lay_kept.Goals as goal

pub returns : goal.returns
returns c = λ s. kept-laid c.args.a c.args.room.now _ _ _ _ _ _ _ c.mode_word.ensures c.mode_word-high.ensures c.drop_bits.ensures c.join-fast.ensures c.drop_bits-2.ensures c.meet.ensures (c.from.ensures ∙ c.last_level.ensures)
