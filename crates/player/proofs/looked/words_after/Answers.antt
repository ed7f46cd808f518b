-- That `words_after` of src/looked.rt keeps its contract.
use mathlib.Core.Path.{ap, ◌∙◌}
use Rattle.beginning.specs.declared.reports.Played.{Played}
use Rattle.player.specs.After.{words_of}
use Rattle.player.proofs.looked.words_after.Goals as goal

pub returns : goal.returns
returns c = c.words_of.ensures ∙ ap (λ (p : Played). words_of p.machine c.args.offset) c.play.ensures
