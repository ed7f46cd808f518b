-- That `put_played` of src/lib.rt keeps its contract.
use mathlib.Core.Path.{ap, ◌∙◌}
use Rattle.text.specs.Text.{laid}
use Rattle.beginning.specs.declared.reports.Played.{Played}
use Rattle.table_text.specs.Text.{table_text}
use Rattle.table_text.proofs.put_played.Goals as goal

pub returns : goal.returns
returns c =
    let out = c.args.out.now in
    c.put_table.ensures ∙ ap (λ (p : Played). laid out (table_text p.machine.aic)) c.play-p.ensures
