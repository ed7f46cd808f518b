-- That `print_begun` of src/lib.rt keeps its contract.
use mathlib.Core.Path.{ap, ◌∙◌}
use Rattle.text.specs.Text.{laid}
use Rattle.table_text.proofs.TextLaws.{no_table_lem, not_aic, the-table, is-tabled}
use Rattle.table_text.proofs.print_begun.Goals as goal

pub returns-then-m-ne-AIC : goal.returns-then-m-ne-AIC
returns-then-m-ne-AIC c = (
  c.put_no_table-n.ensures ∙ ap (laid _) (no_table_lem _ _ c.requires.0 c.requires.1 c.if-m-ne-AIC.true),
  not_aic _ _ c.requires.0 c.requires.1 c.if-m-ne-AIC.true,
)

pub returns : goal.returns
returns c = (
  c.put_played-n.ensures ∙ ap (laid _) (the-table _ _ c.requires.0 c.requires.1 c.if-m-ne-AIC.false),
  is-tabled _ _ c.requires.0 c.requires.1 c.if-m-ne-AIC.false,
)
