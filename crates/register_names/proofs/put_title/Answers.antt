-- That `put_title` of src/lib.rt keeps its contract.
use mathlib.Core.Path.{ap, ◌∙◌}
use Rattle.text.specs.Text.{write}
use Rattle.register_names.specs.Table.{until}
use Rattle.register_names.proofs.TableLaws.{rest_from, title_of}
use Rattle.register_names.proofs.put_title.Goals as goal

pub returns : goal.returns
returns c =
    let a = c.args in
    title_of a.row.now a.o _ _ _ _ _ c.four_at-first.ensures.0 c.two_at-step.ensures.0 (c.put_until-a.ensures ∙ ap (write _) (ap until (rest_from 15 a.row.now))) c.put_number.ensures
