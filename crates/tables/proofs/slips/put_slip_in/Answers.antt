-- That `put_slip_in` of src/slips.rt keeps its contract.
use mathlib.Core.Path.{ap, ◌∙◌}
use Rattle.text.specs.Text.{write}
use Rattle.tables.specs.Slips.{line_over}
use Rattle.tables.proofs.SlipLaws.{slip-told}
use Rattle.tables.proofs.slips.put_slip_in.Goals as goal

pub returns-in-Ok : goal.returns-in-Ok
returns-in-Ok c =
    let a = c.args in
    c.put_over.ensures ∙ ap (write _) (ap (line_over a.text.now a.cleared.now) c.first_over.ensures ∙ slip-told a.text.now a.cleared.now _ c.in-Ok.ensures)

pub returns-in-Err : goal.returns-in-Err
returns-in-Err c =
    let a = c.args in
    c.put_fault.ensures ∙ ap (write _) (slip-told a.text.now a.cleared.now _ c.in-Err.ensures)
