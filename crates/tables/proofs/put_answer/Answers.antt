-- That `put_answer` of src/lib.rt keeps its contract.
use mathlib.Core.Path.{ap, ◌∙◌}
use Rattle.tables.proofs.ReadLaws.{answer-taken, answer-refused}
use Rattle.text.specs.Text.{laid}
use Rattle.tables.proofs.put_answer.Goals as goal

pub returns-then-r-eq-CARRIED_OUT : goal.returns-then-r-eq-CARRIED_OUT
returns-then-r-eq-CARRIED_OUT c =
    let s = c.args.text.now in
    c.put_needed.ensures ∙ ap (laid _) (answer-taken s c.read_table-r.result _ c.read_table-r.ensures c.if-r-eq-CARRIED_OUT.true c.needed_by.ensures)

pub returns : goal.returns
returns c =
    let s = c.args.text.now in
    c.put_refused.ensures ∙ ap (laid _) (answer-refused s c.read_table-r.result c.read_table-r.ensures c.if-r-eq-CARRIED_OUT.false)
