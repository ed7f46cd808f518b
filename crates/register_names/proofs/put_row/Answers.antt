-- That `put_row` of src/lib.rt keeps its contract.
use Prim.Native.Nat.{ℕ}
use mathlib.Core.List.{List}
use mathlib.Core.Path.{ap, ◌∙◌}
use Rattle.text.specs.Text.{write}
use Rattle.register_names.specs.Rows.{sectioned}
use Rattle.register_names.specs.Table.{until}
use Rattle.register_names.proofs.TableLaws.{rest_from, words_of}
use Rattle.register_names.proofs.put_row.Goals as goal

pub returns : goal.returns
returns c =
    let a = c.args in
    words_of a.row.now a.o _ _ _ _ _ _ c.put-a.ensures c.put_title-b.ensures c.section_from.ensures.0
    (c.put_section.ensures ∙ ap (write _) (ap (λ (l : List ℕ). sectioned (until l)) (rest_from c.section_from.result a.row.now)))
