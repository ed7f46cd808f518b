-- That `list_plain` of src/lib.rt keeps its contract.
use mathlib.Core.Path.{ap, ◌∙◌}
use Rattle.text.proofs.WriteLaws.{and_then, write-laid}
use Rattle.text.specs.Text.{write}
use Rattle.lines.proofs.LineLaws.{listing-begun, listing-refused}
use Rattle.listing.proofs.list_plain.Goals as goal

pub returns-then-b-ne-CARRIED_OUT : goal.returns-then-b-ne-CARRIED_OUT
returns-then-b-ne-CARRIED_OUT c = c.put_end.ensures ∙ ap (write _) (listing-refused _ _ _ c.begin-b.ensures c.if-b-ne-CARRIED_OUT.true) ∙ write-laid _ _

pub list_any-requires : goal.list_any-requires
list_any-requires c = (c.begin-b.ensures, c.if-b-ne-CARRIED_OUT.false)

pub returns : goal.returns
returns c = and_then _ _ _ c.put_name-at.ensures c.list_any.ensures ∙ ap (write _) (listing-begun _ _ _ c.begin-b.ensures c.if-b-ne-CARRIED_OUT.false) ∙ write-laid _ _
