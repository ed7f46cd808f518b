-- That `names_of` of src/names.rt keeps its contract.
use mathlib.Core.Path.{sym, ap, ◌∙◌}
use borrow.Author.Tests.{eq-eqb, ne_eqb}
use Rattle.words.proofs.ChoiceLaws.{pick_true, pick-false}
use Rattle.tables.specs.declared.Reading.{Reading}
use Rattle.tables.specs.Named.{names_of}
use Rattle.tables.proofs.ReadLaws.{read_short}
use Rattle.tables.proofs.names.names_of.Goals as goal

pub returns-then-r-ne-CARRIED_OUT : goal.returns-then-r-ne-CARRIED_OUT
unfolding names_of
returns-then-r-ne-CARRIED_OUT c = c.no_names.ensures ∙ pick-false _ (ne_eqb _ _ (λ z. c.if-r-ne-CARRIED_OUT.true (ap (λ (x : Reading). x.refusal) c.read_table-r.ensures ∙ z)))

pub names_in-requires : goal.names_in-requires
names_in-requires c = read_short _ (sym (ap (λ (x : Reading). x.refusal) c.read_table-r.ensures) ∙ c.if-r-ne-CARRIED_OUT.false)

pub returns : goal.returns
unfolding names_of
returns c = c.names_in.ensures ∙ pick_true _ (eq-eqb _ _ (sym (ap (λ (x : Reading). x.refusal) c.read_table-r.ensures) ∙ c.if-r-ne-CARRIED_OUT.false))
