-- That `read_bank` of src/lib.rt keeps its contract.
use mathlib.Core.Path.{sym, ap, ◌∙◌}
use borrow.Author.Tests.{ne_eqb}
use Rattle.words.proofs.ChoiceLaws.{pick-false}
use Rattle.words.specs.Choice.{pick}
use Rattle.aintc_registers.specs.Registers.{bank_read}
use Rattle.aintc_room.proofs.CellLaws.{lines-is, masks-is, soft-is}
use Rattle.aintc_room.proofs.read_bank.Goals as goal

pub returns-in-128 : goal.returns-in-128
unfolding bank_read pick
returns-in-128 c = λ a h. lines-is h _ c.requires ∙ sym (ap (bank_read a c.args.n) c.in-128.is)

pub returns-in-132 : goal.returns-in-132
unfolding bank_read pick
returns-in-132 c = λ a h. masks-is h _ c.requires ∙ sym (ap (bank_read a c.args.n) c.in-132.is)

pub returns-in-144 : goal.returns-in-144
unfolding bank_read pick
returns-in-144 c = λ a h. soft-is h _ c.requires ∙ sym (ap (bank_read a c.args.n) c.in-144.is)

pub returns-in-152 : goal.returns-in-152
unfolding bank_read pick
returns-in-152 c = λ a h. c.pending_word.ensures a h ∙ sym (ap (bank_read a c.args.n) c.in-152.is)

pub returns-in-156 : goal.returns-in-156
unfolding bank_read pick
returns-in-156 c = λ a h. c.pending_word-in-156.ensures a h ∙ sym (ap (bank_read a c.args.n) c.in-156.is)

pub returns-in_default : goal.returns-in_default
unfolding bank_read
returns-in_default c = λ a h. pick-false _ (ne_eqb _ _ c.in_default.in_default-own.rest.1) ∙ pick-false _ (ne_eqb _ _ c.in_default.in_default-own.rest.0.1) ∙ pick-false _ (ne_eqb _ _ c.in_default.in_default-own.rest.0.0.1) ∙ pick-false _ (ne_eqb _ _ c.in_default.in_default-own.rest.0.0.0.1) ∙ pick-false _ (ne_eqb _ _ c.in_default.in_default-own.rest.0.0.0.0.1)
