-- That `read_single` of src/lib.rt keeps its contract.
use mathlib.Core.Path.{sym, ap, ap₂, ◌∙◌}
use Prim.Native.Nat.{ℕ, ◌+◌, ◌*◌}
use borrow.Author.Tests.{ne_eqb}
use Rattle.words.proofs.ChoiceLaws.{pick-false}
use Rattle.words.specs.Choice.{pick}
use Rattle.aintc_record.specs.Record.{side}
use Rattle.aintc_registers.specs.Registers.{idle_bits, single_read}
use Rattle.aintc_room.proofs.CellLaws.{threshold-is, revision-is, guarded-is, autoidle-is, turbo-is, funcidle-is}
use Rattle.aintc_room.proofs.ReplyLaws.{bit_is}
use Rattle.aintc_room.proofs.read_single.Goals as goal

pub returns-in-0 : goal.returns-in-0
unfolding single_read side pick
returns-in-0 c = λ a h. revision-is h ∙ sym (ap (single_read a) c.in-0.is)

pub returns-in-16 : goal.returns-in-16
unfolding single_read side pick
returns-in-16 c = λ a h. autoidle-is h ∙ sym (ap (single_read a) c.in-16.is)

pub returns-in-20 : goal.returns-in-20
unfolding single_read side pick
returns-in-20 c = λ a h. sym (ap (single_read a) c.in-20.is)

pub returns-in-64 : goal.returns-in-64
unfolding single_read side pick
returns-in-64 c = λ a h. c.number_shown.ensures a h ∙ sym (ap (single_read a) c.in-64.is)

pub returns-in-68 : goal.returns-in-68
unfolding single_read side pick
returns-in-68 c = λ a h. c.number_shown-in-68.ensures a h ∙ sym (ap (single_read a) c.in-68.is)

pub returns-in-76 : goal.returns-in-76
unfolding single_read side pick
returns-in-76 c = λ a h. guarded-is h ∙ sym (ap (single_read a) c.in-76.is)

pub returns-in-80 : goal.returns-in-80
unfolding single_read side pick idle_bits
returns-in-80 c = λ a h. ap₂ (λ (m n : ℕ). 2 * m + n) (bit_is _ a.turbo (turbo-is h)) (bit_is _ a.funcidle (funcidle-is h)) ∙ sym (ap (single_read a) c.in-80.is)

pub returns-in-96 : goal.returns-in-96
unfolding single_read side pick
returns-in-96 c = λ a h. c.priority_shown.ensures a h ∙ sym (ap (single_read a) c.in-96.is)

pub returns-in-100 : goal.returns-in-100
unfolding single_read side pick
returns-in-100 c = λ a h. c.priority_shown-in-100.ensures a h ∙ sym (ap (single_read a) c.in-100.is)

pub returns-in-104 : goal.returns-in-104
unfolding single_read side pick
returns-in-104 c = λ a h. threshold-is h ∙ sym (ap (single_read a) c.in-104.is)

pub returns-in_default : goal.returns-in_default
unfolding single_read
returns-in_default c = λ a h. pick-false _ (ne_eqb _ _ c.in_default.in_default-own.rest.1) ∙ pick-false _ (ne_eqb _ _ c.in_default.in_default-own.rest.0.1) ∙ pick-false _ (ne_eqb _ _ c.in_default.in_default-own.rest.0.0.1) ∙ pick-false _ (ne_eqb _ _ c.in_default.in_default-own.rest.0.0.0.1) ∙ pick-false _ (ne_eqb _ _ c.in_default.in_default-own.rest.0.0.0.0.1) ∙ pick-false _ (ne_eqb _ _ c.in_default.in_default-own.rest.0.0.0.0.0.1) ∙ pick-false _ (ne_eqb _ _ c.in_default.in_default-own.rest.0.0.0.0.0.0.1) ∙ pick-false _ (ne_eqb _ _ c.in_default.in_default-own.rest.0.0.0.0.0.0.0.1) ∙ pick-false _ (ne_eqb _ _ c.in_default.in_default-own.rest.0.0.0.0.0.0.0.0.1) ∙ pick-false _ (ne_eqb _ _ c.in_default.in_default-own.rest.0.0.0.0.0.0.0.0.0.1)
