-- That `write_single` of src/writes.rt keeps its contract.
use mathlib.Core.Path.{refl, sym, ap, ◌∙◌}
use native.Mathlib.Omega.{arith}
use Rattle.steps.specs.Refusals.{absent, unwritable}
use Rattle.cic_registers.specs.declared.layout.Register.{Register}
use Rattle.cic_registers.specs.declared.layout.Register.TheVariants.{Nothing, Revision}
use Rattle.cic_registers.specs.Map.{register_at, access_of}
use Rattle.cic_registers.proofs.LayoutPromises as of-layout
use Rattle.cic_registers.specs.Registers.{value_refusal, written_to}
use Rattle.cic_registers.specs.Access.{write_in}
use Rattle.cic_room.proofs.ReplyLaws.{done_as, stopped}
use Rattle.cic_room.proofs.writes.write_single.Goals as goal

pub returns-in-0 : goal.returns-in-0
unfolding access_of value_refusal written_to
returns-in-0 c = λ f d ok h. done_as (ap (λ (z : Register). write_in d z c.args.v) (sym (ap register_at c.in-0.is ∙ (of-layout.kept).revision))) (stopped d (written_to d Revision c.args.v) unwritable unwritable refl (λ q. absurd (omega (arith, q))) c.refuse.ensures h)

pub returns-in-16 : goal.returns-in-16
unfolding access_of value_refusal written_to
returns-in-16 c = λ f d ok h. done_as (ap (λ (z : Register). write_in d z c.args.v) (sym (ap register_at c.in-16.is ∙ (of-layout.kept).global_enable))) (c.write_global.ensures f d ok h)

pub returns-in-32 : goal.returns-in-32
unfolding access_of value_refusal written_to
returns-in-32 c = λ f d ok h. done_as (ap (λ (z : Register). write_in d z c.args.v) (sym (ap register_at c.in-32.is ∙ (of-layout.kept).status_index.0))) (c.index_system.ensures f d ok h)

pub returns-in-36 : goal.returns-in-36
unfolding access_of value_refusal written_to
returns-in-36 c = λ f d ok h. done_as (ap (λ (z : Register). write_in d z c.args.v) (sym (ap register_at c.in-36.is ∙ (of-layout.kept).status_index.1))) (c.index_system-in-36.ensures f d ok h)

pub returns-in-40 : goal.returns-in-40
unfolding access_of value_refusal written_to
returns-in-40 c = λ f d ok h. done_as (ap (λ (z : Register). write_in d z c.args.v) (sym (ap register_at c.in-40.is ∙ (of-layout.kept).enable_index.0))) (c.index_system-in-40.ensures f d ok h)

pub returns-in-44 : goal.returns-in-44
unfolding access_of value_refusal written_to
returns-in-44 c = λ f d ok h. done_as (ap (λ (z : Register). write_in d z c.args.v) (sym (ap register_at c.in-44.is ∙ (of-layout.kept).enable_index.1))) (c.index_system-in-44.ensures f d ok h)

pub returns-in-52 : goal.returns-in-52
unfolding access_of value_refusal written_to
returns-in-52 c = λ f d ok h. done_as (ap (λ (z : Register). write_in d z c.args.v) (sym (ap register_at c.in-52.is ∙ (of-layout.kept).host_index.0))) (c.index_host.ensures f d ok h)

pub returns-in-56 : goal.returns-in-56
unfolding access_of value_refusal written_to
returns-in-56 c = λ f d ok h. done_as (ap (λ (z : Register). write_in d z c.args.v) (sym (ap register_at c.in-56.is ∙ (of-layout.kept).host_index.1))) (c.index_host-in-56.ensures f d ok h)

pub returns-in_default : goal.returns-in_default
unfolding access_of value_refusal written_to
returns-in_default c =
    let r = c.in_default.in_default-own.rest in
    λ f d ok h.
    done_as (ap (λ (z : Register). write_in d z c.args.v) (sym ((of-layout.kept).no_other c.args.offset c.requires r.0.0.0.0.0.0.0.1 r.0.0.0.0.0.0.1 r.0.0.0.0.0.1 r.0.0.0.0.1 r.0.0.0.1 r.0.0.1 r.0.1 r.1))) (stopped d (written_to d Nothing c.args.v) absent absent refl (λ q. absurd (omega (arith, q))) c.refuse-in_default.ensures h)
