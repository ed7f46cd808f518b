-- That `write_bits` of src/writes.rt keeps its contract.
use mathlib.Core.Path.{sym, ap}
use native.Mathlib.Omega.{arith}
use Rattle.cic_registers.specs.declared.layout.Register.{Register}
use Rattle.cic_registers.specs.Access.{write_in}
use Rattle.cic_room.proofs.ReplyLaws.{done_as, at_raw, at_enabled, at_set, at_clear}
use Rattle.cic_room.proofs.writes.write_bits.Goals as goal

pub returns-in-4 : goal.returns-in-4
returns-in-4 c = λ f d ok h. done_as (ap (λ (z : Register). write_in d z c.args.v) (sym (at_raw c.args.offset c.requires.1.1 c.in-4.is))) (c.set_bits.ensures f d ok h)

pub returns-in-5 : goal.returns-in-5
returns-in-5 c = λ f d ok h. done_as (ap (λ (z : Register). write_in d z c.args.v) (sym (at_enabled c.args.offset c.requires.1.1 c.in-5.is))) (c.clear_bits.ensures f d ok h)

pub returns-in-6 : goal.returns-in-6
returns-in-6 c = λ f d ok h. done_as (ap (λ (z : Register). write_in d z c.args.v) (sym (at_set c.args.offset c.requires.1.1 c.in-6.is))) (c.set_bits-in-6.ensures f d ok h)

pub returns-in_default : goal.returns-in_default
returns-in_default c =
    let r = c.in_default.in_default-own.rest in
    λ f d ok h. done_as (ap (λ (z : Register). write_in d z c.args.v) (sym (at_clear c.args.offset c.requires.1.1 (omega (arith, c.requires.0, c.requires.1.0, r.1, r.0.1, r.0.0.1))))) (c.clear_bits-in_default.ensures f d ok h)
