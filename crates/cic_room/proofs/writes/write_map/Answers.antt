-- That `write_map` of src/writes.rt keeps its contract.
use mathlib.Core.Path.{sym, ap}
use native.Mathlib.Omega.{arith}
use Rattle.cic_registers.specs.declared.layout.Register.{Register}
use Rattle.cic_registers.specs.Access.{write_in}
use Rattle.cic_room.proofs.ReplyLaws.{done_as, at_channels, at_hosts}
use Rattle.cic_room.proofs.writes.write_map.Goals as goal

pub returns-then-offset-lt2048 : goal.returns-then-offset-lt2048
returns-then-offset-lt2048 c = λ f d ok h. done_as (ap (λ (z : Register). write_in d z c.args.v) (sym (at_channels c.args.offset c.requires.1.1 c.requires.0 c.if-offset-lt2048.true))) (c.write_channels.ensures f d ok h)

pub returns : goal.returns
returns c = λ f d ok h. done_as (ap (λ (z : Register). write_in d z c.args.v) (sym (at_hosts c.args.offset c.requires.1.1 (omega (arith, c.if-offset-lt2048.false)) c.requires.1.0))) (c.write_hosts.ensures f d ok h)
