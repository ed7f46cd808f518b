-- That `replace_hosts` of src/writes.rt keeps its contract.
use Prim.Native.Nat.{◌*◌}
use native.Mathlib.Omega.{arith}
use Rattle.steps.specs.Refusals.{absent, write_access}
use Rattle.cic_registers.specs.declared.layout.Register.TheVariants.{HostEnable}
use Rattle.cic_registers.specs.Map.{access_of, if_any}
use Rattle.cic_registers.specs.Registers.{value_refusal, written_to}
use Rattle.cic_room.proofs.PutLaws.{hosts-is}
use Rattle.cic_room.proofs.ReplyLaws.{carried, stopped, there, not_there}
use Rattle.cic_room.proofs.writes.replace_hosts.Goals as goal

pub returns-then-room-k : goal.returns-then-room-k
unfolding access_of value_refusal written_to
returns-then-room-k c = let a = c.args in λ f d ok h. stopped d (written_to d (HostEnable a.k) a.v) (write_access (if_any (32 * a.k) d.hosts) 0) absent (not_there (32 * a.k) d.hosts 0 (omega (arith, c.if-room-k.true, hosts-is h))) (λ q. absurd (omega (arith, q))) c.refuse.ensures h

pub returns : goal.returns
unfolding access_of value_refusal written_to
returns c = let a = c.args in λ f d ok h. carried d (written_to d (HostEnable a.k) a.v) (write_access (if_any (32 * a.k) d.hosts) 0) (there (32 * a.k) d.hosts 0 (omega (arith, c.if-room-k.false, hosts-is h))) c.answer.ensures (c.replace_hosts.ensures f d h)
