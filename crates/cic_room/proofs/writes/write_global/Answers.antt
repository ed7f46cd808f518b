-- That `write_global` of src/writes.rt keeps its contract.
use mathlib.Core.Path.{refl}
use Prim.Native.Nat.{◌%◌}
use Rattle.cic_record.specs.Record.{with_global}
use Rattle.cic_registers.specs.Map.{access_of}
use Rattle.cic_registers.specs.Registers.{value_refusal, written_to}
use Rattle.cic_room.proofs.ReplyLaws.{carried}
use Rattle.cic_room.proofs.writes.write_global.Goals as goal

pub returns : goal.returns
unfolding access_of value_refusal written_to
returns c = let a = c.args in λ f d ok h. carried d (with_global d (a.v % 2)) 0 refl c.answer.ensures (c.set_global.ensures f d h)
