-- That `mark` of src/hosts.rt keeps its contract.
use Rattle.words.specs.Array.{with_bit_at}
use mathlib.Core.Path.{ap}
use Prim.Native.Nat.{ℕ, ◌/◌}
use lib.ListN.{set}
use Rattle.cic_registers.proofs.hosts.mark.Goals as goal

pub returns : goal.returns
unfolding with_bit_at
returns c = ap (λ (w : ℕ). set c.args.out.now (c.args.h.0 / 32) w) c.with_bit.ensures
