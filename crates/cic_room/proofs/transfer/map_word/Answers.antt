-- That `map_word` of src/transfer.rt keeps its contract.
use mathlib.Core.Path.{refl, ◌∙◌}
use Prim.Native.Nat.{◌+◌, ◌*◌}
use native.Mathlib.Omega.{arith}
use borrow.Author.Tests.{lt-ltb}
use lib.ListN.{length, get_or}
use Rattle.cic_registers.proofs.MapLaws.{read_four, read_there}
use Rattle.cic_room.proofs.transfer.map_word.Goals as goal

pub returns : goal.returns
returns c =
    let m = c.args.m.now in
    let k = c.args.k in
    let n = length m in
    c.from_le_bytes.ensures
    ∙ read_four n m k (get_or m (4 * k) 0) (get_or m (4 * k + 1) 0) (get_or m (4 * k + 2) 0) (get_or m (4 * k + 3) 0)
    (read_there n m k 0 (4 * k) (omega arith) refl (lt-ltb (4 * k) n (omega (arith, c.requires))))
    (read_there n m k 1 (4 * k + 1) refl refl (lt-ltb (4 * k + 1) n (omega (arith, c.requires))))
    (read_there n m k 2 (4 * k + 2) refl refl (lt-ltb (4 * k + 2) n (omega (arith, c.requires))))
    (read_there n m k 3 (4 * k + 3) refl refl (lt-ltb (4 * k + 3) n (omega (arith, c.requires))))
