-- That `turn` of src/names.rt keeps its contract.
use Prim.Native.Nat.{◌+◌}
use native.Mathlib.Omega.{arith}
use lib.Seq.{length-take-le}
use Rattle.report.proofs.NameLaws.{lines-room}
use Rattle.report.proofs.names.turn.Goals as goal

pub overflow_sub-end : goal.overflow_sub-end
overflow_sub-end g c =
    omega (arith, c.lines-r.ensures.0, length-take-le (c.args.s.held + c.fill-came.result.bytes) c.fill-came.new.names c.fill-came.ensures)

pub returns : goal.returns
returns g c = let n = c.args.s.held + c.fill-came.result.bytes in
    (c.settle.ensures.0, lines-room _ _ (omega (arith, length-take-le n c.fill-came.new.names c.fill-came.ensures, c.fill-came.ensures)) c.lines-r.ensures.1 c.settle.ensures.1)
