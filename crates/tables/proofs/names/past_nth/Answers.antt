-- That `past_nth` of src/names.rt keeps its contract.
use mathlib.Core.Path.{refl}
use native.Mathlib.Omega.{arith}
use Rattle.tables.specs.Typed.{past_nth}
use Rattle.tables.proofs.SeekLaws.{started_at, ended_at}
use Rattle.tables.proofs.NameLaws.{past-turn, past-done}
use Rattle.tables.proofs.names.past_nth.Goals as goal

pub loop-init : goal.loop-init
loop-init c = unfold past_nth in refl

pub loop-preserved : goal.loop-preserved
loop-preserved c =
    let l = c.loop in
    let s = c.args.text.now in
    past-turn s l.counter l.past _ _ l.invariant (started_at s l.past c.seek.ensures) (ended_at s _ c.seek-past.ensures)

pub returns : goal.returns
returns c = let l = c.loop in past-done _ l.counter _ l.past l.invariant (omega arith) (omega arith)
