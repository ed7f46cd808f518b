-- That `names_at` of src/names.rt keeps its contract.
use Prim.Native.Nat.{◌/◌, ◌%◌}
use mathlib.Core.Path.{refl, ◌∙◌}
use native.Mathlib.Omega.{arith}
use lib.ListN.{get_or}
use Rattle.tables.specs.Named.{no_place, byte_in, names_at}
use Rattle.tables.proofs.FillLaws.{room-none, room-more, room_full}
use Rattle.tables.proofs.names.names_at.Goals as goal

pub loop-k-init : goal.loop-k-init
loop-k-init c = room-none 768 _

pub loop-k-preserved : goal.loop-k-preserved
loop-k-preserved c =
    let l = c.loop-k in
    let a = c.args in
    room-more 768 l.k (λ j. byte_in a.text.now (get_or a.places.now (j / 24) no_place).start (get_or a.places.now (j / 24) no_place).count (j % 24)) _ _ (omega arith) l.invariant c.byte_in.ensures

pub loop-i-init : goal.loop-i-init
loop-i-init c = room-none 32 _

pub loop-i-preserved : goal.loop-i-preserved
loop-i-preserved c =
    let a = c.args in
    room-more 32 c.loop-i.i (λ j. (get_or a.places.now j no_place).count) _ _ (omega arith) c.loop-i.invariant refl

pub returns : goal.returns
unfolding names_at
returns c =
    rw (c.loop-k.invariant ∙ room_full 768 c.loop-k.k _ (omega arith) (omega arith), c.loop-i.invariant ∙ room_full 32 c.loop-i.i _ (omega arith) (omega arith))
