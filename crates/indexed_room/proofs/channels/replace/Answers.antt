-- That `replace` of src/channels.rt keeps its contract.
use mathlib.Core.Bool.{not, ◌&&◌, ◌||◌}
use lib.Dec.{eqb}
use Rattle.indexed_room.specs.Words.{one_of}
use Rattle.indexed_room.proofs.WordLaws.{renewing_as, same_byte, both_bytes}
use Rattle.indexed_room.proofs.channels.replace.Goals as goal

pub returns-then-from-to : goal.returns-then-from-to
returns-then-from-to c = λ f d rest g h. renewing_as (same_byte _ _ rest c.if-from-to.true) h

pub returns : goal.returns
returns c =
    let s = c.args in
    let a = s.from.0 in
    let b = s.to.0 in
    λ f d rest g h.
    renewing_as (both_bytes a b rest)
    (c.enter.ensures f d (λ j. (one_of a b j || rest j) && not (eqb j a)) g (c.look_again.ensures f d (λ j. one_of a b j || rest j) h))
