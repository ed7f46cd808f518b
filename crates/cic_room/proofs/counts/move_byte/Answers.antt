-- That `move_byte` of src/counts.rt keeps its contract.
use mathlib.Core.Path.{sym, ap, subst}
use Prim.Native.Nat.{ℕ, ◌+◌, ◌*◌, ◌<◌}
use Rattle.words.specs.Array.{byte_of}
use Rattle.cic_room.specs.Room.{permitted}
use Rattle.cic_room.specs.Tables.{more}
use Rattle.cic_room.proofs.ShownLaws.{beside_as}
use Rattle.cic_room.proofs.counts.move_byte.Goals as goal

pub returns : goal.returns
returns c =
    let from = c.byte_of.ensures.0 in
    let to = c.byte_of-2.ensures.0 in
    λ f d e u g h b l m.
    let n = u (4 * c.args.k + c.args.j) in
    let s = c.move_channel.ensures f d e u g h (beside_as (permitted d) (more g _ n) (λ i _. ap (λ (x : ℕ). more g x n i) (sym from)) b) l (subst (λ (x : ℕ). g x < 2048) (sym to) m) in
    (s.0, beside_as (permitted d) (more g (byte_of c.args.new c.args.j) n) (λ i _. ap (λ (x : ℕ). more g x n i) to) s.1)
