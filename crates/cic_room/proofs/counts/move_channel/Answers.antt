-- That `move_channel` of src/counts.rt keeps its contract.
use mathlib.Core.Path.{◌≡◌, refl, sym, ap, ◌∙◌}
use Prim.Native.Nat.{ℕ, ◌+◌, ◌%◌}
use native.Mathlib.Omega.{arith}
use lib.Dec.{eqb}
use lib.ListN.{get_or}
use Rattle.cic_room.specs.Room.{permitted}
use Rattle.cic_room.specs.Tables.{more}
use Rattle.cic_room.proofs.ShownLaws.{beside_as}
use Rattle.cic_room.proofs.WriteLaws.{stays_put, some_moves}
use Rattle.cic_room.proofs.counts.move_channel.Goals as goal

pub returns-then-n-from : goal.returns-then-n-from
returns-then-n-from c =
    let k = c.args.k.0 in
    λ f d e u g h b l m.
    let same : get_or c.args.room.now (512 + k) 0 % 2048 ≡ u k = omega (arith, l, b.of_channel.holds k c.requires.0) in
    (h, stays_put (permitted d) g (u k) c.args.from.0 c.args.to.0 _ _ c.if-n-from.true (λ z. sym same ∙ z) refl b)

pub take-requires : goal.take-requires
take-requires c =
    let n = some_moves (get_or c.args.room.now (512 + c.args.k.0) 0 % 2048) (eqb c.args.from.0 c.args.to.0) c.if-n-from.false in
    (c.requires.1.0, omega (arith, n))

pub add-requires : goal.add-requires
add-requires c =
    let n = some_moves (get_or c.args.room.now (512 + c.args.k.0) 0 % 2048) (eqb c.args.from.0 c.args.to.0) c.if-n-from.false in
    (c.requires.1.1, (omega (arith, n), omega arith))

pub returns : goal.returns
returns c =
    let k = c.args.k.0 in
    λ f d e u g h b l m.
    let same : get_or c.args.room.now (512 + k) 0 % 2048 ≡ u k = omega (arith, l, b.of_channel.holds k c.requires.0) in
    let r = c.take.ensures f d e u g h (beside_as (permitted d) (more g c.args.from.0 _) (λ i _. ap (λ (x : ℕ). more g c.args.from.0 x i) (sym same)) b) in
    let s = c.add.ensures f d e u g r.0 r.1 m in
    (s.0, beside_as (permitted d) (more g c.args.to.0 (u k)) (λ i _. ap (λ (x : ℕ). more g c.args.to.0 x i) same) s.1)
