-- That `write_hosts` of src/laid.rt keeps its contract.
use mathlib.Core.Path.{ap, ◌∙◌}
use Prim.Native.Nat.{ℕ, ◌-◌, ◌*◌}
use native.Mathlib.Omega.{arith}
use Rattle.words.specs.Word.{kept}
use Rattle.cic_record.proofs.RuleLaws.{sound-is}
use Rattle.cic_room.proofs.KeptLaws.{kept-told, bare-told}
use Rattle.cic_room.proofs.MapLaws.{new_word}
use Rattle.cic_room.proofs.PutLaws.{channels-is}
use Rattle.cic_room.proofs.WriteLaws.{hosts-bare, hosts-written}
use Rattle.cic_room.proofs.WriteLaws.{put_hosts}
use Rattle.cic_room.proofs.laid.write_hosts.Goals as goal

pub returns-then-n-k : goal.returns-then-n-k
returns-then-n-k c = λ f d ok l h. absurd (omega (arith, c.if-n-k.true, channels-is h, l))

pub returns-then-room-eq0 : goal.returns-then-room-eq0
returns-then-room-eq0 c =
    let k = c.args.k in
    let x = c.existing-new.ensures in
    λ f d ok l h.
    let n = channels-is h in
    let w = (new_word 256 d.channels k c.args.v d.host h.shaped.4 (omega (arith, c.requires)) _ l x.1.1 (sound-is d ok).spare_hosts
    (λ m. x.0 (omega (arith, m, n))) (λ m. x.1.0 (omega (arith, m, n)) ∙ ap (λ (y : ℕ). kept (8 * (y - 4 * k)) c.args.v) n)) in
    hosts-bare c.args.room.now k c.args.v _ c.requires h w (bare-told (put_hosts c.args.room.now k c.args.v _ c.requires h w) c.if-room-eq0.true)

pub returns : goal.returns
returns c =
    let k = c.args.k in
    let x = c.existing-new.ensures in
    λ f d ok l h.
    let n = channels-is h in
    let w = (new_word 256 d.channels k c.args.v d.host h.shaped.4 (omega (arith, c.requires)) _ l x.1.1 (sound-is d ok).spare_hosts
    (λ m. x.0 (omega (arith, m, n))) (λ m. x.1.0 (omega (arith, m, n)) ∙ ap (λ (y : ℕ). kept (8 * (y - 4 * k)) c.args.v) n)) in
    hosts-written c.args.room.now k c.args.v _ c.requires h w _ _ _ _
    (kept-told (put_hosts c.args.room.now k c.args.v _ c.requires h w) c.if-room-eq0.false)
    (c.move_byte.ensures f _) (c.move_byte-2.ensures f _) (c.move_byte-3.ensures f _) (c.move_byte-4.ensures f _)
