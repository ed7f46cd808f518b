-- That `write_channels` of src/laid.rt keeps its contract.
use mathlib.Core.Path.{ap, ◌∙◌}
use Prim.Native.Nat.{ℕ, ◌-◌, ◌*◌}
use native.Mathlib.Omega.{arith}
use Rattle.words.specs.Word.{kept}
use Rattle.cic_record.proofs.RuleLaws.{sound-is}
use Rattle.cic_room.proofs.KeptLaws.{kept-told, bare-told}
use Rattle.cic_room.proofs.MapLaws.{new_word}
use Rattle.cic_room.proofs.PutLaws.{systems-is}
use Rattle.cic_room.proofs.RoomLaws.{held_of, standing, laid_of}
use Rattle.cic_room.proofs.WriteLaws.{channels-bare, stale_channel}
use Rattle.cic_room.proofs.laid.write_channels.Goals as goal

pub returns-then-n-k : goal.returns-then-n-k
returns-then-n-k c = λ f d ok l h. absurd (omega (arith, c.if-n-k.true, systems-is h, l))

pub returns-then-room-eq0 : goal.returns-then-room-eq0
returns-then-room-eq0 c =
    let k = c.args.k in
    let x = c.existing-w.ensures in
    λ f d ok l h.
    let n = systems-is h in
    channels-bare f d k c.args.v _ c.requires
    (new_word 1024 d.systems k c.args.v d.channel h.shaped.3 (omega (arith, c.requires)) _ l x.1.1 (sound-is d ok).spare_channels
    (λ m. x.0 (omega (arith, m, n))) (λ m. x.1.0 (omega (arith, m, n)) ∙ ap (λ (y : ℕ). kept (8 * (y - 4 * k)) c.args.v) n))
    (bare-told (held_of h) c.if-room-eq0.true) h

pub returns : goal.returns
returns c =
    let k = c.args.k in
    let x = c.existing-w.ensures in
    λ f d ok l h.
    let n = systems-is h in
    let on = kept-told (held_of h) c.if-room-eq0.false in
    let z = standing h in
    laid_of (c.renew_word.ensures f _
    (stale_channel f d k c.args.v _ c.requires
    (new_word 1024 d.systems k c.args.v d.channel h.shaped.3 (omega (arith, c.requires)) _ l x.1.1 (sound-is d ok).spare_channels
    (λ m. x.0 (omega (arith, m, n))) (λ m. x.1.0 (omega (arith, m, n)) ∙ ap (λ (y : ℕ). kept (8 * (y - 4 * k)) c.args.v) n))
    _ on z.words (c.take_four.ensures f d z.active on z.counted)))
