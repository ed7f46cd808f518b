-- That `record_of` of src/transfer.rt keeps its contract.
use mathlib.Core.Path.{ap, ◌∙◌}
use Prim.Native.Nat.{ℕ, ◌/◌, ◌%◌}
use native.Mathlib.Omega.{arith}
use Rattle.words.specs.Array.{byte_of}
use Rattle.cic_room.proofs.MapLaws.{byte_in}
use Rattle.cic_room.proofs.RoomLaws.{held_of}
use Rattle.cic_room.proofs.LayLaws.{words-told, map-told, record-told}
use Rattle.cic_room.proofs.transfer.record_of.Goals as goal

pub returns : goal.returns
returns c =
    let al = c.words_in-allow.ensures in
    let ho = c.map_in-host.ensures in
    let ch = c.map_in-channel.ensures in
    let en = c.words_in-enable.ensures in
    let st = c.words_in-status.ensures in
    let li = c.words_in-lines.ensures in
    λ f d h.
    let u = held_of h in
    record-told u _ _ _ _ _ _ (words-told u _ d.lines 32 64 li.0 u.shaped.0 u.lines li.1) (words-told u _ d.status 32 96 st.0 u.shaped.1 u.status st.1)
    (words-told u _ d.enable 32 128 en.0 u.shaped.2 u.enable en.1) (map-told u _ d.channel 1024 ch.0 u.shaped.3 (λ k l. ch.1 k l ∙ ap (λ (w : ℕ). byte_of w (k % 4)) (u.channel.holds (k / 4) (omega (arith, l))) ∙ byte_in 1024 d.channel k u.bytes.0 l))
    (map-told u _ d.host 256 ho.0 u.shaped.4 (λ k l. ho.1 k l ∙ ap (λ (w : ℕ). byte_of w (k % 4)) (u.host.holds (k / 4) (omega (arith, l))) ∙ byte_in 256 d.host k u.bytes.1 l)) (words-told u _ d.allow 8 16 al.0 u.shaped.5 u.allow al.1)
