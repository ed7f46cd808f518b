-- That `clear` of src/holds.rt keeps its contract.
use mathlib.Core.Path.{◌≡◌, refl, sym, ap, subst, ◌∙◌}
use mathlib.Core.List.{List}
use Prim.Native.Nat.{ℕ}
use native.Mathlib.Omega.{arith}
use lib.ListN.{replicate, drop, length-replicate}
use Rattle.std.proofs.lemmas.List.{length-take-le, length-drop}
use Rattle.std.proofs.lemmas.Slice.{put_mid-paste}
use Rattle.indexed_room.specs.Room.{Laid}
use Rattle.indexed_room.proofs.HoldLaws.{cleared_to, cleared_paste, clear-done}
use Rattle.indexed_room.proofs.holds.clear.Goals as goal

pub returns : goal.returns
returns c =
    let room = c.args.room.now in
    let part = length-take-le 256 (drop 1024 room) (omega (arith, length-drop 1024 room, c.told-room)) in
    let zeros : c.fill.new.self ≡ replicate 256 0 = c.fill.ensures.after (λ y q. q) ∙ ap (λ (n : ℕ). replicate n 0) part in
    let e = put_mid-paste 1024 256 room c.fill.new.self (replicate 256 0) 256 zeros refl (sym (length-replicate {A = ℕ} 256 0)) in
    λ p h.
    clear-done p c.args.mode 256 h.framed.held (omega arith) (omega arith)
    (subst (λ (r : List ℕ). Laid (cleared_to p 256) r) (sym e) (cleared_paste p 256 c.told-room (omega arith) h))
