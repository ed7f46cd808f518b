-- Status and enable bits alike: their words, a word put, and the registers that set and clear them.
use mathlib.Core.Path.{◌≡◌, refl}
use Prim.Native.Nat.{ℕ, ◌+◌, ◌*◌, ◌<◌}
use lib.ListN.{get_or, set}
use mathlib.Core.List.{List}
use Rattle.steps.specs.Refusals.{write_access}
use Rattle.cic_record.specs.declared.Cic.{Cic}
use Rattle.cic_registers.specs.Access.{answer_by, write_in}
use Rattle.cic_registers.specs.Bits.{bits_set, bits_cleared}
use Rattle.cic_registers.specs.Map.{access_of, if_any}
use Rattle.cic_registers.specs.Registers.{value_refusal, written_to}
use Rattle.cic_room.specs.declared.laid.Bits.{Bits}
use Rattle.cic_room.specs.declared.laid.Bits.TheVariants.{Status, Enable}
use Rattle.cic_room.specs.Bits.{place, bits_of, with_bits, setting, clearing}
use Rattle.cic_room.specs.Room.{Frame, Laid}
use Rattle.cic_room.specs.Tables.{Stale}
use Rattle.cic_room.proofs.PutLaws.{status-is, enable-is, stale-status, stale_enable}

pub word_is : (b : Bits) {f : Frame} {c : Cic} {room : List ℕ} → Laid f c room → (k : ℕ) → k < 32 → get_or room (place b + k) 0 ≡ get_or (bits_of b c) k 0
word_is Status h k l = status-is h k l
word_is Enable h k l = enable-is h k l

pub stale_bits : (b : Bits) {f : Frame} {c : Cic} {room : List ℕ} → Laid f c room → (k w : ℕ) → k < 32
    → Stale f (with_bits b c (set (bits_of b c) k w)) k (set room (place b + k) w)
stale_bits Status h k w l = stale-status h k w l
stale_bits Enable h k w l = stale_enable h k w l

pub setting_is : (b : Bits) (c : Cic) (k v : ℕ) → answer_by c (write_access (if_any (32 * k) c.systems) 0) (with_bits b c (bits_set c.systems (bits_of b c) k v)) ≡ write_in c (setting b k) v
unfolding access_of value_refusal written_to
setting_is Status c k v = refl
setting_is Enable c k v = refl

pub clearing_is : (b : Bits) (c : Cic) (k v : ℕ) → answer_by c (write_access (if_any (32 * k) c.systems) 0) (with_bits b c (bits_cleared (bits_of b c) k v)) ≡ write_in c (clearing b k) v
unfolding access_of value_refusal written_to
clearing_is Status c k v = refl
clearing_is Enable c k v = refl
