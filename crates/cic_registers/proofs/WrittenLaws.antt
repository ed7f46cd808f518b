-- Which values are refused, by 6 or not at all; a write that is carried out keeps a sound record sound, and every array at its length.
use mathlib.Core.Path.{◌≡◌, refl, sym, ap, ◌∙◌}
use mathlib.Core.Bool.{Bool, true, false}
use mathlib.Core.Logic.{◌↔◌, ◌⊎◌, inl, inr, ⊎_elim}
use Prim.Native.Nat.{ℕ, ◌+◌, ◌*◌, ◌/◌, ◌%◌, ◌<◌, ◌≤◌}
use native.Mathlib.Decide.{dec_lt}
use native.Mathlib.Omega.{arith}
use borrow.Author.Tests.{ltb-true, lt-ltb, le-ltb, le-leb}
use lib.Dec.{ltb}
use lib.ListN.{length-set}
use Rattle.words.specs.Choice.{pick}
use Rattle.words.proofs.ArrayLaws.{clean-with_bit_at}
use Rattle.words.specs.Array.{with_bit_at, byte_of}
use Rattle.steps.specs.Refusals.{carried_out, beyond}
use Rattle.steps.specs.Promises.{ValueNumber}
use Rattle.cic_record.specs.declared.Cic.{Cic}
use Rattle.cic_record.specs.Promises.{Shaped}
use Rattle.cic_record.specs.Sound.{sound}
use Rattle.cic_record.proofs.PartsLaws.{sound-parts, sound_global, sound-status, sound_enable, sound_channel, sound_host, sound_allow}
use Rattle.cic_registers.specs.Maps.{map_taken, map_put}
use Rattle.cic_registers.proofs.MapLaws.{sound-map_put}
use Rattle.cic_registers.proofs.MapsPromises as maps
use Rattle.cic_registers.specs.Bits.{bits_set, bits_cleared, word_replaced}
use Rattle.cic_registers.proofs.BitsLaws.{clean-bits_set, clean-bits_cleared, clean-word_replaced}
use Rattle.cic_registers.specs.declared.layout.Register.{Register}
use Rattle.cic_registers.specs.declared.layout.Register.TheVariants.{Nothing, Revision, GlobalEnable, StatusIndexSet, StatusIndexClear, EnableIndexSet, EnableIndexClear, HostIndexSet, HostIndexClear, RawSet, EnabledClear, EnableSet, EnableClear, ChannelMap, HostMap, HostEnable}
use Rattle.cic_registers.specs.Registers.{unless, value_refusal, written_to}

-- what is not refused passed the test
pub passes : (t : Bool) → unless t ≡ carried_out → t ≡ true
unfolding pick
passes true e = refl
passes false e = absurd (six e)
  where
    six : ◌≡◌ {A = ℕ} 6 0 → ⊥
    six e = omega arith

-- a value that is compared with n is refused by 6 exactly if it is not below
pub refused-from : (v n : ℕ) → (unless (ltb v n) ≡ beyond) ↔ (n ≤ v)
unfolding pick
refused-from v n = go (dec_lt v n)
  where
    six : ◌≡◌ {A = ℕ} 0 6 → ⊥
    six e = omega arith

    go : Dec (v < n) → (unless (ltb v n) ≡ beyond) ↔ (n ≤ v)
    go (yes l) = (λ e. absurd (six (ap unless (sym (lt-ltb v n l)) ∙ e)), λ m. absurd (both_ways m))
      where
        both_ways : n ≤ v → ⊥
        both_ways m = omega arith
    go (no g) = (λ e. omega arith, λ m. ap unless (le-ltb v n m))

-- four map bytes are taken exactly if each of them that is not spare is below the limit
pub taken_if : (n limit k v : ℕ) → (unless (map_taken n limit k v) ≡ carried_out) ↔ ((j : ℕ) → j < 4 → 4 * k + j < n → byte_of v j < limit)
unfolding pick
taken_if n limit k v = (λ e. ((maps.kept).taken n limit k v).0 (passes (map_taken n limit k v) e), λ h. ap unless (((maps.kept).taken n limit k v).1 h))

six_or-none : (t : Bool) → (unless t ≡ carried_out) ⊎ (unless t ≡ beyond)
unfolding pick
six_or-none true = inl refl
six_or-none false = inr refl

-- a value is refused by 6 or not at all
pub value_six : (c : Cic) (r : Register) (v : ℕ) → (value_refusal c r v ≡ carried_out) ⊎ (value_refusal c r v ≡ beyond)
unfolding value_refusal
value_six c Nothing v = inl refl
value_six c Revision v = inl refl
value_six c GlobalEnable v = inl refl
value_six c StatusIndexSet v = six_or-none (ltb v c.systems)
value_six c StatusIndexClear v = six_or-none (ltb v c.systems)
value_six c EnableIndexSet v = six_or-none (ltb v c.systems)
value_six c EnableIndexClear v = six_or-none (ltb v c.systems)
value_six c HostIndexSet v = six_or-none (ltb v c.hosts)
value_six c HostIndexClear v = six_or-none (ltb v c.hosts)
value_six c (RawSet k) v = inl refl
value_six c (EnabledClear k) v = inl refl
value_six c (EnableSet k) v = inl refl
value_six c (EnableClear k) v = inl refl
value_six c (ChannelMap k) v = six_or-none (map_taken c.systems c.channels k v)
value_six c (HostMap k) v = six_or-none (map_taken c.channels c.hosts k v)
value_six c (HostEnable k) v = inl refl

pub value_number : (c : Cic) (r : Register) (v : ℕ) → ValueNumber (value_refusal c r v)
value_number c r v = ⊎_elim (λ (e : value_refusal c r v ≡ carried_out). inl e) (λ (e : value_refusal c r v ≡ beyond). inr (inr e)) (value_six c r v)

-- one bit of the status, of the system enables, of the host enables
bit-status : (c : Cic) (v : ℕ) (t : Bool) → sound c ≡ true → unless (ltb v c.systems) ≡ carried_out → sound (written_to c (pick t StatusIndexSet StatusIndexClear) v) ≡ true
unfolding written_to pick
bit-status c v true e n = sound-status c (with_bit_at c.status v true) e (clean-with_bit_at 32 c.systems c.status v true (ltb-true v c.systems (passes (ltb v c.systems) n)) (sound-parts c e).status)
bit-status c v false e n = sound-status c (with_bit_at c.status v false) e (clean-with_bit_at 32 c.systems c.status v false (ltb-true v c.systems (passes (ltb v c.systems) n)) (sound-parts c e).status)

bit_enable : (c : Cic) (v : ℕ) (t : Bool) → sound c ≡ true → unless (ltb v c.systems) ≡ carried_out → sound (written_to c (pick t EnableIndexSet EnableIndexClear) v) ≡ true
unfolding written_to pick
bit_enable c v true e n = sound_enable c (with_bit_at c.enable v true) e (clean-with_bit_at 32 c.systems c.enable v true (ltb-true v c.systems (passes (ltb v c.systems) n)) (sound-parts c e).enable)
bit_enable c v false e n = sound_enable c (with_bit_at c.enable v false) e (clean-with_bit_at 32 c.systems c.enable v false (ltb-true v c.systems (passes (ltb v c.systems) n)) (sound-parts c e).enable)

bit_allow : (c : Cic) (v : ℕ) (t : Bool) → sound c ≡ true → unless (ltb v c.hosts) ≡ carried_out → sound (written_to c (pick t HostIndexSet HostIndexClear) v) ≡ true
unfolding written_to pick
bit_allow c v true e n = sound_allow c (with_bit_at c.allow v true) e (clean-with_bit_at 8 c.hosts c.allow v true (ltb-true v c.hosts (passes (ltb v c.hosts) n)) (sound-parts c e).allow)
bit_allow c v false e n = sound_allow c (with_bit_at c.allow v false) e (clean-with_bit_at 8 c.hosts c.allow v false (ltb-true v c.hosts (passes (ltb v c.hosts) n)) (sound-parts c e).allow)

-- every register
pub sound-written : (c : Cic) (r : Register) (v : ℕ) → sound c ≡ true → value_refusal c r v ≡ carried_out → sound (written_to c r v) ≡ true
unfolding value_refusal written_to pick
sound-written c Nothing v e n = e
sound-written c Revision v e n = e
sound-written c GlobalEnable v e n = sound_global c (v % 2) e (le-leb (v % 2) 1 (omega arith))
sound-written c StatusIndexSet v e n = bit-status c v true e n
sound-written c StatusIndexClear v e n = bit-status c v false e n
sound-written c EnableIndexSet v e n = bit_enable c v true e n
sound-written c EnableIndexClear v e n = bit_enable c v false e n
sound-written c HostIndexSet v e n = bit_allow c v true e n
sound-written c HostIndexClear v e n = bit_allow c v false e n
sound-written c (RawSet k) v e n = sound-status c (bits_set c.systems c.status k v) e (clean-bits_set 32 c.systems c.status k v (sound-parts c e).status)
sound-written c (EnabledClear k) v e n = sound-status c (bits_cleared c.status k v) e (clean-bits_cleared 32 c.systems c.status k v (sound-parts c e).status)
sound-written c (EnableSet k) v e n = sound_enable c (bits_set c.systems c.enable k v) e (clean-bits_set 32 c.systems c.enable k v (sound-parts c e).enable)
sound-written c (EnableClear k) v e n = sound_enable c (bits_cleared c.enable k v) e (clean-bits_cleared 32 c.systems c.enable k v (sound-parts c e).enable)
sound-written c (ChannelMap k) v e n =
    sound_channel c (map_put c.systems k v c.channel) e
    (sound-map_put 1024 c.systems c.channels k v c.channel (sound-parts c e).channel (passes (map_taken c.systems c.channels k v) n))
sound-written c (HostMap k) v e n =
    sound_host c (map_put c.channels k v c.host) e
    (sound-map_put 256 c.channels c.hosts k v c.host (sound-parts c e).host (passes (map_taken c.channels c.hosts k v) n))
sound-written c (HostEnable k) v e n = sound_allow c (word_replaced c.hosts c.allow k v) e (clean-word_replaced 8 c.hosts c.allow k v (sound-parts c e).allow)

-- no write changes the length of an array
pub shaped-written : (c : Cic) (r : Register) (v : ℕ) → Shaped c → Shaped (written_to c r v)
unfolding written_to with_bit_at bits_set bits_cleared word_replaced
shaped-written c Nothing v s = s
shaped-written c Revision v s = s
shaped-written c GlobalEnable v s = s
shaped-written c StatusIndexSet v s = (s.0, length-set c.status (v / 32) _ ∙ s.1, s.2, s.3, s.4, s.5)
shaped-written c StatusIndexClear v s = (s.0, length-set c.status (v / 32) _ ∙ s.1, s.2, s.3, s.4, s.5)
shaped-written c EnableIndexSet v s = (s.0, s.1, length-set c.enable (v / 32) _ ∙ s.2, s.3, s.4, s.5)
shaped-written c EnableIndexClear v s = (s.0, s.1, length-set c.enable (v / 32) _ ∙ s.2, s.3, s.4, s.5)
shaped-written c HostIndexSet v s = (s.0, s.1, s.2, s.3, s.4, length-set c.allow (v / 32) _ ∙ s.5)
shaped-written c HostIndexClear v s = (s.0, s.1, s.2, s.3, s.4, length-set c.allow (v / 32) _ ∙ s.5)
shaped-written c (RawSet k) v s = (s.0, length-set c.status k _ ∙ s.1, s.2, s.3, s.4, s.5)
shaped-written c (EnabledClear k) v s = (s.0, length-set c.status k _ ∙ s.1, s.2, s.3, s.4, s.5)
shaped-written c (EnableSet k) v s = (s.0, s.1, length-set c.enable k _ ∙ s.2, s.3, s.4, s.5)
shaped-written c (EnableClear k) v s = (s.0, s.1, length-set c.enable k _ ∙ s.2, s.3, s.4, s.5)
shaped-written c (ChannelMap k) v s = (s.0, s.1, s.2, (maps.kept).puts_length c.systems k v c.channel ∙ s.3, s.4, s.5)
shaped-written c (HostMap k) v s = (s.0, s.1, s.2, s.3, (maps.kept).puts_length c.channels k v c.host ∙ s.4, s.5)
shaped-written c (HostEnable k) v s = (s.0, s.1, s.2, s.3, s.4, length-set c.allow k _ ∙ s.5)
