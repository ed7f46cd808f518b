-- What is promised of the asserted hosts.
use Rattle.std.specs.Prelude.{true, false, ◌↔◌, ◌≡◌, ℕ, ◌≤◌, ◌<◌, length}
use Rattle.words.specs.Array.{bit_at}
use Rattle.words.specs.Counting.{count_below, lowest_below}
use Rattle.steps.specs.Refusals.{carried_out, unsound}
use Rattle.cic_record.specs.declared.Cic.{Cic}
use Rattle.cic_record.specs.declared.Host.{Host}
use Rattle.cic_record.specs.Kinds.{system, host_number, channel_of, host_of}
use Rattle.cic_record.specs.Sound.{sound}
use Rattle.cic_registers.specs.Hosts.{asserted, outputs}

-- there is a configured system interrupt, set and enabled, whose channel is mapped to h (01, CIC, outputs)
abbrev pub Raised : Cic → Host → Type 0
Raised c h =
    (s : ℕ) × (s < c.systems) × (bit_at c.status s ≡ true) × (bit_at c.enable s ≡ true) × ((host_of c (channel_of c (system s))).0 ≡ h.0)

pub record Promises : Type 0 where
  -- a host is asserted exactly if both enables are set, the global one and its own, and a system interrupt raises it (01, CIC, outputs)
  pub asserted_is : (c : Cic) (h : Host) → (asserted c h ≡ true) ↔ ((c.global ≡ 1) × ((bit_at c.allow h.0 ≡ true) × Raised c h))
  -- of a sound record no host from the configured number on is asserted, and of no record one from 256 on (01, CIC, a sound record)
  pub none_beyond : (c : Cic) (h : Host) → sound c ≡ true → c.hosts ≤ h.0 → h.0 < 256 → asserted c h ≡ false
  pub none_from_256 : (c : Cic) (h : Host) → length c.allow ≡ 8 → 256 ≤ h.0 → asserted c h ≡ false
  -- the outputs of a sound record: how many hosts are asserted, and the lowest of them (01, House trace)
  pub outputs_sound : (c : Cic) → sound c ≡ true
      → outputs c ≡ record { refusal = carried_out; hosts = count_below 256 (λ h. asserted c (host_number h)); lowest = lowest_below 256 (λ h. asserted c (host_number h)) }
  -- of any other 12, and nothing else (01, Numbers)
  pub outputs_unsound : (c : Cic) → sound c ≡ false → outputs c ≡ record { refusal = unsound; hosts = 0; lowest = 0 }
  -- the lowest is asserted, no host before it is, and it is 256 exactly if none is (01, House trace)
  pub lowest_most : (c : Cic) → sound c ≡ true → (outputs c).lowest ≤ 256
  pub lowest_asserted : (c : Cic) → sound c ≡ true → (outputs c).lowest < 256 → asserted c (host_number (outputs c).lowest) ≡ true
  pub none_before : (c : Cic) → sound c ≡ true → (h : ℕ) → h < (outputs c).lowest → asserted c (host_number h) ≡ false
  pub lowest_none : (c : Cic) → sound c ≡ true → ((outputs c).lowest ≡ 256) ↔ ((h : ℕ) → h < 256 → asserted c (host_number h) ≡ false)
