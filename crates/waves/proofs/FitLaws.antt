-- How large the values of a sound machine are.
use Prim.Native.Nat.{ℕ, ◌<◌, ◌≤◌, ◌^◌}
use mathlib.Core.Path.{◌≡◌}
use mathlib.Core.Bool.{Bool, true, false}
use mathlib.Core.Logic.{◌⊎◌, inl, inr}
use native.Mathlib.Nat.{lt_of_lt_of_le}
use native.Mathlib.Omega.{arith}
use lib.Pow.{pow_mono}
use Rattle.words.specs.Counting.{one}
use Rattle.words.proofs.CountingLaws.{count_le}
use Rattle.words.proofs.TruthLaws.{told}
use Rattle.words.proofs.WordLaws.{either_narrow, both_narrow}
use Rattle.coreinterrupt.specs.declared.sides.Side.{Side}
use Rattle.coreinterrupt.specs.Side.{raw, status}
use Rattle.coreinterrupt.specs.SidesPromises.{Rules as SideRules}
use Rattle.cic_record.specs.declared.Cic.{Cic}
use Rattle.cic_record.specs.Kinds.{host_number}
use Rattle.cic_record.specs.Sound.{sound as cic_sound}
use Rattle.cic_registers.specs.Hosts.{asserted, outputs as cic_outputs}
use Rattle.cic_registers.proofs.HostsPromises.{kept as hosts}
use Rattle.aintc_record.specs.declared.Chosen.{Chosen}
use Rattle.aintc_record.specs.Promises.{Bounds}

pub one-fits : (t : Bool) → one t < 2 ^ 1
one-fits true = omega arith
one-fits false = omega arith

-- ---- a side of a CoreInterrupt

module _ (limit : ℕ) (s : Side) (r : SideRules limit s) where
  wide : {w : ℕ} → w < 2 ^ s.count → w < 2 ^ limit
  wide h = lt_of_lt_of_le h (pow_mono r.counted)

  pub raw-fits : raw s < 2 ^ limit
  unfolding raw
  raw-fits = either_narrow limit s.inputs s.soft (wide r.lined) (wide r.softened)

  pub status-fits : status s < 2 ^ limit
  unfolding status
  status-fits = both_narrow limit (raw s) s.enable raw-fits

-- ---- a CIC

pub hosts_small : (c : Cic) → cic_sound c ≡ true → (cic_outputs c).hosts ≤ 256
hosts_small c e = rw (hosts.outputs_sound c e) (count_le 256 (λ h. asserted c (host_number h)))

-- ---- what is chosen by an AINTC

pub number_small : (c : Chosen) → Bounds c → c.number ≤ 127
number_small c b = go (told c.active)
  where
    go : (c.active ≡ true) ⊎ (c.active ≡ false) → c.number ≤ 127
    go (inl e) = omega (arith, b.number e)
    go (inr e) = omega (arith, (b.none e).0)

pub priority_small : (c : Chosen) → Bounds c → c.priority ≤ 127
priority_small c b = go (told c.active)
  where
    go : (c.active ≡ true) ⊎ (c.active ≡ false) → c.priority ≤ 127
    go (inl e) = omega (arith, b.priority e)
    go (inr e) = omega (arith, (b.none e).1)
