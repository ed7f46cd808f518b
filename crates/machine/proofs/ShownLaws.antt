-- What a machine shows, by its kind, and that no number of it is over 256.
use Prim.Native.Nat.{◌≤◌}
use mathlib.Core.Path.{◌≡◌, sym, ap, ◌∙◌}
use mathlib.Core.Bool.{Bool, true, false}
use mathlib.Core.Logic.{◌≢◌, ◌⊎◌, inl, inr}
use native.Mathlib.Omega.{arith}
use Rattle.words.specs.Counting.{one}
use Rattle.words.proofs.ChoiceLaws.{pick_true, pick-false}
use Rattle.words.proofs.CountingLaws.{count_le}
use Rattle.words.proofs.TruthLaws.{told}
use Rattle.aic_record.proofs.Promises.{kept as record-kept}
use Rattle.aic_sources.specs.Fast.{fiq}
use Rattle.aic_sources.specs.Normal.{irq}
use Rattle.aic.specs.Model.{outputs as aic_outputs}
use Rattle.aic.proofs.Promises.{kept as aic}
use Rattle.coreinterrupt.specs.Model.{outputs as core_outputs}
use Rattle.coreinterrupt.proofs.Promises.{kept as core}
use Rattle.cic_record.specs.declared.Cic.{Cic}
use Rattle.cic_record.specs.Kinds.{host_number}
use Rattle.cic_record.specs.Sound.{sound as cic_sound}
use Rattle.cic_registers.specs.Hosts.{asserted, outputs as cic_outputs, shown as cic_shown}
use Rattle.cic_registers.proofs.HostsPromises.{kept as hosts}
use Rattle.cic_held.specs.declared.Prioritised.{Prioritised}
use Rattle.cic_held.specs.Held.{sound as indexed_sound}
use Rattle.cic_held.proofs.Promises.{kept as held}
use Rattle.cic_indexed.specs.Model.{outputs as indexed_outputs}
use Rattle.aintc_record.specs.declared.Chosen.{Chosen}
use Rattle.aintc_record.specs.Promises.{Bounds}
use Rattle.aintc_registers.proofs.Promises.{kept as choice}
use Rattle.aintc_registers.specs.Model.{outputs as aintc_outputs}
use Rattle.aintc.proofs.Promises.{kept as aintc}
use Rattle.machine.specs.declared.record.Machine.{Machine}
use Rattle.kinds.specs.Kinds.{aic_kind, core_kind, cic_kind, aintc_kind, indexed_kind}
use Rattle.machine.specs.Machine.{indexed, sound}
use Rattle.machine.specs.Shown.{aic_columns, core_columns, cic_columns, aintc_columns, no_columns, shown}
use Rattle.machine.specs.RecordPromises.{Small}
use Rattle.kinds.proofs.KindLaws.{KindOf, is_aic, is_core, is_cic, is_aintc, is_indexed, is_none, kind_of, at_aic, at_core, at-cic, at_aintc, at_indexed, at_none}
use Rattle.machine.proofs.MachineLaws.{sound_aic, sound_core, sound-cic, sound_aintc, sound-indexed}

-- ---- a CIC, with prioritised indices or without

-- no number that it shows is over 256
cic_small : (c : Cic) → cic_sound c ≡ true → Small (cic_columns (cic_outputs c))
cic_small c e = (rw (hosts.outputs_sound c e) (count_le 256 (λ h. asserted c (host_number h))), hosts.lowest_most c e, omega arith)

-- what is held changes no output
outputs-same : (p : Prioritised) → indexed_sound p ≡ true → indexed_outputs p ≡ cic_outputs p.cic
unfolding indexed_outputs cic_outputs
outputs-same p s = sym (pick_true _ s) ∙ pick_true _ ((held.sound_is p).0 s).cic

-- ---- by kind

module _ (m : Machine) where
  pub aic-shows : m.kind ≡ aic_kind → shown m ≡ aic_columns (aic_outputs m.aic)
  unfolding shown
  aic-shows e = sym (at_aic m.kind _ e)

  pub core-shows : m.kind ≡ core_kind → shown m ≡ core_columns (core_outputs m.core)
  unfolding shown
  core-shows e = sym (at_core m.kind _ e)

  pub cic-shows : m.kind ≡ cic_kind → shown m ≡ cic_columns (cic_outputs m.cic)
  unfolding shown
  cic-shows e = sym (at-cic m.kind _ e)

  pub aintc-shows : m.kind ≡ aintc_kind → shown m ≡ aintc_columns (aintc_outputs m.aintc)
  unfolding shown
  aintc-shows e = sym (at_aintc m.kind _ e)

  pub indexed-shows : m.kind ≡ indexed_kind → shown m ≡ cic_columns (indexed_outputs (indexed m))
  unfolding shown
  indexed-shows e = sym (at_indexed m.kind _ e)

  -- of a sound one those are the outputs of its CIC
  pub indexed-seen : m.kind ≡ indexed_kind → sound m ≡ true → shown m ≡ cic_columns (cic_outputs m.cic)
  indexed-seen k s = indexed-shows k ∙ ap cic_columns (outputs-same (indexed m) (sound-indexed m k ∙ s))

  no-shows : m.kind ≢ aic_kind → m.kind ≢ core_kind → m.kind ≢ cic_kind → m.kind ≢ aintc_kind → m.kind ≢ indexed_kind → shown m ≡ no_columns
  unfolding shown
  no-shows e f g h i = sym (at_none m.kind _ e f g h i)

  -- a machine that is not sound shows nothing
  pub unsound-shown : sound m ≡ false → no_columns ≡ shown m
  unfolding cic_outputs indexed_outputs
  unsound-shown s = sym (go (kind_of m.kind))
    where
      go : KindOf m.kind → shown m ≡ no_columns
      go (is_aic k) = aic-shows k ∙ ap aic_columns (aic.outputs_unsound m.aic (sound_aic m k ∙ s))
      go (is_core k) = core-shows k ∙ ap core_columns (core.outputs_unsound m.core (sound_core m k ∙ s))
      go (is_cic k) = cic-shows k ∙ ap cic_columns (sym (pick-false (cic_shown m.cic) (sound-cic m k ∙ s)))
      go (is_aintc k) = aintc-shows k ∙ ap aintc_columns (aintc.outputs_unsound m.aintc (sound_aintc m k ∙ s))
      go (is_indexed k) = indexed-shows k ∙ ap cic_columns (sym (pick-false (cic_shown m.cic) (sound-indexed m k ∙ s)))
      go (is_none a b c d e) = no-shows a b c d e

  one_small : (t : Bool) → one t ≤ 256
  one_small true = omega arith
  one_small false = omega arith

  -- the number of the chosen one, 0 with none
  number_small : (c : Chosen) → Bounds c → c.number ≤ 256
  number_small c b = go (told c.active)
    where
      go : (c.active ≡ true) ⊎ (c.active ≡ false) → c.number ≤ 256
      go (inl e) = omega (arith, b.number e)
      go (inr e) = omega (arith, (b.none e).0)

  -- a sound machine shows no number over 256
  pub small : sound m ≡ true → Small (shown m)
  small s = go (kind_of m.kind)
    where
      go : KindOf m.kind → Small (shown m)
      go (is_aic k) =
          let e = sound_aic m k ∙ s in
          rw (aic-shows k) (rw (aic.outputs_sound m.aic e) (one_small (irq m.aic), one_small (fiq m.aic), omega (arith, ((record-kept.sound_is m.aic).0 e).entries)))
      go (is_core k) = rw (core-shows k) (one_small (core_outputs m.core).irq, one_small (core_outputs m.core).fiq, omega arith)
      go (is_cic k) = rw (cic-shows k) (cic_small m.cic (sound-cic m k ∙ s))
      go (is_aintc k) =
          let e = sound_aintc m k ∙ s in
          rw (aintc-shows k)
          (rw (aintc.outputs_sound m.aintc e)
          (one_small m.aintc.irq.active, one_small m.aintc.fiq.active, number_small m.aintc.irq ((choice.sound_is m.aintc).0 e).irq))
      go (is_indexed k) = rw (indexed-seen k s) (cic_small m.cic ((held.sound_is (indexed m)).0 (sound-indexed m k ∙ s)).cic)
      go (is_none a b c d e) = rw (no-shows a b c d e) (omega arith, omega arith, omega arith)
