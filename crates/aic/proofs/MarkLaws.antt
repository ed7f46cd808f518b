-- Marks: what ISR reads on one, what EOICR leaves below the last entry, and a spurious handler from its vector read to its EOICR.
use Prim.Native.Nat.{ℕ, ◌+◌, ◌-◌, ◌<◌}
use mathlib.Core.Path.{◌≡◌, refl, sym, ap, ap₂, ◌∙◌}
use mathlib.Core.Bool.{true, false}
use mathlib.Core.List.{List}
use mathlib.Core.Logic.{◌≢◌}
use native.Mathlib.Omega.{arith}
use lib.ListN.{get_or, set}
use lib.Seq.{get_or-set_other, set-get_or, set-set}
use Rattle.steps.specs.declared.Step.TheVariants.{Read}
use Rattle.aic_record.specs.declared.Aic.{Aic}
use Rattle.aic_record.specs.Record.{with_handlers}
use Rattle.aic_record.specs.Sound.{source_at, level_at, level_below, protects, sound}
use Rattle.aic_record.specs.Promises.{Shaped}
use Rattle.aic_record.proofs.SoundLaws.{sound-is}
use Rattle.aic_sources.specs.Normal.{candidate}
use Rattle.aic_registers.specs.Map.{ivr, isr, eoicr}
use Rattle.aic_registers.specs.Handlers.{answered}
use Rattle.aic.specs.Model.{read, write}
use Rattle.aic.proofs.EffectLaws.{reads_of, writes_of}
use Rattle.aic.proofs.HandlerLaws.{vector-spurious}
use Rattle.aic.proofs.SoundLaws.{step-sound}

-- a 0 put over anything in a slot that held 0
put_back : (l : List ℕ) (i a : ℕ) → get_or l i 0 ≡ 0 → set (set l i a) i 0 ≡ l
put_back l i a z = set-set l i a 0 ∙ ap (set l i) (sym z) ∙ set-get_or l i 0

module _ (s : Aic) (ok : sound s ≡ true) where
  pub isr-mark : s.depth ≢ 0 → source_at s (s.depth - 1) ≡ 0 → read s isr ≡ answered s 0
  isr-mark d z = (reads_of s ok).some_open d ∙ ap (answered s) z

  pub close_last : (v : ℕ) → s.depth ≢ 0 → ((write s eoicr v).aic.depth ≡ s.depth - 1)
      × ((i : ℕ) → i < s.depth - 1 → (source_at (write s eoicr v).aic i ≡ source_at s i) × (level_at (write s eoicr v).aic i ≡ level_at s i))
  close_last v d =
      rw ((writes_of s ok v).closes d)
      (refl, λ i l. (get_or-set_other s.source (s.depth - 1) i 0 0 (omega arith), get_or-set_other s.level (s.depth - 1) i 0 0 (omega arith)))

  -- the record with a mark more
  abbrev over : Aic
  over = with_handlers s (set s.source s.depth 0) (set s.level s.depth (level_below s.level s.depth)) (s.depth + 1)

  pub spurious-ended : (v : ℕ) → Shaped s → protects s ≡ false → s.depth < 8 → ((k : ℕ) → k < 32 → candidate s k ≡ false) → write (read s ivr).aic eoicr v ≡ answered s 0
  spurious-ended v h o l none =
      rw (vector-spurious s ok o l none) ((writes_of over (rw (vector-spurious s ok o l none) at (step-sound s (Read ivr) h ok)) v).closes (omega arith) ∙ ap (λ (t : Aic). answered t 0) back)
    where
      e : s.depth + 1 - 1 ≡ s.depth
      e = omega arith

      back : with_handlers s (set over.source (s.depth + 1 - 1) 0) (set over.level (s.depth + 1 - 1) 0) (s.depth + 1 - 1) ≡ s
      back =
          let u = (sound-is s ok).unused s.depth (omega arith) l in
          ap (λ (n : ℕ). with_handlers s (set over.source n 0) (set over.level n 0) n) e
          ∙ ap₂ (λ (a b : List ℕ). with_handlers s a b s.depth) (put_back s.source s.depth 0 u.0) (put_back s.level s.depth (level_below s.level s.depth) u.1)
