-- The outputs of a record, sound or not.
use Prim.Native.Nat.{◌≤◌}
use mathlib.Core.Path.{◌≡◌, sym}
use mathlib.Core.Bool.{true, false}
use mathlib.Core.Logic.{◌↔◌, ◌⊎◌, inl, inr}
use native.Mathlib.Omega.{arith}
use Rattle.words.proofs.ChoiceLaws.{pick_true, pick-false}
use Rattle.words.proofs.TruthLaws.{told}
use Rattle.coreinterrupt.specs.declared.Core.{Core}
use Rattle.coreinterrupt.specs.Side.{active, output_level}
use Rattle.coreinterrupt.specs.Model.{sound, outputs}
use Rattle.coreinterrupt.specs.SidesPromises.{SomeSource}
use Rattle.coreinterrupt.proofs.SideLaws.{sound-active, level-active, level_small}
use Rattle.coreinterrupt.proofs.ModelLaws.{fiq-sound, irq-sound}

pub shown : (c : Core) → sound c ≡ true
    → outputs c ≡ record { refusal = 0; irq = active c.irq; fiq = active c.fiq; irqlevel = output_level c.irq; fiqlevel = output_level c.fiq }
unfolding outputs
shown c e = sym (pick_true _ e)

pub hidden : (c : Core) → sound c ≡ false → outputs c ≡ record { refusal = 12; irq = false; fiq = false; irqlevel = 0; fiqlevel = 0 }
unfolding outputs
hidden c e = sym (pick-false _ e)

pub irq-active : (c : Core) → sound c ≡ true → ((outputs c).irq ≡ true) ↔ SomeSource c.irq.count c.irq
irq-active c e = rw (shown c e) (sound-active 32 c.irq (omega arith) (irq-sound c e))

pub fiq-active : (c : Core) → sound c ≡ true → ((outputs c).fiq ≡ true) ↔ SomeSource c.fiq.count c.fiq
fiq-active c e = rw (shown c e) (sound-active 8 c.fiq (omega arith) (fiq-sound c e))

pub irq_level : (c : Core) → sound c ≡ true → ((outputs c).irqlevel ≡ c.irq.level) ↔ ((outputs c).irq ≡ true)
irq_level c e = rw (shown c e) (level-active 32 c.irq (irq-sound c e))

pub fiq_level : (c : Core) → sound c ≡ true → ((outputs c).fiqlevel ≡ c.fiq.level) ↔ ((outputs c).fiq ≡ true)
fiq_level c e = rw (shown c e) (level-active 8 c.fiq (fiq-sound c e))

pub levels_small : (c : Core) → ((outputs c).irqlevel ≤ 1) × ((outputs c).fiqlevel ≤ 1)
levels_small c = go (told (sound c))
  where
    go : (sound c ≡ true) ⊎ (sound c ≡ false) → ((outputs c).irqlevel ≤ 1) × ((outputs c).fiqlevel ≤ 1)
    go (inl e) = rw (shown c e) (level_small 32 c.irq (irq-sound c e), level_small 8 c.fiq (fiq-sound c e))
    go (inr e) = rw (hidden c e) (omega arith, omega arith)
