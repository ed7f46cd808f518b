-- A step of a record with its levels: what the record alone answers, and the levels of the record after it.
use Prim.Native.Nat.{ℕ, zero, suc, ◌<◌}
use mathlib.Core.Path.{◌≡◌, refl, sym, ap, ap₂, ◌∙◌, subst}
use mathlib.Core.Bool.{Bool, true, false, not, ◌&&◌, and-false}
use mathlib.Core.List.{List}
use mathlib.Core.Logic.{◌↔◌, ◌≢◌, ◌⊎◌, inl, inr}
use native.Mathlib.Omega.{arith}
use lib.ListN.{length, get_or}
use lib.Seq.{ext_get_or}
use lib.Dec.{ltb}
use Rattle.words.proofs.ChoiceLaws.{pick_true, pick-false}
use Rattle.words.proofs.TruthLaws.{and_both, clash, told}
use Rattle.steps.specs.declared.Step.{Step}
use Rattle.steps.specs.declared.Step.TheVariants.{Read, Write, Line}
use Rattle.steps.specs.Refusals.{carried_out}
use Rattle.aic_record.specs.declared.Aic.{Aic}
use Rattle.aic_record.specs.Sound.{sound}
use Rattle.aic_record.specs.Promises.{Shaped}
use Rattle.aic_sources.specs.Fast.{masked, fiq}
use Rattle.aic_sources.specs.Normal.{irq}
use Rattle.aic.specs.declared.Signals.{Signals}
use Rattle.aic.specs.Model as aic
use Rattle.aic.proofs.Promises as aic-promises
use Rattle.aic.proofs.SoundLaws.{step-sound, step_shaped}
use Rattle.aic_levels.specs.declared.Levels.{Levels}
use Rattle.aic_levels.specs.declared.Answer.{Answer}
use Rattle.aic_levels.specs.Levels.{level_word, any_of, levels_of, agrees, chosen_by}
use Rattle.aic_levels.specs.Model.{step_with, outputs_with}
use Rattle.aic_levels.proofs.AgreeLaws.{agree, found_some}

-- ---- the levels of a record

-- word p of them is that of level p
pub own_words : (s : Aic) (p : ℕ) → p < 8 → get_or (levels_of s).words p 0 ≡ level_word s p
unfolding levels_of
own_words s zero l = refl
own_words s (suc zero) l = refl
own_words s (suc (suc zero)) l = refl
own_words s (suc (suc (suc zero))) l = refl
own_words s (suc (suc (suc (suc zero)))) l = refl
own_words s (suc (suc (suc (suc (suc zero))))) l = refl
own_words s (suc (suc (suc (suc (suc (suc zero)))))) l = refl
own_words s (suc (suc (suc (suc (suc (suc (suc zero))))))) l = refl
own_words s (suc (suc (suc (suc (suc (suc (suc (suc p)))))))) l = absurd (omega arith)

pub own-length : (s : Aic) → length (levels_of s).words ≡ 8
unfolding levels_of
own-length s = refl

pub own_any : (s : Aic) → (levels_of s).any ≡ any_of s
unfolding levels_of
own_any s = refl

-- they agree with it
pub own_agree : (s : Aic) → agrees s (levels_of s) ≡ true
own_agree s = agree s (levels_of s) (own_words s, own_any s)

-- eight words and a byte that agree with it are they
pub levels-same : (s : Aic) (words : List ℕ) (any : ℕ) → length words ≡ 8 → ((p : ℕ) → p < 8 → get_or words p 0 ≡ level_word s p) → any ≡ any_of s
    → record { words = words; any = any } ≡ levels_of s
levels-same s words any n w a =
    ap₂ (λ (x : List ℕ) (y : ℕ). record { words = x; any = y })
    (ext_get_or 0 words (levels_of s).words (n ∙ sym (own-length s)) (λ p l. w p (subst (λ (m : ℕ). p < m) n l) ∙ sym (own_words s p (subst (λ (m : ℕ). p < m) n l))))
    (a ∙ sym (own_any s))

-- ---- a step

-- of a sound record with levels that agree
pub step_same : (s : Aic) (l : Levels) (x : Step) → sound s ≡ true → agrees s l ≡ true
    → step_with s l x ≡ record { refusal = (aic.step s x).refusal; value = (aic.step s x).value; aic = (aic.step s x).aic; levels = levels_of (aic.step s x).aic }
unfolding step_with
step_same s l x h a = sym (pick_true _ (and_both h a))

-- of any other pair
pub pair-false : (s : Aic) (l : Levels) → (sound s ≡ false) ⊎ (agrees s l ≡ false) → (sound s && agrees s l) ≡ false
pair-false s l (inl h) = ap (λ (b : Bool). b && agrees s l) h
pair-false s l (inr a) = ap (λ (b : Bool). sound s && b) a ∙ and-false (sound s)

pub step_other : (s : Aic) (l : Levels) (x : Step) → (sound s ≡ false) ⊎ (agrees s l ≡ false) → step_with s l x ≡ record { refusal = 12; value = 0; aic = s; levels = l }
unfolding step_with
step_other s l x o = sym (pick-false _ (pair-false s l o))

-- the pair agrees after it
pub step_keeps : (s : Aic) (l : Levels) (x : Step) → Shaped s → sound s ≡ true → agrees s l ≡ true
    → (sound (step_with s l x).aic ≡ true) × (agrees (step_with s l x).aic (step_with s l x).levels ≡ true) × Shaped (step_with s l x).aic
step_keeps s l x z h a =
    rw (step_same s l x h a) (step-sound s x z h, own_agree (aic.step s x).aic, step_shaped s x z)

-- the record alone answers 12 to a step exactly if it is not sound
alone_twelve : (s : Aic) (x : Step) → sound s ≡ true → (aic.step s x).refusal ≢ 12
alone_twelve s (Read o) h e = clash h (((aic-promises.kept).read_numbers s o).twelve.0 e)
alone_twelve s (Write o v) h e = clash h (((aic-promises.kept).write_numbers s o v).twelve.0 e)
alone_twelve s (Line k l) h e = clash h (((aic-promises.kept).line_numbers s k l).twelve.0 e)

-- one of two tests fails, or both hold
either_fails : (s : Aic) (l : Levels) → ((sound s ≡ true) × (agrees s l ≡ true)) ⊎ ((sound s ≡ false) ⊎ (agrees s l ≡ false))
either_fails s l = go (told (sound s)) (told (agrees s l))
  where
    go : (sound s ≡ true) ⊎ (sound s ≡ false) → (agrees s l ≡ true) ⊎ (agrees s l ≡ false) → ((sound s ≡ true) × (agrees s l ≡ true)) ⊎ ((sound s ≡ false) ⊎ (agrees s l ≡ false))
    go (inl h) (inl a) = inl (h, a)
    go (inl h) (inr a) = inr (inr a)
    go (inr h) a = inr (inl h)

pub step_twelve : (s : Aic) (l : Levels) (x : Step) → ((step_with s l x).refusal ≡ 12) ↔ ((sound s ≡ false) ⊎ (agrees s l ≡ false))
step_twelve s l x = (λ e. go e (either_fails s l), λ o. ap (λ (r : Answer). r.refusal) (step_other s l x o))
  where
    go : (step_with s l x).refusal ≡ 12 → ((sound s ≡ true) × (agrees s l ≡ true)) ⊎ ((sound s ≡ false) ⊎ (agrees s l ≡ false)) → (sound s ≡ false) ⊎ (agrees s l ≡ false)
    go e (inl (h, a)) = absurd (alone_twelve s x h (sym (ap (λ (r : Answer). r.refusal) (step_same s l x h a)) ∙ e))
    go e (inr o) = o

-- ---- the outputs

pub outputs-same : (s : Aic) (l : Levels) → sound s ≡ true → agrees s l ≡ true → outputs_with s l ≡ aic.outputs s
outputs-same s l h a = sym (with-levels (and_both h a)) ∙ ap (λ (b : Bool). record { refusal = carried_out; irq = b; fiq = fiq s; entries = s.depth }) test ∙ alone
  where
    with-levels : (sound s && agrees s l) ≡ true
        → record { refusal = carried_out; irq = not (masked s) && ltb (chosen_by s l) 32; fiq = fiq s; entries = s.depth } ≡ outputs_with s l
    with-levels t = unfold outputs_with in (pick_true _ t)

    test : (not (masked s) && ltb (chosen_by s l) 32) ≡ irq s
    test = unfold irq in (ap (λ (b : Bool). not (masked s) && b) (found_some s l a))

    alone : record { refusal = carried_out; irq = irq s; fiq = fiq s; entries = s.depth } ≡ aic.outputs s
    alone = sym ((aic-promises.kept).outputs_sound s h)

pub outputs-other : (s : Aic) (l : Levels) → (sound s ≡ false) ⊎ (agrees s l ≡ false) → outputs_with s l ≡ record { refusal = 12; irq = false; fiq = false; entries = 0 }
unfolding outputs_with
outputs-other s l o = sym (pick-false _ (pair-false s l o))

pub outputs_twelve : (s : Aic) (l : Levels) → ((outputs_with s l).refusal ≡ 12) ↔ ((sound s ≡ false) ⊎ (agrees s l ≡ false))
outputs_twelve s l = (λ e. go e (either_fails s l), λ o. ap (λ (r : Signals). r.refusal) (outputs-other s l o))
  where
    go : (outputs_with s l).refusal ≡ 12 → ((sound s ≡ true) × (agrees s l ≡ true)) ⊎ ((sound s ≡ false) ⊎ (agrees s l ≡ false)) → (sound s ≡ false) ⊎ (agrees s l ≡ false)
    go e (inl (h, a)) =
        let z : ◌≡◌ {A = ℕ} 0 12 = sym (ap (λ (r : Signals). r.refusal) (outputs-same s l h a ∙ (aic-promises.kept).outputs_sound s h)) ∙ e in
        absurd (omega (arith, z))
    go e (inr o) = o
