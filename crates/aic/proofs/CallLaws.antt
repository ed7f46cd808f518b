-- The steps of a record that is sound, and of one that is not: what the code answers is what the definition says.
use mathlib.Core.Path.{◌≡◌, refl, sym, ap, ap₂, ◌∙◌}
use mathlib.Core.Bool.{Bool, true, false}
use Prim.Native.Nat.{ℕ, ◌+◌, ◌*◌}
use borrow.Author.Tests.{eq-eqb, ne_eqb}
use lib.Dec.{eqb}
use Rattle.words.specs.Choice.{pick}
use Rattle.words.specs.Counting.{one}
use Rattle.words.specs.Word.{bit}
use Rattle.words.proofs.ChoiceLaws.{pick_true, pick-false}
use Rattle.steps.specs.declared.Step.{Step}
use Rattle.steps.specs.declared.Step.TheVariants.{Read, Write, Line}
use Rattle.steps.specs.declared.Access.{Access}
use Rattle.steps.specs.Refusals.{carried_out, unsound, read_refusal, write_refusal, line_refusal}
use Rattle.aic_record.specs.declared.Aic.{Aic}
use Rattle.aic_record.specs.Sound.{sound}
use Rattle.aic_sources.specs.Fast.{fiq}
use Rattle.aic_sources.specs.Normal.{irq}
use Rattle.aic_registers.specs.declared.Answer.{Answer}
use Rattle.aic_registers.specs.Map.{access}
use Rattle.aic_registers.specs.Handlers.{refused}
use Rattle.aic.specs.Model.{read_number, write_number, line_number, read, write, line, step, outputs}

-- ---- the steps of a sound record

pub read_number_lem : (s : Aic) (o n : ℕ) (a : Access) → sound s ≡ true → a ≡ access o → n ≡ read_refusal true o a → n ≡ read_number s o
unfolding read_number
read_number_lem s o n a h e f = f ∙ ap₂ (λ (b : Bool) (x : Access). read_refusal b o x) (sym h) e

pub write_number_lem : (s : Aic) (o v n : ℕ) (a : Access) → sound s ≡ true → a ≡ access o → n ≡ write_refusal true o a carried_out → n ≡ write_number s o v
unfolding write_number
write_number_lem s o v n a h e f = f ∙ ap₂ (λ (b : Bool) (x : Access). write_refusal b o x carried_out) (sym h) e

pub line_number_lem : (s : Aic) (k l n : ℕ) → sound s ≡ true → n ≡ line_refusal true 32 k l → n ≡ line_number s k l
unfolding line_number
line_number_lem s k l n h f = f ∙ ap (λ (b : Bool). line_refusal b 32 k l) (sym h)

-- carried out exactly if the number is 0
pub done : (n m : ℕ) (x : Answer) (s : Aic) → n ≡ m → n ≡ carried_out → x ≡ pick (eqb m carried_out) x (refused s m)
done n m x s e z = pick_true (refused s m) (eq-eqb m carried_out (sym e ∙ z))

pub stopped : (n m : ℕ) (x : Answer) (s : Aic) → n ≡ m → (n ≡ carried_out → ⊥) → refused s n ≡ pick (eqb m carried_out) x (refused s m)
stopped n m x s e z = ap (refused s) e ∙ pick-false x (ne_eqb m carried_out (λ q. z (e ∙ q)))

-- ---- the outputs of a sound record, from the word of both

two_bits : (f i : Bool) → (bit (one f + 2 * one i) 1 ≡ i) × (bit (one f + 2 * one i) 0 ≡ f)
unfolding bit
two_bits true true = (refl, refl)
two_bits true false = (refl, refl)
two_bits false true = (refl, refl)
two_bits false false = (refl, refl)

pub outputs-by : (s : Aic) (w : ℕ) (i f : Bool) → sound s ≡ true → w ≡ one (fiq s) + 2 * one (irq s) → i ≡ bit w 1 → f ≡ bit w 0
    → record { refusal = carried_out; irq = i; fiq = f; entries = s.depth } ≡ outputs s
unfolding outputs
outputs-by s w i f ok e g h =
    let b = two_bits (fiq s) (irq s) in
    ap₂ (λ (x y : Bool). record { refusal = carried_out; irq = x; fiq = y; entries = s.depth })
    (g ∙ ap (λ (n : ℕ). bit n 1) e ∙ b.0) (h ∙ ap (λ (n : ℕ). bit n 0) e ∙ b.1)
    ∙ pick_true _ ok

-- ---- a record that is not sound

pub read-unsound : (s : Aic) (o : ℕ) → sound s ≡ false → refused s unsound ≡ read s o
unfolding read read_number read_refusal
read-unsound s o h = rw h (unfold pick in refl)

pub write-unsound : (s : Aic) (o v : ℕ) → sound s ≡ false → refused s unsound ≡ write s o v
unfolding write write_number write_refusal
write-unsound s o v h = rw h (unfold pick in refl)

pub line-unsound : (s : Aic) (k l : ℕ) → sound s ≡ false → refused s unsound ≡ line s k l
unfolding line line_number line_refusal
line-unsound s k l h = rw h (unfold pick in refl)

pub step-unsound : (s : Aic) (x : Step) → sound s ≡ false → refused s unsound ≡ step s x
step-unsound s (Read o) h = read-unsound s o h
step-unsound s (Write o v) h = write-unsound s o v h
step-unsound s (Line k l) h = line-unsound s k l h
