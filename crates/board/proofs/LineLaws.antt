-- A write to CoreInterrupt and its lines: neither touches the other.
use Prim.Native.Nat.{ℕ, zero, suc}
use mathlib.Core.Path.{◌≡◌, refl, sym, ap, ◌∙◌}
use mathlib.Core.Bool.{Bool, true, false}
use native.Mathlib.Omega.{arith}
use lib.Dec.{eqb}
use Rattle.words.specs.Choice.{pick}
use Rattle.steps.specs.Refusals.{write_refusal}
use Rattle.coreinterrupt.specs.declared.sides.Side.{Side}
use Rattle.coreinterrupt.specs.Side.{with_inputs, clear_access, side_access, side_write}
use Rattle.coreinterrupt.proofs.SidesTableLaws.{write-past}
use Rattle.coreinterrupt.specs.declared.Answer.{Answer}
use Rattle.coreinterrupt.specs.declared.Core.{Core}
use Rattle.coreinterrupt.specs.Model.{core_of, side, with_side, sound, answered, refused, unless_refused, fiq_offset, register, access, written, write}

-- the controller with its FIQ lines as the word u says and its IRQ lines as the word v says
abbrev pub lined : Core → ℕ → ℕ → Core
lined k u v = core_of (with_inputs k.fiq u) (with_inputs k.irq v)

-- ---- one side

side-write : (s : Side) (w i v : ℕ) → side_write (with_inputs s w) i v ≡ with_inputs (side_write s i v) w
unfolding side_write
side-write s w zero v = refl
side-write s w (suc zero) v = refl
side-write s w (suc (suc zero)) v = refl
side-write s w (suc (suc (suc zero))) v = refl
side-write s w (suc (suc (suc (suc i)))) v =
    sym (write-past (with_inputs s w) (suc (suc (suc (suc i)))) v (omega arith))
    ∙ ap (λ (x : Side). with_inputs x w) (write-past s (suc (suc (suc (suc i)))) v (omega arith))

side-count : (s : Side) (i v : ℕ) → (side_write s i v).count ≡ s.count
unfolding side_write
side-count s zero v = refl
side-count s (suc zero) v = refl
side-count s (suc (suc zero)) v = refl
side-count s (suc (suc (suc zero))) v = refl
side-count s (suc (suc (suc (suc i)))) v = ap (λ (x : Side). x.count) (sym (write-past s (suc (suc (suc (suc i)))) v (omega arith)))

-- ---- the controller

written-lined : (k : Core) (u v o x : ℕ) → written (lined k u v) o x ≡ lined (written k o x) u v
unfolding written with_side side pick
written-lined k u v o x = go (fiq_offset o)
  where
    go : (fast : Bool) → with_side (lined k u v) fast (side_write (side (lined k u v) fast) (register o) x) ≡ lined (with_side k fast (side_write (side k fast) (register o) x)) u v
    go true = ap (λ (s : Side). core_of s (with_inputs k.irq v)) (side-write k.fiq u (register o) x)
    go false = ap (λ (s : Side). core_of (with_inputs k.fiq u) s) (side-write k.irq v (register o) x)

access-lined : (k : Core) (u v o : ℕ) → access (lined k u v) o ≡ access k o
unfolding access side side_access clear_access pick
access-lined k u v o = go (fiq_offset o)
  where
    go : (fast : Bool) → side_access (side (lined k u v) fast) (register o) ≡ side_access (side k fast) (register o)
    go true = refl
    go false = refl

-- a write with other lines answers the same, and leaves those lines
pub write-lined : (k : Core) (u v o x : ℕ) → sound k ≡ true → sound (lined k u v) ≡ true
    → write (lined k u v) o x ≡ record { refusal = (write k o x).refusal; value = (write k o x).value; core = lined (write k o x).core u v }
unfolding write unless_refused pick
write-lined k u v o x e f = rw (e, f, access-lined k u v o, written-lined k u v o x) (go (eqb n 0))
  where
    n : ℕ
    n = write_refusal true o (access k o) 0

    a : Answer
    a = answered (written k o x) 0

    go : (t : Bool) → pick t (answered (lined (written k o x) u v) 0) (refused (lined k u v) n)
        ≡ record { refusal = (pick t a (refused k n)).refusal; value = (pick t a (refused k n)).value; core = lined (pick t a (refused k n)).core u v }
    go true = refl
    go false = refl

-- and keeps its counts
pub write-counts : (k : Core) (o x : ℕ) → ((write k o x).core.fiq.count ≡ k.fiq.count) × ((write k o x).core.irq.count ≡ k.irq.count)
unfolding write unless_refused written with_side side pick
write-counts k o x = go (eqb (write_refusal (sound k) o (access k o) 0) 0) (fiq_offset o)
  where
    n : ℕ
    n = write_refusal (sound k) o (access k o) 0

    then_core : Bool → Bool → Core
    then_core t fast = (pick t (answered (with_side k fast (side_write (side k fast) (register o) x)) 0) (refused k n)).core

    go : (t fast : Bool) → ((then_core t fast).fiq.count ≡ k.fiq.count) × ((then_core t fast).irq.count ≡ k.irq.count)
    go true true = (side-count k.fiq (register o) x, refl)
    go true false = (refl, side-count k.irq (register o) x)
    go false fast = (refl, refl)

-- and its lines
pub write_lines : (k : Core) (o x : ℕ) → sound k ≡ true
    → ((write k o x).core.fiq.inputs ≡ k.fiq.inputs) × ((write k o x).core.irq.inputs ≡ k.irq.inputs)
write_lines k o x e =
    let w = write-lined k k.fiq.inputs k.irq.inputs o x e e in
    (ap (λ (a : Answer). a.core.fiq.inputs) w, ap (λ (a : Answer). a.core.irq.inputs) w)
