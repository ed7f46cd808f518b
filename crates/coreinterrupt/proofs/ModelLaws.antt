-- The controller: what keeps it sound, where its registers are, and what a step leaves alone.
use Prim.Native.Nat.{ℕ, ◌+◌, ◌-◌, ◌/◌, ◌%◌, ◌<◌, ◌≤◌}
use mathlib.Core.Path.{◌≡◌, refl, sym, ap, ◌∙◌}
use mathlib.Core.Bool.{Bool, true, false}
use mathlib.Core.Logic.{◌↔◌, ◌≢◌}
use native.Mathlib.Omega.{arith}
use native.Mathlib.Decide.{dec_lt}
use borrow.Author.Tests.{lt-ltb, le-ltb, le-leb, lt-leb}
use lib.Dec.{eqb}
use Rattle.words.specs.Choice.{pick}
use Rattle.words.proofs.ChoiceLaws.{pick_true, pick-false}
use Rattle.words.proofs.TruthLaws.{and_left, and_right, and_both}
use Rattle.steps.specs.declared.Access.TheVariants.{NoRegister}
use Rattle.steps.specs.declared.Step.{Step}
use Rattle.steps.specs.declared.Step.TheVariants.{Read, Write, Line}
use Rattle.steps.specs.Refusals.{read_refusal, write_refusal, line_refusal}
use Rattle.steps.proofs.Promises.{read_table, line-table}
use Rattle.coreinterrupt.specs.declared.sides.Side.{Side}
use Rattle.coreinterrupt.specs.declared.Core.{Core}
use Rattle.coreinterrupt.specs.declared.Answer.{Answer}
use Rattle.coreinterrupt.specs.Side.{side_access, side_write, moved, side_sound}
use Rattle.coreinterrupt.specs.Model.{side, with_side, sound, answered, refused, fiq_offset, register, access, value_at, written, read, write, fiq_line, input, line_moved, line, step}
use Rattle.coreinterrupt.specs.Promises.{Rules}
use Rattle.coreinterrupt.proofs.AnswerLaws.{carried, either_way, refused-is}
use Rattle.coreinterrupt.proofs.SideLaws.{write-sound, moved-sound, moved_spare, sound-rules, rules-sound, six_registers, zero_readable, zero-read}

-- ---- soundness

pub fiq-sound : (c : Core) → sound c ≡ true → side_sound 8 c.fiq ≡ true
unfolding sound
fiq-sound c e = and_left (side_sound 8 c.fiq) (side_sound 32 c.irq) e

pub irq-sound : (c : Core) → sound c ≡ true → side_sound 32 c.irq ≡ true
unfolding sound
irq-sound c e = and_right (side_sound 8 c.fiq) (side_sound 32 c.irq) e

pub sound-is : (c : Core) → (sound c ≡ true) ↔ Rules c
unfolding sound
sound-is c = (
  (λ e. record { fiq = sound-rules 8 c.fiq (fiq-sound c e); irq = sound-rules 32 c.irq (irq-sound c e) }),
  (λ r. and_both (rules-sound 8 c.fiq r.fiq) (rules-sound 32 c.irq r.irq)),
)

-- what keeps each side sound keeps the record sound, on whichever side it is done
side-sound : (c : Core) (fast : Bool) (f : Side → Side)
    → ((limit : ℕ) (g : Side) → side_sound limit g ≡ true → side_sound limit (f g) ≡ true)
    → sound c ≡ true → sound (with_side c fast (f (side c fast))) ≡ true
unfolding side with_side sound pick
side-sound c true f h e = and_both (h 8 c.fiq (fiq-sound c e)) (irq-sound c e)
side-sound c false f h e = and_both (fiq-sound c e) (h 32 c.irq (irq-sound c e))

written-sound : (c : Core) (o v : ℕ) → sound c ≡ true → sound (written c o v) ≡ true
unfolding written
written-sound c o v e = side-sound c (fiq_offset o) (λ g. side_write g (register o) v) (write-sound (register o) v) e

line-sound : (c : Core) (k : ℕ) (high : Bool) → sound c ≡ true → sound (line_moved c k high) ≡ true
unfolding line_moved
line-sound c k high e = side-sound c (fiq_line k) (λ g. moved g (input k) high) (moved-sound (input k) high) e

pub step-sound : (c : Core) (x : Step) → sound c ≡ true → sound (step c x).core ≡ true
unfolding read write line
step-sound c (Read o) e = either_way (λ (a : Answer). sound a.core ≡ true) c (read_refusal (sound c) o (access c o)) (answered c (value_at c o)) e e
step-sound c (Write o v) e =
    either_way (λ (a : Answer). sound a.core ≡ true) c (write_refusal (sound c) o (access c o) 0) (answered (written c o v) 0) (written-sound c o v e) e
step-sound c (Line k l) e =
    either_way (λ (a : Answer). sound a.core ≡ true) c (line_refusal (sound c) 40 k l) (answered (line_moved c k (eqb l 1)) 0)
    (line-sound c k (eqb l 1) e) e

pub step-refused : (c : Core) (x : Step) → (step c x).refusal ≢ 0 → step c x ≡ refused c (step c x).refusal
unfolding read write line
step-refused c (Read o) d = refused-is c (read_refusal (sound c) o (access c o)) (answered c (value_at c o)) refl d
step-refused c (Write o v) d = refused-is c (write_refusal (sound c) o (access c o) 0) (answered (written c o v) 0) refl d
step-refused c (Line k l) d = refused-is c (line_refusal (sound c) 40 k l) (answered (line_moved c k (eqb l 1)) 0) refl d

-- ---- which side an offset or a line belongs to

pub fiq-offset : (o : ℕ) → o < 0x18 → fiq_offset o ≡ true
unfolding fiq_offset
fiq-offset o l = lt-ltb o 0x18 l

pub irq-offset : (o : ℕ) → 0x18 ≤ o → fiq_offset o ≡ false
unfolding fiq_offset
irq-offset o l = le-ltb o 0x18 l

pub fiq-line : (k : ℕ) → 32 ≤ k → fiq_line k ≡ true
unfolding fiq_line
fiq-line k l = le-leb 32 k l

pub irq-line : (k : ℕ) → k < 32 → fiq_line k ≡ false
unfolding fiq_line
irq-line k l = lt-leb 32 k l

-- the side of a known name
side-fiq : (c : Core) {fast : Bool} → fast ≡ true → side c fast ≡ c.fiq
unfolding side
side-fiq c e = sym (pick_true _ e)

side-irq : (c : Core) {fast : Bool} → fast ≡ false → side c fast ≡ c.irq
unfolding side
side-irq c e = sym (pick-false _ e)

-- replacing one side leaves the other
pub with-irq : (c : Core) (fast : Bool) (g : Side) → fast ≡ true → (with_side c fast g).irq ≡ c.irq
unfolding with_side pick
with-irq c fast g e = rw e

pub with-fiq : (c : Core) (fast : Bool) (g : Side) → fast ≡ false → (with_side c fast g).fiq ≡ c.fiq
unfolding with_side pick
with-fiq c fast g e = rw e

-- putting a side back changes nothing
pub with-same : (c : Core) (fast : Bool) → with_side c fast (side c fast) ≡ c
unfolding with_side side pick
with-same c true = refl
with-same c false = refl

-- ---- registers

register-fiq : (o : ℕ) → o < 0x18 → register o ≡ o / 4
unfolding register
register-fiq o l = sym (pick_true _ (fiq-offset o l))

register-irq : (o : ℕ) → 0x18 ≤ o → register o ≡ (o - 0x18) / 4
unfolding register
register-irq o l = sym (pick-false _ (irq-offset o l))

register-below : (o : ℕ) → o < 0x30 → register o < 6
register-below o l = go (dec_lt o 0x18)
  where
    go : Dec (o < 0x18) → register o < 6
    go (yes p) = omega (arith, register-fiq o p)
    go (no p) = omega (arith, register-irq o (omega arith))

register-past : (o : ℕ) → 0x30 ≤ o → 6 ≤ register o
register-past o l = omega (arith, register-irq o (omega arith))

pub registers : (c : Core) (o : ℕ) → (access c o ≡ NoRegister) ↔ (0x30 ≤ o)
unfolding access
registers c o = (below (dec_lt o 0x30), (λ l. six.1 (register-past o l)))
  where
    six : (side_access (side c (fiq_offset o)) (register o) ≡ NoRegister) ↔ (6 ≤ register o)
    six = six_registers (side c (fiq_offset o)) (register o)

    below : Dec (o < 0x30) → side_access (side c (fiq_offset o)) (register o) ≡ NoRegister → 0x30 ≤ o
    below (yes l) e = absurd (omega (arith, six.0 e, register-below o l))
    below (no l) e = omega arith

-- a sound side with no sources answers 0 at each of its registers
zero-side : (c : Core) (o limit : ℕ) → sound c ≡ true → side_sound limit (side c (fiq_offset o)) ≡ true → (side c (fiq_offset o)).count ≡ 0
    → o < 0x30 → o % 4 ≡ 0 → read c o ≡ answered c 0
unfolding read access value_at
zero-side c o limit e g z l m =
    sym (carried c (read_refusal (sound c) o (access c o))
    ((read_table (sound c) o (access c o)).none.1 (e, (m, zero_readable (side c (fiq_offset o)) (register o) z (register-below o l)))))
    ∙ ap (answered c) (zero-read limit (side c (fiq_offset o)) (sound-rules limit (side c (fiq_offset o)) g) z (register o))

pub zero-fiq : (c : Core) (o : ℕ) → sound c ≡ true → c.fiq.count ≡ 0 → o < 0x18 → o % 4 ≡ 0 → read c o ≡ answered c 0
zero-fiq c o e z l m =
    let s = side-fiq c (fiq-offset o l) in
    zero-side c o 8 e (ap (side_sound 8) s ∙ fiq-sound c e) (ap (λ (g : Side). g.count) s ∙ z) (omega arith) m

pub zero-irq : (c : Core) (o : ℕ) → sound c ≡ true → c.irq.count ≡ 0 → 0x18 ≤ o → o < 0x30 → o % 4 ≡ 0 → read c o ≡ answered c 0
zero-irq c o e z k l m =
    let s = side-irq c (irq-offset o k) in
    zero-side c o 32 e (ap (side_sound 32) s ∙ irq-sound c e) (ap (λ (g : Side). g.count) s ∙ z) l m

-- ---- lines

-- an input that its side does not store
spare-side : (c : Core) (k l : ℕ) → sound c ≡ true → (side c (fiq_line k)).count ≤ input k → k < 40 → l ≤ 1 → line c k l ≡ answered c 0
unfolding line line_moved
spare-side c k l e n p q =
    sym (carried c (line_refusal (sound c) 40 k l) ((line-table (sound c) 40 k l).none.1 (e, (p, q))))
    ∙ ap (λ (d : Core). answered d 0) (ap (with_side c (fiq_line k)) (moved_spare (side c (fiq_line k)) (input k) (eqb l 1) n) ∙ with-same c (fiq_line k))

input-fiq : (k : ℕ) → 32 ≤ k → input k ≡ k - 32
unfolding input
input-fiq k l = sym (pick_true _ (fiq-line k l))

input-irq : (k : ℕ) → k < 32 → input k ≡ k
unfolding input
input-irq k l = sym (pick-false _ (irq-line k l))

pub spare-irq : (c : Core) (k l : ℕ) → sound c ≡ true → c.irq.count ≤ k → k < 32 → l ≤ 1 → line c k l ≡ answered c 0
spare-irq c k l e n p q =
    spare-side c k l e (omega (arith, ap (λ (g : Side). g.count) (side-irq c (irq-line k p)), input-irq k p)) (omega arith) q

pub spare-fiq : (c : Core) (k l : ℕ) → sound c ≡ true → 32 + c.fiq.count ≤ k → k < 40 → l ≤ 1 → line c k l ≡ answered c 0
spare-fiq c k l e n p q =
    let h : 32 ≤ k = omega arith in
    spare-side c k l e (omega (arith, ap (λ (g : Side). g.count) (side-fiq c (fiq-line k h)), input-fiq k h)) p q
