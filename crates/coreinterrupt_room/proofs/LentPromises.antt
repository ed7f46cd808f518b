-- The promises of a lent record, kept: what the contracts say of it, and what is known of the answers by value.
use Prim.Native.Nat.{ℕ, ◌≤◌, ◌<◌}
use mathlib.Core.Path.{◌≡◌, refl, sym, ap, ◌∙◌}
use mathlib.Core.Bool.{true, false}
use mathlib.Core.Logic.{◌↔◌, ◌≢◌, ◌⊎◌, inl, inr}
use native.Mathlib.Omega.{arith}
use lib.Dec.{eqb}
use borrow.Author.Tests.{ne_eqb}
use Rattle.words.specs.Choice.{pick}
use Rattle.words.proofs.ChoiceLaws.{pick-false, pick_cases}
use Rattle.steps.specs.declared.Step.{Step}
use Rattle.steps.specs.declared.Step.TheVariants.{Read, Write, Line}
use Rattle.coreinterrupt.specs.declared.Core.{Core}
use Rattle.coreinterrupt.specs.declared.Begun.{Begun}
use Rattle.coreinterrupt.specs.declared.Answer.{Answer}
use Rattle.coreinterrupt.specs.Model.{sound, start, step, answered, refused}
use Rattle.coreinterrupt.proofs.AnswerLaws.{carried, stopped, either_way, number_is, refused-is, taken}
use Rattle.coreinterrupt.proofs.ModelLaws.{step-refused, step-sound}
use Rattle.coreinterrupt.proofs.StartLaws.{Beyond, start-refused, start-taken}
use Rattle.coreinterrupt_room.specs.declared.lent.Reply.{Reply}
use Rattle.coreinterrupt_room.specs.Lent.{left_by, start_over, step_told, Stepped, Started}
use Rattle.coreinterrupt_room.specs.LentPromises.{Promises}

-- the number of a start over a record is that of the start by value
number : (c : Core) (f i fl il : ℕ) → (start_over c f i fl il).refusal ≡ (start f i fl il).refusal
unfolding start_over
number c f i fl il = number_is c (start f i fl il).refusal (answered (start f i fl il).core 0) refl

refused_over : (c : Core) (f i fl il : ℕ) → (start_over c f i fl il).refusal ≢ 0 → (start_over c f i fl il).core ≡ c
unfolding start_over
refused_over c f i fl il d =
    ap (λ (a : Answer). a.core) (refused-is c (start f i fl il).refusal (answered (start f i fl il).core 0) refl d)

taken-over : (c : Core) (f i fl il : ℕ) → (start_over c f i fl il).refusal ≡ 0 → (start_over c f i fl il).core ≡ (start f i fl il).core
unfolding start_over
taken-over c f i fl il z =
    ap (λ (a : Answer). a.core) (taken c (start f i fl il).refusal (answered (start f i fl il).core 0) refl z)

value-over : (c : Core) (f i fl il : ℕ) → (start_over c f i fl il).value ≡ 0
unfolding start_over
value-over c f i fl il = either_way (λ (a : Answer). a.value ≡ 0) c (start f i fl il).refusal (answered (start f i fl il).core 0) refl refl

-- ---- what is told by numbers

told-read : (c : Core) (x y : ℕ) → step_told c 1 x y ≡ step c (Read x)
unfolding step_told pick
told-read c x y = refl

told-write : (c : Core) (x y : ℕ) → step_told c 2 x y ≡ step c (Write x y)
unfolding step_told pick
told-write c x y = refl

told_line : (c : Core) (x y : ℕ) → step_told c 3 x y ≡ step c (Line x y)
unfolding step_told pick
told_line c x y = refl

told_none : (c : Core) (k x y : ℕ) → (k < 1) ⊎ (3 < k) → step_told c k x y ≡ refused c 9
unfolding step_told
told_none c k x y o = sym (pick-false _ (other 3 (omega arith) (omega arith)) ∙ pick-false _ (other 2 (omega arith) (omega arith)) ∙ pick-false _ (other 1 (omega arith) (omega arith)))
  where
    other : (n : ℕ) → 1 ≤ n → n ≤ 3 → eqb k n ≡ false
    other n l m = ne_eqb k n (λ e. go o e)
      where
        go : (k < 1) ⊎ (3 < k) → k ≡ n → ⊥
        go (inl b) e = omega arith
        go (inr b) e = omega arith

-- a fact about every step and about a refusal of the record holds of what is told
by-kind : (P : Answer → Type 0) (c : Core) (k x y : ℕ) → ((s : Step) → P (step c s)) → P (refused c 9) → P (step_told c k x y)
unfolding step_told
by-kind P c k x y h z =
    pick_cases P (eqb k 1) (λ e. h (Read x)) (λ e. pick_cases P (eqb k 2) (λ e. h (Write x y)) (λ e. pick_cases P (eqb k 3) (λ e. h (Line x y)) (λ e. z)))

-- ---- what a reply and the record afterwards are

number-left : {d : Core} {r : Reply} (a : Answer) → (d, r) ≡ left_by a → r.refusal ≡ a.refusal
number-left a e = ap (λ (o : Core × Reply). o.1.refusal) e

value-left : {d : Core} {r : Reply} (a : Answer) → (d, r) ≡ left_by a → r.value ≡ a.value
value-left a e = ap (λ (o : Core × Reply). o.1.value) e

record-left : {d : Core} {r : Reply} (a : Answer) → (d, r) ≡ left_by a → d ≡ a.core
record-left a e = ap (λ (o : Core × Reply). o.0) e

left_is : (d : Core) (r : Reply) (a : Answer) → ((d, r) ≡ left_by a) ↔ ((d ≡ a.core) × (r.refusal ≡ a.refusal) × (r.value ≡ a.value))
left_is d r a =
    ((λ e. (record-left a e, number-left a e, value-left a e)), (λ h. λ i. (h.0 i, record { refusal = h.1 i; value = h.2 i })))

abbrev Kept : Core → Answer → Type 0
Kept c a = a.refusal ≢ 0 → (a.core ≡ c) × (a.value ≡ 0)

told-kept : (c : Core) (k x y : ℕ) → Kept c (step_told c k x y)
told-kept c k x y =
    by-kind (Kept c) c k x y
    (λ s n. let e = step-refused c s n in (ap (λ (a : Answer). a.core) e, ap (λ (a : Answer). a.value) e)) (λ n. (refl, refl))

step_kept : (c d : Core) (k x y : ℕ) (r : Reply) → Stepped c d k x y r → r.refusal ≢ 0 → (d ≡ c) × (r.value ≡ 0)
step_kept c d k x y r h n =
    let a = step_told c k x y in
    let e = told-kept c k x y (λ z. n (number-left a h ∙ z)) in
    (record-left a h ∙ e.0, value-left a h ∙ e.1)

told-sound : (c : Core) (k x y : ℕ) → sound c ≡ true → sound (step_told c k x y).core ≡ true
told-sound c k x y e = by-kind (λ (a : Answer). sound a.core ≡ true) c k x y (λ s. step-sound c s e) e

start_number : (c d : Core) (f i fl il : ℕ) (r : Reply) → Started c d f i fl il r → (r.refusal ≡ 10) ↔ Beyond f i fl il
start_number c d f i fl il r h =
    let e = number-left (start_over c f i fl il) h ∙ number c f i fl il in
    ((λ t. (start-refused f i fl il).0 (sym e ∙ t)), (λ b. e ∙ (start-refused f i fl il).1 b))

-- a start over a record, by its numbers
over-taken : (c : Core) (f i fl il : ℕ) → f ≤ 8 → i ≤ 32 → fl ≤ 1 → il ≤ 1
    → start_over c f i fl il
    ≡ record {
      refusal = 0;
      value = 0;
      core = record {
        fiq = record { count = f; level = fl; inputs = 0; soft = 0; enable = 0 };
        irq = record { count = i; level = il; inputs = 0; soft = 0; enable = 0 };
      };
    }
unfolding start_over
over-taken c f i fl il p q u v =
    let e = start-taken f i fl il p q u v in
    sym (carried c (start f i fl il).refusal (ap (λ (b : Begun). b.refusal) e)) ∙ ap (λ (b : Begun). answered b.core 0) e

over-refused : (c : Core) (f i fl il : ℕ) → Beyond f i fl il → start_over c f i fl il ≡ record { refusal = 10; value = 0; core = c }
unfolding start_over
over-refused c f i fl il b =
    let e = (start-refused f i fl il).1 b in
    sym (stopped c (start f i fl il).refusal _ (λ z. omega (arith, e, z))) ∙ ap (refused c) e

pub kept : Promises
kept =
    record {
      told_read = told-read;
      told_write = told-write;
      told_line = told_line;
      told_none = told_none;
      step_is = λ c d k x y r. left_is d r (step_told c k x y);
      refused_same = step_kept;
      step_sound = λ c d k x y r h e. ap sound (record-left (step_told c k x y) h) ∙ told-sound c k x y e;
      over_taken = over-taken;
      over_refused = over-refused;
      start_is = λ c d f i fl il r. left_is d r (start_over c f i fl il);
      start_refused = λ c d f i fl il r h n. let a = start_over c f i fl il in record-left a h ∙ refused_over c f i fl il (λ z. n (number-left a h ∙ z));
      start_number = start_number;
      start_taken = λ c d f i fl il r h z. let a = start_over c f i fl il in record-left a h ∙ taken-over c f i fl il (sym (number-left a h) ∙ z);
      start_value = λ c d f i fl il r h. value-left (start_over c f i fl il) h ∙ value-over c f i fl il;
    }
