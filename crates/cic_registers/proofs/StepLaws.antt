-- Refused or carried out: what a step answers by its number, of a record that is not sound, and at an aligned offset.
use mathlib.Core.Path.{◌≡◌, refl, sym, ap, ◌∙◌}
use mathlib.Core.Bool.{Bool, true, false}
use mathlib.Core.Logic.{◌⊎◌, inl, inr}
use Prim.Native.Nat.{ℕ, ◌%◌}
use native.Mathlib.Omega.{arith}
use borrow.Author.Tests.{eq-eqb, ne_eqb}
use lib.Dec.{eqb}
use Rattle.words.proofs.ChoiceLaws.{pick_true, pick-false, pick-ap}
use Rattle.steps.specs.declared.Access.{Access}
use Rattle.steps.specs.declared.Access.TheVariants.{NoRegister, ReadOnly, WriteOnly, ReadWrite}
use Rattle.steps.specs.declared.Step.{Step}
use Rattle.steps.specs.declared.Step.TheVariants.{Read, Write, Line}
use Rattle.steps.specs.Refusals.{carried_out, misaligned, beyond, unsound, read_access, write_access, read_refusal, write_refusal, line_refusal}
use Rattle.steps.specs.Promises.{ValueNumber}
use Rattle.steps.specs.Tables.{Writable}
use Rattle.steps.proofs.Promises as checks
use Rattle.cic_record.specs.declared.Answer.{Answer}
use Rattle.cic_record.specs.declared.Cic.{Cic}
use Rattle.cic_record.specs.declared.Reply.{Reply}
use Rattle.cic_record.specs.Kinds.{system}
use Rattle.cic_record.specs.Parts.{answer_of, refused_reply, answered_reply}
use Rattle.cic_record.specs.Record.{refused, answered}
use Rattle.cic_registers.specs.declared.layout.Register.{Register}
use Rattle.cic_registers.specs.Map.{register_at, access}
use Rattle.cic_registers.specs.Access.{read_in, write_in}
use Rattle.cic_registers.specs.Registers.{value_of, written_to}
use Rattle.cic_registers.proofs.WrittenLaws.{value_number, value_six}
use Rattle.cic_registers.specs.Model.{unless_refused, refusal_at, read_as, write_as, moved, line_as, step_as}

-- ---- by the number

-- the code's number n is the definition's number m, and not 0
pub refused-by : (c : Cic) {n m : ℕ} (a : Answer) → n ≡ m → (n ≡ carried_out → ⊥) → refused c n ≡ unless_refused c m a
refused-by c {n} {m} a e z = ap (refused c) e ∙ pick-false a (ne_eqb m carried_out (λ f. z (e ∙ f)))

-- it is 0
pub carried-by : (c : Cic) {n m : ℕ} {b a : Answer} → n ≡ m → n ≡ carried_out → b ≡ a → b ≡ unless_refused c m a
carried-by c {n} {m} e z f = f ∙ pick_true (refused c m) (eq-eqb m carried_out (sym e ∙ z))

-- ---- a record that is not sound: 12 and the same record

twelve : (c : Cic) {m : ℕ} (a : Answer) → m ≡ unsound → unless_refused c m a ≡ refused c unsound
twelve c a e = sym (refused-by c a (sym e) (λ z. omega (arith, z)))

pub read-unsound : (c : Cic) (o : ℕ) → read_as false c o ≡ refused c unsound
unfolding read_as
read-unsound c o = twelve c _ (((checks.kept).reads false o (access c o)).twelve.1 refl)

pub write-unsound : (c : Cic) (o v : ℕ) → write_as false c o v ≡ refused c unsound
unfolding write_as
write-unsound c o v = twelve c _ (((checks.kept).writes false o (access c o) (refusal_at c o v) (value_number c (register_at o) v)).twelve.1 refl)

pub line-unsound : (c : Cic) (s l : ℕ) → line_as false c s l ≡ refused c unsound
unfolding line_as
line-unsound c s l = twelve c _ (((checks.kept).lines false c.systems s l).twelve.1 refl)

pub step-unsound : (c : Cic) (x : Step) → step_as false c x ≡ refused c unsound
unfolding step_as
step-unsound c (Read o) = read-unsound c o
step-unsound c (Write o v) = write-unsound c o v
step-unsound c (Line s l) = line-unsound c s l

-- ---- a sound record: an offset that is no multiple of 4, and one that is

pub misaligned-read : (c : Cic) (o : ℕ) → (o % 4 ≡ 0 → ⊥) → refused c misaligned ≡ read_as true c o
unfolding read_as
misaligned-read c o odd = refused-by c _ (sym (((checks.kept).reads true o (access c o)).one.1 (refl, odd))) (λ z. omega (arith, z))

pub misaligned-write : (c : Cic) (o v : ℕ) → (o % 4 ≡ 0 → ⊥) → refused c misaligned ≡ write_as true c o v
unfolding write_as
misaligned-write c o v odd =
    refused-by c _ (sym (((checks.kept).writes true o (access c o) (refusal_at c o v) (value_number c (register_at o) v)).one.1 (refl, odd))) (λ z. omega (arith, z))

read_number : (o : ℕ) (a : Access) → o % 4 ≡ 0 → read_access a ≡ read_refusal true o a
read_number o NoRegister e = sym (((checks.kept).reads true o NoRegister).two.1 (refl, (e, refl)))
read_number o ReadOnly e = sym (((checks.kept).reads true o ReadOnly).none.1 (refl, (e, inl refl)))
read_number o WriteOnly e = sym (((checks.kept).reads true o WriteOnly).three.1 (refl, (e, refl)))
read_number o ReadWrite e = sym (((checks.kept).reads true o ReadWrite).none.1 (refl, (e, inr refl)))

-- the value is refused by 6 or not at all
taken : (o : ℕ) (a : Access) (w : ℕ) → ValueNumber w → o % 4 ≡ 0 → Writable a → (w ≡ carried_out) ⊎ (w ≡ beyond) → w ≡ write_refusal true o a w
taken o a w k e t (inl z) = z ∙ sym (((checks.kept).writes true o a w k).none.1 (refl, (e, (t, z))))
taken o a w k e t (inr z) = z ∙ sym (((checks.kept).writes true o a w k).six.1 (refl, (e, (t, z))))

write_number : (o : ℕ) (a : Access) (w : ℕ) → ValueNumber w → o % 4 ≡ 0 → (w ≡ carried_out) ⊎ (w ≡ beyond) → write_access a w ≡ write_refusal true o a w
write_number o NoRegister w k e z = sym (((checks.kept).writes true o NoRegister w k).two.1 (refl, (e, refl)))
write_number o ReadOnly w k e z = sym (((checks.kept).writes true o ReadOnly w k).four.1 (refl, (e, refl)))
write_number o WriteOnly w k e z = taken o WriteOnly w k e (inl refl) z
write_number o ReadWrite w k e z = taken o ReadWrite w k e (inr refl) z

-- the register r stands at the offset
pub aligned-read : (c : Cic) (o : ℕ) {r : Register} {x : Reply} → o % 4 ≡ 0 → r ≡ register_at o → x ≡ read_in c r → answer_of x c ≡ read_as true c o
unfolding read_as
aligned-read c o e at p =
    ap (λ (x : Reply). answer_of x c) (p ∙ ap (read_in c) at)
    ∙ pick-ap (λ (x : Reply). answer_of x c) (eqb (read_access (access c o)) carried_out) (answered_reply (value_of c (register_at o))) (refused_reply (read_access (access c o)))
    ∙ ap (λ (n : ℕ). unless_refused c n (answered c (value_of c (register_at o)))) (read_number o (access c o) e)

pub aligned-write : (c : Cic) (o v : ℕ) {r : Register} → o % 4 ≡ 0 → r ≡ register_at o → write_in c r v ≡ write_as true c o v
unfolding write_as
aligned-write c o v e at =
    ap (λ (x : Register). write_in c x v) at
    ∙ ap (λ (n : ℕ). unless_refused c n (answered (written_to c (register_at o) v) 0))
    (write_number o (access c o) (refusal_at c o v) (value_number c (register_at o) v) e (value_six c (register_at o) v))

-- ---- a line step by the code's number n, and a step by its kind

pub line_refused : (c : Cic) (s l : ℕ) {n : ℕ} → n ≡ line_refusal true c.systems s l → (n ≡ carried_out → ⊥) → refused c n ≡ line_as true c s l
unfolding line_as
line_refused c s l e z = refused-by c _ e z

pub line-carried : (c : Cic) (s l : ℕ) {n : ℕ} {a : Answer} → n ≡ line_refusal true c.systems s l → n ≡ carried_out → a ≡ answered (moved c (system s) (eqb l 1)) 0 → a ≡ line_as true c s l
unfolding line_as
line-carried c s l e z f = carried-by c e z f

pub step-read : (ok : Bool) (c : Cic) (o : ℕ) {x : Step} → x ≡ Read o → read_as ok c o ≡ step_as ok c x
unfolding step_as
step-read ok c o e = sym (ap (step_as ok c) e)

pub step-write : (ok : Bool) (c : Cic) (o v : ℕ) {x : Step} → x ≡ Write o v → write_as ok c o v ≡ step_as ok c x
unfolding step_as
step-write ok c o v e = sym (ap (step_as ok c) e)

pub step_line : (ok : Bool) (c : Cic) (s l : ℕ) {x : Step} → x ≡ Line s l → line_as ok c s l ≡ step_as ok c x
unfolding step_as
step_line ok c s l e = sym (ap (step_as ok c) e)
