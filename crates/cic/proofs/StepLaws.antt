-- What a step answers by its number, and what one that is carried out does.
use mathlib.Core.Path.{◌≡◌, refl, sym, ap, subst, ◌∙◌}
use mathlib.Core.Bool.{true}
use Prim.Native.Nat.{ℕ, ◌%◌, ◌<◌, ◌≤◌}
use native.Mathlib.Decide.{ℕ_discrete}
use borrow.Author.Tests.{eq-eqb, ne_eqb}
use lib.Dec.{eqb}
use Rattle.words.proofs.ChoiceLaws.{pick_true, pick-false}
use Rattle.steps.specs.Refusals.{carried_out}
use Rattle.steps.specs.Tables.{Readable, Writable}
use Rattle.steps.proofs.Promises as checks
use Rattle.cic_record.specs.declared.Answer.{Answer}
use Rattle.cic_record.specs.declared.Cic.{Cic}
use Rattle.cic_record.specs.Kinds.{system}
use Rattle.cic_record.specs.Record.{refused, answered}
use Rattle.cic_record.specs.Sound.{sound}
use Rattle.cic_registers.specs.declared.layout.Register.{Register}
use Rattle.cic_registers.specs.Map.{register_at, access_of, access}
use Rattle.cic_registers.specs.Registers.{value_of, value_refusal, written_to}
use Rattle.cic_registers.proofs.WrittenLaws.{value_number}
use Rattle.cic_registers.specs.Model.{unless_refused, refusal_at, read_as, write_as, line_as, moved, read, write, line}
use Rattle.cic_registers.proofs.StepLaws.{refused-by, carried-by}

-- ---- by the number

-- the number that is answered, where a step that is carried out answers 0
pub its_number : (c : Cic) (n : ℕ) (a : Answer) → a.refusal ≡ carried_out → (unless_refused c n a).refusal ≡ n
its_number c n a z = go (ℕ_discrete n carried_out)
  where
    go : Dec (n ≡ carried_out) → (unless_refused c n a).refusal ≡ n
    go (yes e) = ap (λ (b : Answer). b.refusal) (sym (pick_true (refused c n) (eq-eqb n carried_out e))) ∙ z ∙ sym e
    go (no d) = ap (λ (b : Answer). b.refusal) (sym (pick-false a (ne_eqb n carried_out d)))

-- a refused step is its number, 0 and the same record
pub its-record : (c : Cic) (n : ℕ) (a : Answer) → a.refusal ≡ carried_out → ((unless_refused c n a).refusal ≡ carried_out → ⊥)
    → unless_refused c n a ≡ refused c (unless_refused c n a).refusal
its-record c n a z d =
    sym (refused-by c a refl (λ e. d (its_number c n a z ∙ e))) ∙ ap (refused c) (sym (its_number c n a z))

-- ---- carried out

-- a read of the register r that stands at the offset o
pub read_done : (c : Cic) (o : ℕ) {r : Register} → sound c ≡ true → o % 4 ≡ 0 → register_at o ≡ r → Readable (access_of c r) → read c o ≡ answered c (value_of c r)
unfolding read_as
read_done c o ok four at readable =
    sym (carried-by c refl (((checks.kept).reads (sound c) o (access c o)).none.1 (ok, (four, subst (λ (x : Register). Readable (access_of c x)) (sym at) readable)))
    (ap (λ (x : Register). answered c (value_of c x)) (sym at)))

-- a write to it of a value that it takes
pub write_done : (c : Cic) (o v : ℕ) {r : Register} → sound c ≡ true → o % 4 ≡ 0 → register_at o ≡ r → Writable (access_of c r) → value_refusal c r v ≡ carried_out
    → write c o v ≡ answered (written_to c r v) 0
unfolding write_as
write_done c o v ok four at writable takes =
    sym (carried-by c refl
    (((checks.kept).writes (sound c) o (access c o) (refusal_at c o v) (value_number c (register_at o) v)).none.1
    (ok, (four, (subst (λ (x : Register). Writable (access_of c x)) (sym at) writable, ap (λ (x : Register). value_refusal c x v) at ∙ takes))))
    (ap (λ (x : Register). answered (written_to c x v) 0) (sym at)))

-- a line step of one of the inputs
pub line-done : (c : Cic) (s l : ℕ) → sound c ≡ true → s < c.systems → l ≤ 1 → line c s l ≡ answered (moved c (system s) (eqb l 1)) 0
unfolding line_as
line-done c s l ok there low = sym (carried-by c refl (((checks.kept).lines (sound c) c.systems s l).none.1 (ok, (there, low))) refl)
