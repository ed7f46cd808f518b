-- The numbers by which steps are refused are small.
use Prim.Native.Nat.{ℕ, ◌%◌, ◌<◌, ◌≤◌, ◌^◌}
use mathlib.Core.Path.{◌≡◌, refl, ap}
use mathlib.Core.Bool.{Bool, true, false}
use mathlib.Core.Logic.{inl, inr}
use native.Mathlib.Decide.{ℕ_discrete, dec_lt}
use native.Mathlib.Omega.{arith}
use lib.Dec.{eqb, leb}
use Rattle.words.proofs.ChoiceLaws.{pick_cases}
use Rattle.steps.specs.declared.Access.{Access}
use Rattle.steps.specs.declared.Access.TheVariants.{NoRegister, ReadOnly, WriteOnly, ReadWrite}
use Rattle.steps.specs.declared.Recorded.{Recorded}
use Rattle.steps.specs.declared.Step.{Step}
use Rattle.steps.specs.declared.Step.TheVariants.{Read, Write, Line}
use Rattle.steps.specs.Promises.{ValueNumber}
use Rattle.steps.specs.Tables.{ReadTable, WriteTable, LineTable}
use Rattle.steps.proofs.Promises.{kept as checks}
use Rattle.aic_record.specs.declared.Aic.{Aic}
use Rattle.aic.specs.Model.{step as aic_step}
use Rattle.aic.proofs.Promises.{kept as aic}
use Rattle.coreinterrupt.specs.declared.Core.{Core}
use Rattle.coreinterrupt.specs.Model.{step as core_step}
use Rattle.coreinterrupt.proofs.Promises.{kept as core}
use Rattle.cic_record.specs.declared.Cic.{Cic}
use Rattle.cic_registers.specs.Map.{register_at}
use Rattle.cic_registers.proofs.WrittenLaws.{value_number}
use Rattle.cic_registers.specs.Model.{step as cic_step, step_as}
use Rattle.cic.proofs.Promises.{kept as cic}
use Rattle.cic_held.specs.declared.Prioritised.{Prioritised}
use Rattle.cic_indexed.specs.Model.{step as indexed_step}
use Rattle.cic_indexed.proofs.Promises.{kept as indexed}
use Rattle.aintc_record.specs.declared.Aintc.{Aintc}
use Rattle.aintc_registers.specs.Settle.{sound as aintc_sound}
use Rattle.aintc_registers.specs.declared.Answer.{Answer as AintcAnswer}
use Rattle.aintc_registers.specs.Map.{access}
use Rattle.aintc_registers.specs.Model.{barred, access_number, read_number, write_number, read, write, step as aintc_step}
use Rattle.aintc.proofs.Promises.{kept as aintc}
use Rattle.kinds.proofs.KindLaws.{KindOf, is_aic, is_core, is_cic, is_aintc, is_indexed, is_none, kind_of}
use Rattle.machine.specs.declared.record.Machine.{Machine}
use Rattle.machine.specs.declared.Answer.{Answer}
use Rattle.machine.specs.Steps.{step}
use Rattle.machine.proofs.Promises.{kept as machine}
use Rattle.machine.proofs.StepLaws.{no_steps}

-- ---- by the tables of 01

reads_small : {ok : Bool} {o n : ℕ} {a : Access} → ReadTable ok o a n → n ≤ 12
reads_small {ok} {o} {n} {a} t = go ok a t (ℕ_discrete (o % 4) 0)
  where
    go : (k : Bool) (b : Access) → ReadTable k o b n → Dec (o % 4 ≡ 0) → n ≤ 12
    go false b u z = omega (arith, u.twelve.1 refl)
    go true b u (no d) = omega (arith, u.one.1 (refl, d))
    go true NoRegister u (yes z) = omega (arith, u.two.1 (refl, (z, refl)))
    go true ReadOnly u (yes z) = omega (arith, u.none.1 (refl, (z, inl refl)))
    go true WriteOnly u (yes z) = omega (arith, u.three.1 (refl, (z, refl)))
    go true ReadWrite u (yes z) = omega (arith, u.none.1 (refl, (z, inr refl)))

writes_small : {ok : Bool} {o v n : ℕ} {a : Access} → ValueNumber v → WriteTable ok o a v n → n ≤ 12
writes_small {ok} {o} {v} {n} {a} w t = go ok a t (ℕ_discrete (o % 4) 0) w
  where
    go : (k : Bool) (b : Access) → WriteTable k o b v n → Dec (o % 4 ≡ 0) → ValueNumber v → n ≤ 12
    go false b u z q = omega (arith, u.twelve.1 refl)
    go true b u (no d) q = omega (arith, u.one.1 (refl, d))
    go true NoRegister u (yes z) q = omega (arith, u.two.1 (refl, (z, refl)))
    go true ReadOnly u (yes z) q = omega (arith, u.four.1 (refl, (z, refl)))
    go true WriteOnly u (yes z) (inl q) = omega (arith, u.none.1 (refl, (z, (inl refl, q))))
    go true WriteOnly u (yes z) (inr (inl q)) = omega (arith, u.five.1 (refl, (z, (inl refl, q))))
    go true WriteOnly u (yes z) (inr (inr q)) = omega (arith, u.six.1 (refl, (z, (inl refl, q))))
    go true ReadWrite u (yes z) (inl q) = omega (arith, u.none.1 (refl, (z, (inr refl, q))))
    go true ReadWrite u (yes z) (inr (inl q)) = omega (arith, u.five.1 (refl, (z, (inr refl, q))))
    go true ReadWrite u (yes z) (inr (inr q)) = omega (arith, u.six.1 (refl, (z, (inr refl, q))))

lines_small : {ok : Bool} {inputs k l n : ℕ} → LineTable ok inputs k l n → n ≤ 12
lines_small {ok} {inputs} {k} {l} {n} t = go ok t (dec_lt k inputs) (dec_lt 1 l)
  where
    go : (b : Bool) → LineTable b inputs k l n → Dec (k < inputs) → Dec (1 < l) → n ≤ 12
    go false u d e = omega (arith, u.twelve.1 refl)
    go true u (no d) e = omega (arith, u.six.1 (refl, inl (omega arith)))
    go true u (yes d) (yes e) = omega (arith, u.six.1 (refl, inr e))
    go true u (yes d) (no e) = omega (arith, u.none.1 (refl, (d, omega arith)))

-- ---- of each model

aic_small : (s : Aic) (x : Step) → (aic_step s x).refusal ≤ 12
aic_small s (Read o) = reads_small (aic.read_numbers s o)
aic_small s (Write o v) = writes_small (inl refl) (aic.write_numbers s o v)
aic_small s (Line k l) = lines_small (aic.line_numbers s k l)

core_small : (c : Core) (x : Step) → (core_step c x).refusal ≤ 12
core_small c (Read o) = reads_small (core.read_numbers c o)
core_small c (Write o v) = writes_small (inl refl) (core.write_numbers c o v)
core_small c (Line k l) = lines_small (core.line_numbers c k l)

cic_small : (c : Cic) (x : Step) → (cic_step c x).refusal ≤ 12
unfolding step_as
cic_small c (Read o) = reads_small (cic.read_numbers c o)
cic_small c (Write o v) = writes_small (value_number c (register_at o) v) (cic.write_numbers c o v)
cic_small c (Line k l) = lines_small (cic.line_numbers c k l)

indexed_small : (p : Prioritised) (x : Step) → (indexed_step p x).refusal ≤ 12
indexed_small p (Read o) = reads_small (indexed.read_numbers p o)
indexed_small p (Write o v) = writes_small (value_number p.cic (register_at o) v) (indexed.write_numbers p o v)
indexed_small p (Line k l) = lines_small (indexed.line_numbers p k l)

-- an AINTC also asks for the privilege (02, 2/12)
access_small : (ok : Bool) (p : ℕ) (bars : Bool) (n : ℕ) → n ≤ 12 → access_number ok p bars n ≤ 13
unfolding access_number
access_small ok p bars n h =
    let P : ℕ → Type 0 = λ m. m ≤ 13 in
    pick_cases P ok (λ e. pick_cases P (leb p 1) (λ f. pick_cases P bars (λ g. omega arith) (λ g. omega arith)) (λ f. omega arith)) (λ e. omega arith)

aintc_small : (s : Aintc) (p : ℕ) (x : Step) → (aintc_step s p x).refusal ≤ 13
unfolding read write read_number write_number
aintc_small s p (Read o) =
    pick_cases (λ (a : AintcAnswer). a.refusal ≤ 13) (eqb (read_number s p o) 0) (λ e. omega arith)
    (λ e. access_small (aintc_sound s) p (barred s.guarded p o) _ (reads_small (checks.reads true o (access o))))
aintc_small s p (Write o v) =
    pick_cases (λ (a : AintcAnswer). a.refusal ≤ 13) (eqb (write_number s p o) 0) (λ e. omega arith)
    (λ e. access_small (aintc_sound s) p (barred s.guarded p o) _ (writes_small (inl refl) (checks.writes true o (access o) 0 (inl refl))))
aintc_small s p (Line k l) = omega (arith, lines_small (aintc.line_numbers s k l))

-- ---- of a machine

number : {a b : Answer} → a ≡ b → b.refusal ≤ 13 → a.refusal < 2 ^ 8
number e h = omega (arith, ap (λ (c : Answer). c.refusal) e, h)

pub refusal-fits : (m : Machine) (x : Recorded) → (step m x).refusal < 2 ^ 8
refusal-fits m x = go (kind_of m.kind)
  where
    go : KindOf m.kind → (step m x).refusal < 2 ^ 8
    go (is_aic k) = number (machine.aic_steps m x k) (omega (arith, aic_small m.aic x.step))
    go (is_core k) = number (machine.core_steps m x k) (omega (arith, core_small m.core x.step))
    go (is_cic k) = number (machine.cic_steps m x k) (omega (arith, cic_small m.cic x.step))
    go (is_aintc k) = number (machine.aintc_steps m x k) (aintc_small m.aintc x.privilege x.step)
    go (is_indexed k) = number (machine.indexed_steps m x k) (omega (arith, indexed_small (record { cic = m.cic; held = m.held }) x.step))
    go (is_none a b c d e) = number (no_steps m x a b c d e) (omega arith)
