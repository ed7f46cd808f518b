-- What the columns of a window show, and how many there are.
use Prim.Native.Nat.{ℕ, zero, suc, ◌-◌, ◌%◌, ◌<◌, ◌≤◌, min}
use mathlib.Core.Path.{◌≡◌, refl, sym, ap, ◌∙◌}
use mathlib.Core.Bool.{Bool, true, false}
use mathlib.Core.List.{List, [], ◌∷◌, ◌++◌}
use mathlib.Core.Logic.{inl, inr}
use native.Mathlib.Decide.{ℕ_discrete, dec_lt}
use native.Mathlib.Omega.{arith}
use lib.ListN.{length, get_or, take, drop, length-take, length-drop}
use lib.Seq.{take-append_seam, drop-append_seam}
use Rattle.words.proofs.CountingLaws.{one_le}
use Rattle.steps.specs.declared.Access.{Access}
use Rattle.steps.specs.declared.Access.TheVariants.{NoRegister, ReadOnly, WriteOnly, ReadWrite}
use Rattle.steps.specs.declared.Recorded.{Recorded}
use Rattle.steps.specs.declared.Step.{Step}
use Rattle.steps.specs.declared.Step.TheVariants.{Read, Write, Line}
use Rattle.steps.specs.Tables.{ReadTable, WriteTable, LineTable}
use Rattle.aic_record.specs.declared.Aic.{Aic}
use Rattle.aic_record.specs.Sound.{sound}
use Rattle.aic_record.proofs.SoundLaws.{sound-is}
use Rattle.aic_record.proofs.LastPromises.{kept as last}
use Rattle.aic_registers.specs.Map.{access}
use Rattle.aic.specs.declared.Signals.{Signals}
use Rattle.aic.specs.Model.{step as aic_step, outputs}
use Rattle.aic.proofs.Promises.{kept as aic}
use Rattle.kinds.specs.Kinds.{aic_kind}
use Rattle.machine.specs.declared.record.Machine.{Machine}
use Rattle.machine.specs.RecordPromises.{Ready}
use Rattle.machine.proofs.MachineLaws.{sound_aic}
use Rattle.machine.specs.declared.Answer.{Answer}
use Rattle.machine.specs.Steps.{step}
use Rattle.machine.proofs.StepLaws.{aic_steps, step-ready, step-kind}
use Rattle.beginning.specs.Play.{run_of}
use Rattle.beginning.proofs.PlayLaws.{run-ready}
use Rattle.drawing.specs.Bars.{Column, packed, column, column_at, entries_at}
use Rattle.drawing.specs.Promises.{Small}
use Rattle.drawing.proofs.Promises.{kept as drawing}
use Rattle.picture.specs.Window.{column_of, columns_from, within, before, columns_of}
use Rattle.picture.specs.Promises.{Shows}
use Rattle.picture.proofs.ColumnLaws.{columns_many}

-- ---- the number of a refusal is small

reads_small : (ok : Bool) (o : ℕ) (a : Access) (n : ℕ) → ReadTable ok o a n → n ≤ 12
reads_small false o a n t = omega (arith, t.twelve.1 refl)
reads_small true o a n t = go a t (ℕ_discrete (o % 4) 0)
  where
    go : (a : Access) → ReadTable true o a n → Dec (o % 4 ≡ 0) → n ≤ 12
    go a t (no d) = omega (arith, t.one.1 (refl, d))
    go NoRegister t (yes z) = omega (arith, t.two.1 (refl, (z, refl)))
    go ReadOnly t (yes z) = omega (arith, t.none.1 (refl, (z, inl refl)))
    go WriteOnly t (yes z) = omega (arith, t.three.1 (refl, (z, refl)))
    go ReadWrite t (yes z) = omega (arith, t.none.1 (refl, (z, inr refl)))

writes_small : (ok : Bool) (o : ℕ) (a : Access) (n : ℕ) → WriteTable ok o a 0 n → n ≤ 12
writes_small false o a n t = omega (arith, t.twelve.1 refl)
writes_small true o a n t = go a t (ℕ_discrete (o % 4) 0)
  where
    go : (a : Access) → WriteTable true o a 0 n → Dec (o % 4 ≡ 0) → n ≤ 12
    go a t (no d) = omega (arith, t.one.1 (refl, d))
    go NoRegister t (yes z) = omega (arith, t.two.1 (refl, (z, refl)))
    go ReadOnly t (yes z) = omega (arith, t.four.1 (refl, (z, refl)))
    go WriteOnly t (yes z) = omega (arith, t.none.1 (refl, (z, (inl refl, refl))))
    go ReadWrite t (yes z) = omega (arith, t.none.1 (refl, (z, (inr refl, refl))))

lines_small : (ok : Bool) (k l n : ℕ) → LineTable ok 32 k l n → n ≤ 12
lines_small false k l n t = omega (arith, t.twelve.1 refl)
lines_small true k l n t = go (dec_lt k 32) (dec_lt 1 l)
  where
    go : Dec (k < 32) → Dec (1 < l) → n ≤ 12
    go (no d) e = omega (arith, t.six.1 (refl, inl (omega arith)))
    go (yes d) (yes e) = omega (arith, t.six.1 (refl, inr e))
    go (yes d) (no e) = omega (arith, t.none.1 (refl, (d, omega arith)))

step_small : (s : Aic) (x : Step) → (aic_step s x).refusal ≤ 12
step_small s (Read o) = reads_small (sound s) o (access o) _ (aic.read_numbers s o)
step_small s (Write o v) = writes_small (sound s) o (access o) _ (aic.write_numbers s o v)
step_small s (Line k l) = lines_small (sound s) k l _ (aic.line_numbers s k l)

pub refusal_small : (m : Machine) (x : Recorded) → m.kind ≡ aic_kind → (step m x).refusal ≤ 12
refusal_small m x k = omega (arith, ap (λ (a : Answer). a.refusal) (aic_steps m x k), step_small m.aic x.step)

-- ---- a column shows its record

module _ (m : Machine) (r : Ready m) (k : m.kind ≡ aic_kind) where
  ok : sound m.aic ≡ true
  ok = sound_aic m k ∙ r.0

  entries_are : (outputs m.aic).entries ≡ m.aic.depth
  entries_are = ap (λ (o : Signals). o.entries) (aic.outputs_sound m.aic ok)

  small : (n : ℕ) → n ≤ 12 → Small (column_of n m.aic)
  small n h =
      record {
        irq = one_le (outputs m.aic).irq;
        fiq = one_le (outputs m.aic).fiq;
        entries = omega (arith, entries_are, (sound-is m.aic ok).entries);
        source = (last.small m.aic ok).0;
        level = (last.small m.aic ok).1;
        refusal = omega arith;
      }

  pub shows : (w n : ℕ) → n ≤ 12 → w ≡ packed (column_of n m.aic) → Shows (column w) m.aic n
  shows w n h e =
      let b : column w ≡ column_of n m.aic = ap column e ∙ drawing.back (column_of n m.aic) (small n h) in
      record {
        irq = ap (λ (c : Column). c.irq) b;
        fiq = ap (λ (c : Column). c.fiq) b;
        entries = ap (λ (c : Column). c.entries) b ∙ entries_are;
        source = ap (λ (c : Column). c.source) b;
        level = ap (λ (c : Column). c.level) b;
        refusal = ap (λ (c : Column). c.refusal) b;
      }

  few : (w n : ℕ) → n ≤ 12 → w ≡ packed (column_of n m.aic) → (column w).entries ≤ 8
  few w n h e = omega (arith, (shows w n h e).entries, (sound-is m.aic ok).entries)

-- ---- which column is whose

pub run_append : (m : Machine) (a b : List Recorded) → run_of m (a ++ b) ≡ run_of (run_of m a) b
unfolding run_of
run_append m [] b = refl
run_append m (x ∷ a) b = run_append (step m x).machine a b

pub run-kind : (m : Machine) (xs : List Recorded) → (run_of m xs).kind ≡ m.kind
unfolding run_of
run-kind m [] = refl
run-kind m (x ∷ xs) = run-kind (step m x).machine xs ∙ step-kind m x

column-from : (m : Machine) (a xs : List Recorded) (x : Recorded)
    → get_or (columns_from m (a ++ (x ∷ xs))) (length a) 0 ≡ packed (column_of (step (run_of m a) x).refusal (step (run_of m a) x).machine.aic)
unfolding columns_from run_of
column-from m [] xs x = refl
column-from m (y ∷ a) xs x = column-from (step m y).machine a xs x

-- what is taken as far as x and beyond
taken : (n : ℕ) (a xs : List Recorded) (x : Recorded) → length a < n → (ys : List Recorded) × (take n (a ++ (x ∷ xs)) ≡ a ++ (x ∷ ys))
taken zero a xs x l = absurd (omega arith)
taken (suc n) [] xs x l = (take n xs, refl)
taken (suc n) (y ∷ a) xs x l =
    let t = taken n a xs x (omega arith) in
    (t.0, ap (λ (r : List Recorded). y ∷ r) t.1)

-- the window after the steps b
module _ (steps : ℕ) (m : Machine) (b xs : List Recorded) where
  pred : suc (length b) - 1 ≡ length b
  pred = omega arith

  pub before-is : before (suc (length b)) m (b ++ xs) ≡ run_of m b
  before-is = rw pred (ap (run_of m) (take-append_seam b xs))

  within-is : within (suc (length b)) steps (b ++ xs) ≡ take steps xs
  within-is = rw pred (ap (take steps) (drop-append_seam b xs))

  columns_are : columns_of (suc (length b)) steps m (b ++ xs) ≡ packed (column_of 0 (run_of m b).aic) ∷ columns_from (run_of m b) (take steps xs)
  unfolding columns_of
  columns_are = rw (before-is, within-is)

pub before-all : (steps : ℕ) (m : Machine) (b xs : List Recorded) → Ready m → m.kind ≡ 0 → Shows (column_at (columns_of (suc (length b)) steps m (b ++ xs)) 0) (run_of m b).aic 0
before-all steps m b xs r k =
    shows (run_of m b) (run-ready m b r) (run-kind m b ∙ k) _ 0 (omega arith) (ap (λ (ws : List ℕ). get_or ws 0 0) (columns_are steps m b xs))

pub after-each : (steps : ℕ) (m : Machine) (b a : List Recorded) (x : Recorded) (xs : List Recorded) → Ready m → m.kind ≡ 0 → length a < steps
    → Shows (column_at (columns_of (suc (length b)) steps m (b ++ (a ++ (x ∷ xs)))) (suc (length a))) (step (run_of m (b ++ a)) x).machine.aic (step (run_of m (b ++ a)) x).refusal
after-each steps m b a x xs r k l =
    let t = taken steps a xs x l in
    let n = run_of m (b ++ a) in
    let z = run-kind m (b ++ a) ∙ k in
    let e : get_or (columns_of (suc (length b)) steps m (b ++ (a ++ (x ∷ xs)))) (suc (length a)) 0 ≡ packed (column_of (step n x).refusal (step n x).machine.aic) =
    ap (λ (ws : List ℕ). get_or ws (suc (length a)) 0) (columns_are steps m b (a ++ (x ∷ xs)))
    ∙ ap (λ (ys : List Recorded). get_or (columns_from (run_of m b) ys) (length a) 0) t.1
    ∙ column-from (run_of m b) a t.0 x
    ∙ ap (λ (q : Machine). packed (column_of (step q x).refusal (step q x).machine.aic)) (sym (run_append m b a))
    in
    shows (step n x).machine (step-ready n x (run-ready m (b ++ a) r)) (step-kind n x ∙ z) _ (step n x).refusal (refusal_small n x z) e

-- ---- eight entries

eight-from : (m : Machine) (xs : List Recorded) (k : ℕ) → Ready m → m.kind ≡ 0 → entries_at (columns_from m xs) k ≤ 8
unfolding columns_from
eight-from m [] k r z = omega arith
eight-from m (x ∷ xs) zero r z = few (step m x).machine (step-ready m x r) (step-kind m x ∙ z) _ (step m x).refusal (refusal_small m x z) refl
eight-from m (x ∷ xs) (suc k) r z = eight-from (step m x).machine xs k (step-ready m x r) (step-kind m x ∙ z)

pub eight : (first steps : ℕ) (m : Machine) (xs : List Recorded) (k : ℕ) → Ready m → m.kind ≡ 0 → entries_at (columns_of first steps m xs) k ≤ 8
unfolding columns_of
eight first steps m xs zero r z =
    let b = take (first - 1) xs in
    few (run_of m b) (run-ready m b r) (run-kind m b ∙ z) _ 0 (omega arith) refl
eight first steps m xs (suc k) r z =
    let b = take (first - 1) xs in
    eight-from (run_of m b) (within first steps xs) k (run-ready m b r) (run-kind m b ∙ z)

pub many : (first steps : ℕ) (m : Machine) (xs : List Recorded) → length (columns_of first steps m xs) ≡ suc (min steps (length xs - (first - 1)))
many first steps m xs = columns_many first steps m xs ∙ ap suc (length-take steps (drop (first - 1) xs) ∙ ap (min steps) (length-drop (first - 1) xs))
