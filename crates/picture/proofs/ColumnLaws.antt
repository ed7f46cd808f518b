-- The columns of a window, one by one.
use Prim.Native.Nat.{ℕ, suc, ◌+◌, ◌-◌, ◌*◌, ◌≤◌, min}
use mathlib.Core.Path.{◌≡◌, refl, sym, ap, ◌∙◌}
use mathlib.Core.Bool.{Bool}
use mathlib.Core.List.{List, [], ◌∷◌}
use native.Mathlib.Omega.{arith}
use lib.ListN.{length, take, drop, length-take}
use lib.Seq.{length-take-le}
use Rattle.words.specs.Counting.{one}
use Rattle.steps.specs.declared.Recorded.{Recorded}
use Rattle.text.specs.Text.{write, laid}
use Rattle.text.proofs.WriteLaws.{rest_of, nothing, write-laid}
use Rattle.trace.specs.declared.Turn.TheVariants.{Found, Ended}
use Rattle.trace.specs.Trace.{Trace, turn_at, steps_from}
use Rattle.trace.proofs.TraceLaws.{trace-ended, trace_found, steps_limited}
use Rattle.aic_record.specs.declared.Aic.{Aic}
use Rattle.aic_record.specs.Last.{last_source, last_level}
use Rattle.aic.specs.declared.Signals.{Signals}
use Rattle.aic.specs.Model.{outputs}
use Rattle.machine.specs.declared.record.Machine.{Machine}
use Rattle.machine.specs.RecordPromises.{Ready}
use Rattle.machine.specs.declared.Answer.{Answer}
use Rattle.machine.specs.Steps.{step}
use Rattle.beginning.specs.declared.reports.Played.{Played}
use Rattle.beginning.specs.Play.{run_of, report}
use Rattle.beginning.proofs.PlayLaws.{run-ready}
use Rattle.drawing.specs.Bars.{packed}
use Rattle.picture.specs.Window.{column_of, columns_from, within, before, columns_of}
use Rattle.picture.proofs.StepsLaws.{steps-take, steps-drop, steps-most}

-- the fields together are the column
pub packs : (s : Aic) (refusal : ℕ) (o : Signals) (irq fiq source level w : ℕ) → o ≡ outputs s → source ≡ last_source s → level ≡ last_level s → irq ≡ one o.irq
    → fiq ≡ one o.fiq → w ≡ irq + 2 * fiq + 4 * o.entries + 64 * source + 2048 * level + 524288 * refusal → w ≡ packed (column_of refusal s)
packs s refusal o irq fiq source level w e a b i f h = h ∙ rw (i, f, a, b, e)

-- ---- the turns of the loop

module _ (m : Machine) (told : Bool) (left : ℕ) (s : List ℕ) (at : ℕ) where
  -- the end
  pub put_ended : (o p : List ℕ × ℕ) (n q : ℕ) → turn_at told s at left ≡ Ended n q → write p (columns_from m (steps_from told left s at).steps) ≡ o → p ≡ o
  unfolding columns_from
  put_ended o p n q e g = nothing p ∙ ap (λ (t : Trace). write p (columns_from m t.steps)) (sym (trace-ended told left s at n q e)) ∙ g

  -- a step: a is what it answers, w its column, and r the columns with it
  pub put_found : (o p r : List ℕ × ℕ) (x : Recorded) (next : ℕ) (a : Answer) (w : ℕ) → turn_at told s at left ≡ Found x next → a ≡ step m x
      → w ≡ packed (column_of a.refusal a.machine.aic) → r ≡ write p (w ∷ []) → write p (columns_from m (steps_from told left s at).steps) ≡ o
      → write r (columns_from a.machine (steps_from told (left - 1) s next).steps) ≡ o
  put_found o p r x next a w e f h i g = rest_of p r (w ∷ []) _ i ∙ ap (write p) (rw (h, f) whole) ∙ g
    where
      whole : packed (column_of (step m x).refusal (step m x).machine.aic) ∷ columns_from (step m x).machine (steps_from told (left - 1) s next).steps
          ≡ columns_from m (steps_from told left s at).steps
      whole = rw (trace_found told left s at x next e) (unfold columns_from in refl)

-- ---- the whole

-- the machine before the window is ready for its steps
pub played-ready : (p : Played) (m : Machine) (t : Trace) → p ≡ report 0 m t → Ready m → Ready p.machine
unfolding report
played-ready p m t e r = rw e (run-ready m t.steps r)

module _ (limit first steps : ℕ) (told : Bool) (s : List ℕ) (start : ℕ) (m : Machine) (l : 1 ≤ first) (h : first ≤ length (steps_from told limit s start).steps) where
  abbrev xs : List Recorded
  xs = (steps_from told limit s start).steps

  few : first - 1 ≤ limit
  few = omega (arith, steps_limited told limit s start)

  -- the steps before the window
  earlier : take (first - 1) xs ≡ (steps_from told (first - 1) s start).steps
  earlier = steps-take told (first - 1) limit s start few

  as_many : length (steps_from told (first - 1) s start).steps ≡ first - 1
  as_many = ap (λ (r : List Recorded). length r) (sym earlier) ∙ length-take-le (first - 1) xs (omega arith)

  -- those of the window
  inside : within first steps xs ≡ (steps_from told (min steps (limit - (first - 1))) s (steps_from told (first - 1) s start).offset).steps
  inside =
      ap (take steps) (steps-drop told (limit - (first - 1)) (first - 1) limit s start (omega (arith, few)) as_many)
      ∙ steps-most told steps (limit - (first - 1)) s (steps_from told (first - 1) s start).offset

  -- the machine before it
  pub machine-before : (p : Played) → p ≡ report 0 m (steps_from told (first - 1) s start) → p.machine ≡ before first m xs
  unfolding report
  machine-before p e = rw e (ap (run_of m) (sym earlier))

  -- all its columns
  pub filled : (p : Played) (o q r : List ℕ) (next count w most : ℕ) → p ≡ report 0 m (steps_from told (first - 1) s start) → w ≡ packed (column_of 0 p.machine.aic)
      → (q, next) ≡ write (o, 0) (w ∷ []) → most ≡ min steps (limit - (first - 1))
      → (r, count) ≡ write (q, next) (columns_from p.machine (steps_from told most s p.offset).steps) → (r, count) ≡ laid o (columns_of first steps m xs)
  filled p o q r next count w most e f g i j = j ∙ rest_of (o, 0) (q, next) (w ∷ []) _ g ∙ ap (write (o, 0)) whole ∙ write-laid o (columns_of first steps m xs)
    where
      place : p.offset ≡ (steps_from told (first - 1) s start).offset
      place = ap (λ (y : Played). y.offset) e ∙ (unfold report in refl)

      whole : w ∷ columns_from p.machine (steps_from told most s p.offset).steps ≡ columns_of first steps m xs
      whole = rw (f, i, place, sym inside, machine-before p e) (unfold columns_of in refl)

-- ---- how many

columns-length : (m : Machine) (xs : List Recorded) → length (columns_from m xs) ≡ length xs
unfolding columns_from
columns-length m [] = refl
columns-length m (x ∷ xs) = ap suc (columns-length (step m x).machine xs)

-- one more than steps in the window
pub columns_many : (first steps : ℕ) (m : Machine) (xs : List Recorded) → length (columns_of first steps m xs) ≡ suc (length (within first steps xs))
unfolding columns_of
columns_many first steps m xs = ap suc (columns-length (before first m xs) (within first steps xs))

pub columns-most : (first steps : ℕ) (m : Machine) (xs : List Recorded) → length (columns_of first steps m xs) ≤ suc steps
columns-most first steps m xs = omega (arith, columns_many first steps m xs, length-take steps (drop (first - 1) xs))
