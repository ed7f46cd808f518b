-- The bars of a window's columns are as many as its steps open, and as outlast its first step.
use Prim.Native.Nat.{ℕ, zero, suc, ◌+◌, ◌-◌, ◌≤◌, min}
use mathlib.Core.Path.{◌≡◌, refl, sym, ap, ap₂, ◌∙◌}
use mathlib.Core.Bool.{Bool}
use mathlib.Core.List.{List, [], ◌∷◌, ◌++◌}
use native.Mathlib.Omega.{arith}
use lib.Dec.{ltb}
use lib.ListN.{length, get_or, take, drop}
use lib.Seq.{take-suc, drop-cons}
use Rattle.words.specs.Counting.{one}
use Rattle.steps.specs.declared.Recorded.{Recorded}
use Rattle.steps.specs.declared.Step.TheVariants.{Read}
use Rattle.kinds.specs.Kinds.{aic_kind}
use Rattle.machine.specs.declared.record.Machine.{Machine}
use Rattle.machine.specs.RecordPromises.{Ready}
use Rattle.machine.specs.Steps.{step}
use Rattle.machine.proofs.StepLaws.{step-ready, step-kind}
use Rattle.beginning.specs.Play.{run_of}
use Rattle.beginning.proofs.PlayLaws.{run-ready}
use Rattle.drawing.specs.Bars.{packed, column, entries_at, opens}
use Rattle.drawing.specs.Promises.{openings}
use Rattle.picture.specs.Window.{column_of, columns_from, within, before, columns_of}
use Rattle.picture.proofs.ColumnLaws.{columns_many}
use Rattle.picture.proofs.ShownLaws.{refusal_small, shows, run_append, run-kind}
use Rattle.picture.specs.Promises.{opened_in}

-- ---- lists

at_next : (pre : List ℕ) (w : ℕ) (cs : List ℕ) → get_or (pre ++ (w ∷ cs)) (length pre) 0 ≡ w
at_next [] w cs = refl
at_next (p ∷ pre) w cs = at_next pre w cs

after_next : (pre : List ℕ) (w v : ℕ) (cs : List ℕ) → get_or (pre ++ (w ∷ (v ∷ cs))) (suc (length pre)) 0 ≡ v
after_next [] w v cs = refl
after_next (p ∷ pre) w v cs = after_next pre w v cs

shifted : (pre : List ℕ) (w : ℕ) (cs : List ℕ) → pre ++ (w ∷ cs) ≡ (pre ++ (w ∷ [])) ++ cs
shifted [] w cs = refl
shifted (p ∷ pre) w cs = ap (λ (l : List ℕ). p ∷ l) (shifted pre w cs)

one_longer : (pre : List ℕ) (w : ℕ) → length (pre ++ (w ∷ [])) ≡ suc (length pre)
one_longer [] w = refl
one_longer (p ∷ pre) w = ap suc (one_longer pre w)

-- ---- what the steps open

-- the columns of some steps stand after that of the machine before them
opened-run : (m : Machine) (xs : List Recorded) (pre : List ℕ) (w : ℕ) → Ready m → m.kind ≡ aic_kind → (column w).entries ≡ m.aic.depth
    → openings (length xs) (pre ++ (w ∷ columns_from m xs)) (suc (length pre)) ≡ opened_in m xs
unfolding openings opens opened_in columns_from
opened-run m [] pre w r k e = refl
opened-run m (x ∷ xs) pre w r k e =
    let n = (step m x).machine in
    let v = packed (column_of (step m x).refusal n.aic) in
    let ws = pre ++ (w ∷ (v ∷ columns_from n xs)) in
    let d : (column v).entries ≡ n.aic.depth = (shows n (step-ready m x r) (step-kind m x ∙ k) v (step m x).refusal (refusal_small m x k) refl).entries in
    let p : suc (length pre) - 1 ≡ length pre = omega arith in
    let q : suc (length pre) + 1 ≡ suc (length (pre ++ (w ∷ []))) = omega (arith, one_longer pre w) in
    let a : entries_at ws (suc (length pre) - 1) ≡ m.aic.depth =
    ap (λ (j : ℕ). entries_at ws j) p ∙ ap (λ (u : ℕ). (column u).entries) (at_next pre w (v ∷ columns_from n xs)) ∙ e in
    let b : entries_at ws (suc (length pre)) ≡ n.aic.depth = ap (λ (u : ℕ). (column u).entries) (after_next pre w v (columns_from n xs)) ∙ d in
    let rest : openings (length xs) ws (suc (length pre) + 1) ≡ opened_in n xs =
    ap₂ (λ (l : List ℕ) (j : ℕ). openings (length xs) l j) (shifted pre w (v ∷ columns_from n xs)) q
    ∙ opened-run n xs (pre ++ (w ∷ [])) v (step-ready m x r) (step-kind m x ∙ k) d in
    ap₂ (λ (t : Bool) (o : ℕ). one t + o) (ap₂ ltb a b) rest

-- ---- the window

-- what stands for a step where there is none
abbrev none : Recorded
none = record { step = Read 0; privilege = 1 }

head-column : (b : Machine) (steps : ℕ) (zs : List Recorded) (x : Recorded) (ys : List Recorded) → zs ≡ x ∷ ys → 1 ≤ steps
    → get_or (columns_from b (take steps zs)) 0 0 ≡ packed (column_of (step b x).refusal (step b x).machine.aic)
unfolding columns_from
head-column b zero zs x ys e l = absurd (omega arith)
head-column b (suc n) zs x ys e l = ap (λ (q : List Recorded). get_or (columns_from b (take (suc n) q)) 0 0) e

run-one : (m : Machine) (b : List Recorded) (x : Recorded) → run_of m (b ++ (x ∷ [])) ≡ (step (run_of m b) x).machine
run-one m b x = run_append m b (x ∷ []) ∙ (unfold run_of in refl)

module _ (first steps : ℕ) (m : Machine) (xs : List Recorded) (r : Ready m) (k : m.kind ≡ aic_kind) (l : 1 ≤ first) (h : first ≤ length xs) (g : 1 ≤ steps) where
  abbrev b : Machine
  b = run_of m (take (first - 1) xs)

  ready : Ready b
  ready = run-ready m (take (first - 1) xs) r

  kind : b.kind ≡ aic_kind
  kind = run-kind m (take (first - 1) xs) ∙ k

  -- the first step of the window
  abbrev x : Recorded
  x = get_or xs (first - 1) none

  after_first : before (suc first) m xs ≡ (step b x).machine
  after_first =
      let e : suc first - 1 ≡ suc (first - 1) = omega arith in
      ap (λ (n : ℕ). run_of m (take n xs)) e ∙ ap (run_of m) (take-suc xs (first - 1) none (omega arith)) ∙ run-one m (take (first - 1) xs) x

  columns : columns_of first steps m xs ≡ packed (column_of 0 b.aic) ∷ columns_from b (within first steps xs)
  columns = unfold columns_of in refl

  entries_0 : entries_at (columns_of first steps m xs) 0 ≡ b.aic.depth
  entries_0 = ap (λ (ws : List ℕ). entries_at ws 0) columns ∙ (shows b ready kind _ 0 (omega arith) refl).entries

  entries_1 : entries_at (columns_of first steps m xs) 1 ≡ (before (suc first) m xs).aic.depth
  entries_1 =
      ap (λ (ws : List ℕ). entries_at ws 1) columns
      ∙ (shows (step b x).machine (step-ready b x ready) (step-kind b x ∙ kind) _ (step b x).refusal (refusal_small b x kind)
      (head-column b steps (drop (first - 1) xs) x _ (drop-cons xs (first - 1) none (omega arith)) g)).entries
      ∙ ap (λ (q : Machine). q.aic.depth) (sym after_first)

  opened : openings (length (columns_of first steps m xs) - 1) (columns_of first steps m xs) 1 ≡ opened_in b (within first steps xs)
  opened =
      let e : length (columns_of first steps m xs) - 1 ≡ length (within first steps xs) = omega (arith, columns_many first steps m xs) in
      ap₂ (λ (n : ℕ) (ws : List ℕ). openings n ws 1) e columns
      ∙ opened-run b (within first steps xs) [] (packed (column_of 0 b.aic)) ready kind (shows b ready kind _ 0 (omega arith) refl).entries

  pub bars-run : min (entries_at (columns_of first steps m xs) 0) (entries_at (columns_of first steps m xs) 1) + openings (length (columns_of first steps m xs) - 1) (columns_of first steps m xs) 1
      ≡ min (before first m xs).aic.depth (before (suc first) m xs).aic.depth + opened_in (before first m xs) (within first steps xs)
  bars-run = ap₂ (λ (p q : ℕ). p + q) (ap₂ min entries_0 entries_1) opened
