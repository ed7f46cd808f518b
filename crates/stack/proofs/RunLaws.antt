-- Along a run that keeps a table every open handler stands at the table's level.
use Prim.Native.Nat.{ℕ, ◌≤◌, ◌<◌}
use mathlib.Core.Path.{◌≡◌, refl, sym}
use mathlib.Core.Bool.{true, false, not}
use mathlib.Core.List.{List, [], ◌∷◌, ◌++◌}
use mathlib.Core.Logic.{◌⊎◌, inl, inr}
use native.Mathlib.Omega.{arith}
use lib.Dec.{eqb}
use lib.ListN.{get_or}
use borrow.Author.Tests.{eqb-false, not-true}
use Rattle.words.specs.Counting.{sum_below}
use Rattle.words.specs.Word.{bit}
use Rattle.words.proofs.TruthLaws.{and_left, and_right, or_neither, told}
use Rattle.steps.specs.declared.Step.{Step}
use Rattle.aic_record.specs.declared.Aic.{Aic}
use Rattle.aic_record.specs.Mode.{priority}
use Rattle.aic_record.specs.Sound.{source_at, level_below, sound}
use Rattle.aic_record.specs.Promises.{Shaped}
use Rattle.aic_record.proofs.SoundLaws.{seen-sound, sound-is}
use Rattle.aic_sources.specs.Fast.{fast}
use Rattle.aic_sources.specs.Normal.{candidates, chosen}
use Rattle.aic_sources.proofs.HandlerLaws.{candidate-waits, waiting-is, candidate-room}
use Rattle.aic_sources.proofs.OrderLaws.{chosen_is}
use Rattle.aic_registers.specs.Handlers.{opened, closed_last}
use Rattle.aic_registers.specs.Effects.{set_by}
use Rattle.aic.specs.Model.{step}
use Rattle.aic.proofs.HandlerLaws.{started-is, moded-is, moved-is}
use Rattle.aic.proofs.StepKindLaws.{kinds}
use Rattle.aic_runs.specs.Runs.{run}
use Rattle.aic_runs.proofs.SoundRuns.{run_sound}
use Rattle.stack.specs.declared.Table.{Table}
use Rattle.stack.specs.Bytes.{normal, stack_bytes, frame_of, open_bytes}
use Rattle.stack.specs.Promises.{NormalOf}
use Rattle.stack.proofs.BoundLaws.{bounded, pushed, shut, Fitted}
use Rattle.stack.proofs.Promises.{run_stays}
use Rattle.stack.specs.Kept.{keeps, keeps_along}
use Rattle.stack.specs.KeptPromises.{Matches, Stands, Bare}
use Rattle.stack.proofs.KeptLaws.{keeps-is, first-keeps, rest-keeps}
use Rattle.aic.proofs.Promises as Controller

-- ---- what is selected is enabled and not fast: it matches the table, and is a normal source of it

-- a source of a level: as `Fits` says it of an entry
abbrev At : Table → ℕ → ℕ → Type 0
At t j p = (j < 32) × (normal t j ≡ true) × (p ≡ get_or t.priority j 0)

match-normal : (t : Table) (s : Aic) (j : ℕ) → fast s j ≡ false → Matches t s j → normal t j ≡ true
unfolding fast normal
match-normal t s j f m =
    let z = or_neither (eqb j 0) (bit s.forced j) f in
    rw (z.0, sym (m.forcing (eqb-false j 0 z.0)), z.1)

chosen_at : (t : Table) (s : Aic) → keeps t s ≡ true → candidates s ≡ true → At t (chosen s) (priority s (chosen s))
unfolding priority
chosen_at t s k c =
    let b = (chosen_is s c).below in
    let w = waiting-is s (chosen s) (candidate-waits s (chosen s) (chosen_is s c).fit) in
    let m = (keeps-is t s).0 k (chosen s) b w.1 in
    (b, match-normal t s (chosen s) w.2 m, m.level)

-- ---- each step leaves such entries

-- of the record before the step alone
fits_law : (t : Table) (s : Aic) (x : Step) → Shaped s → keeps t s ≡ true → Fitted t s → Fitted t (step s x).aic
unfolding opened closed_last set_by
fits_law t s =
    kinds s (λ x u. Shaped s → keeps t s ≡ true → Fitted t s → Fitted t u)
    (record {
      still = λ x p h a f. f;
      store = λ o v e u m vs ok p q l h a f. f;
      fall = λ x w ok p q h a f. f;
      remode = λ o k v ok e l h a f. rw (moded-is s k v) f;
      reforce = λ o v g ok e z h a f. f;
      drop = λ o v m ok p l h a f. (f.0, λ w. absurd (omega arith));
      take = λ ok i c h a f.
          rw (started-is s (chosen s) (priority s (chosen s)))
          (pushed t s h f.0 (chosen s) (priority s (chosen s)) (candidate-room s (chosen s) (chosen_is s c).fit) (λ d. chosen_at t s a c), f.1);
      mark = λ ok i n l h a f. (pushed t s h f.0 0 (level_below s.level s.depth) l (λ d. absurd (d refl)), f.1);
      look = λ ok i c h a f. (f.0, λ _. chosen_at t s a c);
      look_none = λ ok i n h a f. (f.0, λ w. absurd (omega arith));
      begin = λ v ok i w h a f.
          rw (started-is s s.seen.source s.seen.level)
          (pushed t s h f.0 s.seen.source s.seen.level ((seen-sound s ok).room w) (λ d. f.1 w), λ z. absurd (omega arith));
      begin_mark = λ v ok i z w l h a f. (pushed t s h f.0 0 (level_below s.level s.depth) l (λ d. absurd (d refl)), λ z. absurd (omega arith));
      close = λ v ok d h a f. (shut t s h f.0 d, f.1);
      command = λ v ok h a f. f;
      move = λ k l ok m n h a f. rw (moved-is s k (eqb l 1)) f;
    })

along : (t : Table) (s : Aic) (xs : List Step) → Shaped s → Fitted t s → keeps_along t s xs ≡ true → Fitted t (run s xs)
unfolding run
along t s [] h f q = f
along t s (x ∷ xs) h f q =
    along t (step s x).aic xs ((Controller.kept).step_shaped s x h) (fits_law t s x h (first-keeps t s (x ∷ xs) q) f) (rest-keeps t s x xs q)

bare-fits : (t : Table) (s : Aic) → Bare s → Fitted t s
bare-fits t s b = (λ d l. absurd (omega (arith, b.0)), λ w. absurd (omega (arith, b.1)))

-- ---- what that says, field by field

at-normal : (t : Table) (j p : ℕ) → At t j p → NormalOf t p j
unfolding normal
at-normal t j p (l, n, e) = (
  omega (arith, eqb-false j 0 (not-true (eqb j 0) (and_left (not (eqb j 0)) _ n))),
  l,
  not-true (bit t.forced j) (and_right (not (eqb j 0)) _ n),
  sym e,
)

pub levels-kept : (t : Table) (s : Aic) (xs : List Step) → Shaped s → Bare s → keeps_along t s xs ≡ true → Stands t (run s xs)
levels-kept t s xs h b q =
    let f = along t s xs h (bare-fits t s b) q in
    record {
      handlers = λ d l z. at-normal t (get_or (run s xs).source d 0) (get_or (run s xs).level d 0) (f.0 d l z);
      remembered = λ w. at-normal t (run s xs).seen.source (run s xs).seen.level (f.1 w);
    }

-- ---- the open frames

fitted-bytes : (t : Table) (s : Aic) (xs : List Step) → Shaped s → Bare s → Fitted t (run s xs) → open_bytes t (run s xs) ≤ stack_bytes t
unfolding open_bytes
fitted-bytes t s xs h b f = go (told (sound s))
  where
    go : (sound s ≡ true) ⊎ (sound s ≡ false) → sum_below (run s xs).depth (λ d. frame_of t (source_at (run s xs) d)) ≤ stack_bytes t
    go (inl ok) = bounded t (run s xs) (sound-is (run s xs) (run_sound s xs h ok)) f.0
    go (inr e) = rw (run_stays s xs e, b.0) (unfold sum_below in (omega arith))

pub never-more-kept : (t : Table) (s : Aic) (xs : List Step) → Shaped s → Bare s → keeps_along t s xs ≡ true → open_bytes t (run s xs) ≤ stack_bytes t
never-more-kept t s xs h b q = fitted-bytes t s xs h b (along t s xs h (bare-fits t s b) q)

along_next : (t : Table) (s : Aic) (xs : List Step) (x : Step) → Shaped s → Fitted t s → keeps_along t s xs ≡ true → Fitted t (run s (xs ++ (x ∷ [])))
unfolding run
along_next t s [] x h f q = fits_law t s x h (first-keeps t s [] q) f
along_next t s (y ∷ ys) x h f q =
    along_next t (step s y).aic ys x ((Controller.kept).step_shaped s y h) (fits_law t s y h (first-keeps t s (y ∷ ys) q) f) (rest-keeps t s y ys q)

pub never-more_next : (t : Table) (s : Aic) (xs : List Step) (x : Step) → Shaped s → Bare s → keeps_along t s xs ≡ true
    → open_bytes t (run s (xs ++ (x ∷ []))) ≤ stack_bytes t
never-more_next t s xs x h b q = fitted-bytes t s (xs ++ (x ∷ [])) h b (along_next t s xs x h (bare-fits t s b) q)
