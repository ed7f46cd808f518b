-- The open frames never add up to more than the stack bytes.
use Prim.Native.Nat.{ℕ, zero, suc, ◌+◌, ◌-◌, ◌≤◌, ◌<◌, max}
use mathlib.Core.Path.{◌≡◌, refl, sym, ap, ◌∙◌}
use mathlib.Core.Bool.{Bool, true, false, not, ◌&&◌, ◌||◌}
use mathlib.Core.List.{List, [], ◌∷◌}
use mathlib.Core.Logic.{◌≢◌}
use native.Mathlib.Omega.{arith}
use native.Mathlib.Decide.{ℕ_discrete}
use lib.Dec.{eqb}
use lib.ListN.{get_or, set}
use lib.Seq.{get_or-set_same, get_or-set_other}
use borrow.Author.Tests.{eq-eqb, ne_eqb, not-true}
use Rattle.words.specs.Choice.{pick}
use Rattle.words.specs.Counting.{sum_below}
use Rattle.words.specs.Word.{bit}
use Rattle.words.proofs.TruthLaws.{and_left, and_right, clash}
use Rattle.steps.specs.declared.Step.{Step}
use Rattle.aic_record.specs.declared.Aic.{Aic}
use Rattle.aic_record.specs.declared.Seen.{Seen}
use Rattle.aic_record.specs.Mode.{priority}
use Rattle.aic_record.specs.Sound.{source_at, level_at, level_below}
use Rattle.aic_record.specs.Passes.{floor_over}
use Rattle.aic_record.specs.Promises.{Shaped, Rules}
use Rattle.aic_record.proofs.RankLaws.{floor-some, ranks_rise, ranks_small}
use Rattle.aic_record.proofs.SoundLaws.{seen-sound}
use Rattle.aic_sources.specs.Fast.{fast}
use Rattle.aic_sources.specs.Normal.{candidates, chosen}
use Rattle.aic_sources.proofs.HandlerLaws.{candidate-waits, waiting-is, candidate-room}
use Rattle.aic_sources.proofs.OrderLaws.{chosen_is}
use Rattle.aic_registers.specs.Handlers.{opened, closed_last}
use Rattle.aic_registers.specs.Effects.{set_by}
use Rattle.aic.specs.Model.{step}
use Rattle.aic.proofs.HandlerLaws.{started-is, moved-is}
use Rattle.aic.proofs.StepKindLaws.{kinds}
use Rattle.aic_runs.specs.Counted.{rewrites, steady}
use Rattle.aic_runs.specs.Runs.{run, always}
use Rattle.aic_runs.proofs.CountedLaws.{mode-rewrite, forcing-rewrite}
use Rattle.aic_runs.proofs.StepLaws.{modes_law}
use Rattle.stack.specs.declared.Table.{Table}
use Rattle.stack.specs.Bytes.{normal, is_of, taller, largest, level_bytes, stack_bytes, frame_of}
use Rattle.aic.proofs.Promises as Controller

-- ---- the largest of a level

module _ (t : Table) (l : ℕ) where
  grows : (n : ℕ) → largest t l n ≤ largest t l (suc n)
  unfolding largest taller pick
  grows n = go (is_of t l n)
    where
      go : (c : Bool) → largest t l n ≤ pick c (max (largest t l n) (get_or t.frame n 0)) (largest t l n)
      go true = omega arith
      go false = omega arith

  pub mark-fits : (n : ℕ) → t.mark ≤ largest t l n
  mark-fits zero = unfold largest in (omega arith)
  mark-fits (suc n) = omega (arith, mark-fits n, grows n)

  covers : (n : ℕ) → normal t n ≡ true → get_or t.priority n 0 ≡ l → get_or t.frame n 0 ≤ largest t l (suc n)
  unfolding largest taller is_of pick
  covers n a e = rw (a, eq-eqb (get_or t.priority n 0) l e) (omega arith)

  pub frame-fits : (n j : ℕ) → j < n → normal t j ≡ true → get_or t.priority j 0 ≡ l → get_or t.frame j 0 ≤ largest t l n
  frame-fits zero j h a e = absurd (omega arith)
  frame-fits (suc n) j h a e = go (ℕ_discrete j n) (λ m. frame-fits n j m a e)
    where
      go : Dec (j ≡ n) → (j < n → get_or t.frame j 0 ≤ largest t l n) → get_or t.frame j 0 ≤ largest t l (suc n)
      go (yes q) ih = rw q (covers n (rw (← q) a) (rw (← q) e))
      go (no q) ih = omega (arith, ih (omega arith), grows n)

-- ---- the entries, each a mark or of a normal source at its level

abbrev pub Fits : Table → List ℕ → List ℕ → ℕ → Type 0
Fits t source level depth =
    (d : ℕ) → d < depth → get_or source d 0 ≢ 0
    → (get_or source d 0 < 32) × (normal t (get_or source d 0) ≡ true) × (get_or level d 0 ≡ get_or t.priority (get_or source d 0) 0)

module _ (t : Table) where
  abbrev M : ℕ → ℕ
  M r = sum_below r (λ l. t.mark)

  abbrev T : ℕ → ℕ
  T r = sum_below r (level_bytes t)

  -- what the levels from r to p need over as many marks is not negative
  excess_to : (r p : ℕ) → r ≤ p → T r + M p ≤ T p + M r
  unfolding sum_below level_bytes
  excess_to r zero h = let e : r ≡ 0 = omega arith in rw e (omega arith)
  excess_to r (suc p) h = go (ℕ_discrete r (suc p)) (excess_to r p)
    where
      go : Dec (r ≡ suc p) → (r ≤ p → T r + M p ≤ T p + M r) → T r + (M p + t.mark) ≤ T p + level_bytes t p + M r
      go (yes e) ih = rw e (unfold sum_below in (omega arith))
      go (no e) ih = omega (arith, ih (omega arith), mark-fits t p 32)

  marks_up : (d k : ℕ) → d ≤ k → M d ≤ M k
  unfolding sum_below
  marks_up d zero h = let e : d ≡ 0 = omega arith in rw e (omega arith)
  marks_up d (suc k) h = go (ℕ_discrete d (suc k)) (marks_up d k)
    where
      go : Dec (d ≡ suc k) → (d ≤ k → M d ≤ M k) → M d ≤ M k + t.mark
      go (yes e) ih = rw e (unfold sum_below in (omega arith))
      go (no e) ih = omega (arith, ih (omega arith))

  frame_level : (j p : ℕ) → j ≢ 0 → j < 32 → normal t j ≡ true → get_or t.priority j 0 ≡ p → frame_of t j ≤ level_bytes t p
  unfolding frame_of level_bytes pick
  frame_level j p z l a e = rw (ne_eqb j 0 z) (frame-fits t p 32 j l a e)

  mark-frame : frame_of t 0 ≡ t.mark
  unfolding frame_of pick
  mark-frame = refl

  module _ (s : Aic) (r : Rules s) (f : Fits t s.source s.level s.depth) where
    abbrev S : ℕ → ℕ
    S d = sum_below d (λ i. frame_of t (source_at s i))

    abbrev rank : ℕ → ℕ
    rank d = floor_over (level_at s d)

    -- the frames of the first d entries, where q is no less than their ranks
    below : (d q : ℕ) → d ≤ s.depth → ((i : ℕ) → i < d → rank i ≤ q) → S d + M q ≤ T q + M d
    unfolding sum_below
    below zero q h top = omega (arith, excess_to 0 q (omega arith))
    below (suc d) q h top = go (ℕ_discrete (source_at s d) 0) (below d)
      where
        go : Dec (source_at s d ≡ 0) → ((p : ℕ) → d ≤ s.depth → ((i : ℕ) → i < d → rank i ≤ p) → S d + M p ≤ T p + M d)
            → S d + frame_of t (source_at s d) + M q ≤ T q + (M d + t.mark)
        go (yes e) ih = rw (e, mark-frame) (omega (arith, ih q (omega arith) (λ i l. top i (omega arith))))
        go (no z) ih =
            let a = f d (omega arith) z in
            real (level_at s d) refl (frame_level (source_at s d) (level_at s d) z a.0 a.1 (sym a.2))
          where
            real : (p : ℕ) → level_at s d ≡ p → frame_of t (source_at s d) ≤ level_bytes t p → S d + frame_of t (source_at s d) + M q ≤ T q + (M d + t.mark)
            real p e b =
                let v : rank d ≡ p + 1 = floor-some (level_at s d) (λ y. omega (arith, r.levels d (omega arith) z)) ∙ ap (λ (m : ℕ). m + 1) e in
                let g : T (suc p) + M q ≤ T q + M (suc p) = excess_to (suc p) q (omega (arith, top d (omega arith))) in
                let k : T p + level_bytes t p + M q ≤ T q + (M p + t.mark) = g in
                omega (arith, ih p (omega arith) (λ i l. omega (arith, ranks_rise s r i d l (omega arith) z)))

    pub bounded : S s.depth ≤ stack_bytes t
    unfolding stack_bytes
    bounded = omega (arith, below s.depth 8 (omega arith) (ranks_small s r), marks_up s.depth 8 r.entries)

-- ---- each step leaves such entries, while the modes and forcings are those of the table

pub record Agrees (t : Table) (s : Aic) : Type 0 where
  pub levels : (i : ℕ) → i < 32 → priority s i ≡ get_or t.priority i 0
  pub forcings : (i : ℕ) → i < 32 → fast s i ≡ not (normal t i)

-- the forced sources of a record that is set to the table
pub set-fast : (t : Table) (s : Aic) → ((i : ℕ) → 1 ≤ i → i < 32 → bit s.forced i ≡ bit t.forced i) → (i : ℕ) → i < 32 → fast s i ≡ not (normal t i)
unfolding fast normal
set-fast t s f i l = go (ℕ_discrete i 0)
  where
    twice : (b : Bool) → b ≡ not (not b)
    twice true = refl
    twice false = refl

    go : Dec (i ≡ 0) → (eqb i 0 || bit s.forced i) ≡ not (not (eqb i 0) && not (bit t.forced i))
    go (yes e) = rw (eq-eqb i 0 e)
    go (no d) = rw (ne_eqb i 0 d, f i (omega arith) l) (twice (bit t.forced i))

chosen-normal : (t : Table) (s : Aic) → Agrees t s → candidates s ≡ true → normal t (chosen s) ≡ true
chosen-normal t s a c = go (normal t (chosen s)) (a.forcings (chosen s) (chosen_is s c).below) (waiting-is s (chosen s) (candidate-waits s (chosen s) (chosen_is s c).fit)).2
  where
    go : (x : Bool) → fast s (chosen s) ≡ not x → fast s (chosen s) ≡ false → x ≡ true
    go true e h = refl
    go false e h = clash e h

module _ (t : Table) (s : Aic) (h : Shaped s) (f : Fits t s.source s.level s.depth) where
  -- a mark, or a normal source at its level
  pub pushed : (j p : ℕ) → s.depth < 8 → (j ≢ 0 → (j < 32) × (normal t j ≡ true) × (p ≡ get_or t.priority j 0))
      → Fits t (set s.source s.depth j) (set s.level s.depth p) (s.depth + 1)
  pushed j p room real d l = go (ℕ_discrete d s.depth)
    where
      go : Dec (d ≡ s.depth) → get_or (set s.source s.depth j) d 0 ≢ 0
          → (get_or (set s.source s.depth j) d 0 < 32) × (normal t (get_or (set s.source s.depth j) d 0) ≡ true)
          × (get_or (set s.level s.depth p) d 0 ≡ get_or t.priority (get_or (set s.source s.depth j) d 0) 0)
      go (yes e) = rw (e, get_or-set_same s.source s.depth j 0 (omega (arith, h.2)), get_or-set_same s.level s.depth p 0 (omega (arith, h.3))) real
      go (no e) = rw (get_or-set_other s.source s.depth d j 0 e, get_or-set_other s.level s.depth d p 0 e) (f d (omega arith))

  pub shut : s.depth ≢ 0 → Fits t (set s.source (s.depth - 1) 0) (set s.level (s.depth - 1) 0) (s.depth - 1)
  shut z d l = rw (get_or-set_other s.source (s.depth - 1) d 0 0 (omega arith), get_or-set_other s.level (s.depth - 1) d 0 0 (omega arith)) (f d (omega arith))

-- a source that is remembered is a normal one at its level (02, 9/12)
abbrev pub Recalled : Table → Seen → Type 0
Recalled t n = n.what ≡ 1 → (n.source < 32) × (normal t n.source ≡ true) × (n.level ≡ get_or t.priority n.source 0)

abbrev pub Fitted : Table → Aic → Type 0
Fitted t s = Fits t s.source s.level s.depth × Recalled t s.seen

fits_law : (t : Table) (s : Aic) (x : Step) → Shaped s → Agrees t s → Fitted t s → rewrites s x ≡ false → Fitted t (step s x).aic
unfolding opened closed_last set_by
fits_law t s =
    kinds s (λ x u. Shaped s → Agrees t s → Fitted t s → rewrites s x ≡ false → Fitted t u)
    (record {
      still = λ x p h a f r. f;
      store = λ o v e u m vs ok p q l h a f r. f;
      fall = λ x w ok p q h a f r. f;
      remode = λ o k v ok e l h a f r. clash (mode-rewrite s o k v ok e l) r;
      reforce = λ o v g ok e z h a f r. clash (forcing-rewrite s o v ok e) r;
      drop = λ o v m ok p l h a f r. (f.0, λ w. absurd (omega arith));
      take = λ ok i c h a f r.
          rw (started-is s (chosen s) (priority s (chosen s))) (
            pushed t s h f.0 (chosen s) (priority s (chosen s)) (candidate-room s (chosen s) (chosen_is s c).fit)
                (λ d. ((chosen_is s c).below, chosen-normal t s a c, a.levels (chosen s) (chosen_is s c).below)),
            f.1,
          );
      mark = λ ok i n l h a f r. (pushed t s h f.0 0 (level_below s.level s.depth) l (λ d. absurd (d refl)), f.1);
      look = λ ok i c h a f r. (f.0, λ _. ((chosen_is s c).below, chosen-normal t s a c, a.levels (chosen s) (chosen_is s c).below));
      look_none = λ ok i n h a f r. (f.0, λ w. absurd (omega arith));
      begin = λ v ok i w h a f r.
          rw (started-is s s.seen.source s.seen.level)
          (pushed t s h f.0 s.seen.source s.seen.level ((seen-sound s ok).room w) (λ d. f.1 w), λ z. absurd (omega arith));
      begin_mark = λ v ok i z w l h a f r. (pushed t s h f.0 0 (level_below s.level s.depth) l (λ d. absurd (d refl)), λ z. absurd (omega arith));
      close = λ v ok d h a f r. (shut t s h f.0 d, f.1);
      command = λ v ok h a f r. f;
      move = λ k l ok m n h a f r. rw (moved-is s k (eqb l 1)) f;
    })

pub agrees_law : (t : Table) (s : Aic) (x : Step) → rewrites s x ≡ false → Agrees t s → Agrees t (step s x).aic
unfolding priority fast
agrees_law t s x r a =
    let m = modes_law s x r in
    record { levels = λ i l. rw m.0 (a.levels i l); forcings = λ i l. rw m.1 (a.forcings i l) }

not_rewritten : (s : Aic) (x : Step) → steady s x ≡ true → rewrites s x ≡ false
unfolding steady
not_rewritten s x h = not-true (rewrites s x) h

pub along : (t : Table) (s : Aic) (xs : List Step) → Shaped s → Agrees t s → Fitted t s → always steady s xs ≡ true → Fitted t (run s xs)
unfolding run always
along t s [] h a f q = f
along t s (x ∷ xs) h a f q =
    let r = not_rewritten s x (and_left (steady s x) _ q) in
    along t (step s x).aic xs ((Controller.kept).step_shaped s x h) (agrees_law t s x r a) (fits_law t s x h a f r) (and_right (steady s x) _ q)
