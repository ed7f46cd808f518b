-- What each count says of a step, and what makes a step count: both ways, by offset.
use Prim.Native.Nat.{ℕ, ◌<◌}
use mathlib.Core.Path.{◌≡◌, refl, sym, ap}
use mathlib.Core.Bool.{Bool, true, false, not, ◌&&◌, ◌||◌, and-false}
use mathlib.Core.Logic.{◌↔◌, ◌≢◌, ◌⊎◌, inl, inr, ⊎_elim}
use lib.Dec.{eqb, ltb}
use borrow.Author.Tests.{eqb-true, eqb-false, eq-eqb, ne_eqb, ltb-true, lt-ltb, not-true, not-false}
use Rattle.words.specs.Word.{bit}
use Rattle.words.specs.Choice.{pick}
use Rattle.words.proofs.ChoiceLaws.{pick_true}
use Rattle.words.proofs.TruthLaws.{and_left, and_right, and_both, or_left, or_right, or-either, clash, told, not-holds}
use Rattle.steps.specs.declared.Step.{Step}
use Rattle.steps.specs.declared.Step.TheVariants.{Read, Write, Line}
use Rattle.aic_record.specs.declared.Aic.{Aic}
use Rattle.aic_record.specs.Mode.{priority, edge}
use Rattle.aic_record.specs.Sound.{protects}
use Rattle.aic_record.proofs.SoundLaws.{seen-sound}
use Rattle.aic_sources.specs.Pending.{pending, asking}
use Rattle.aic_sources.specs.Fast.{fast}
use Rattle.aic_sources.specs.Normal.{waiting, candidates, chosen}
use Rattle.aic_sources.proofs.HandlerLaws.{waiting-is}
use Rattle.aic_sources.proofs.OrderLaws.{chosen_none}
use Rattle.aic_registers.specs.Effects.{turns}
use Rattle.aic.specs.Model.{step}
use Rattle.aic_runs.specs.Counted.{carried, takes, begins, starts, started_by, level_of, recalls, carries, starts_of, starts_other, strays, closes, rises, edges, commands, rewrites, steady, waits}
use Rattle.aic_runs.specs.Tables.{Counts}
use Rattle.aic_runs.proofs.CountedLaws.{begins-is, chosen-room, read_close, line_close}

done : (s : Aic) (x : Step) → carried s x ≡ true → (step s x).refusal ≡ 0
unfolding carried
done s x h = eqb-true (step s x).refusal 0 h

carry_out : (s : Aic) (x : Step) → (step s x).refusal ≡ 0 → carried s x ≡ true
unfolding carried
carry_out s x h = eq-eqb (step s x).refusal 0 h

-- ---- starts

takes-says : (s : Aic) (x : Step) → takes s x ≡ true → (x ≡ Read 0x100) × ((step s x).refusal ≡ 0) × (protects s ≡ false)
unfolding takes
takes-says s (Read o) h =
    let r = and_left (carried s (Read o) && eqb o 0x100) (not (protects s)) h in (
      ap Read (eqb-true o 0x100 (and_right (carried s (Read o)) (eqb o 0x100) r)),
      done s (Read o) (and_left (carried s (Read o)) (eqb o 0x100) r),
      not-true (protects s) (and_right (carried s (Read o) && eqb o 0x100) (not (protects s)) h),
    )
takes-says s (Write o v) h = clash h refl
takes-says s (Line k l) h = clash h refl

begins-says : (s : Aic) (x : Step) → begins s x ≡ true → (v : ℕ) × (x ≡ Write 0x100 v) × ((step s x).refusal ≡ 0)
unfolding begins
begins-says s (Read o) h = clash h refl
begins-says s (Write o v) h =
    let w = and_left (carried s (Write o v) && eqb o 0x100) (protects s) (and_left (carried s (Write o v) && eqb o 0x100 && protects s) _ h) in (
      v,
      ap (λ (n : ℕ). Write n v) (eqb-true o 0x100 (and_right (carried s (Write o v)) (eqb o 0x100) w)),
      done s (Write o v) (and_left (carried s (Write o v)) (eqb o 0x100) w),
    )
begins-says s (Line k l) h = clash h refl

-- the two ways to start
abbrev Starting : Aic → Step → Type 0
Starting s x = ((x ≡ Read 0x100) × (bit s.debug 0 ≡ false)) ⊎ ((v : ℕ) × (x ≡ Write 0x100 v) × (bit s.debug 0 ≡ true) × (s.seen.what ≢ 0))

start-says : (s : Aic) (x : Step) → starts s x ≡ true → Starting s x × ((step s x).refusal ≡ 0) × (s.depth < 8)
unfolding starts
start-says s x h = go (or-either (takes s x) (begins s x) (and_left (takes s x || begins s x) (ltb s.depth 8) h))
  where
    room : s.depth < 8
    room = ltb-true s.depth 8 (and_right (takes s x || begins s x) (ltb s.depth 8) h)

    go : (takes s x ≡ true) ⊎ (begins s x ≡ true) → Starting s x × ((step s x).refusal ≡ 0) × (s.depth < 8)
    go (inl t) = let r = takes-says s x t in (inl (r.0, r.2), r.1, room)
    go (inr b) = let w = begins-says s x b in let i = begins-is s x b in (inr (w.0, w.1, i.1, i.2), w.2, room)

starts_if : (s : Aic) (x : Step) → Starting s x → (step s x).refusal ≡ 0 → s.depth < 8 → starts s x ≡ true
unfolding starts takes begins
starts_if s x (inl (e, out)) r l = rw e (and_both (or_left false (and_both (and_both (carry_out s (Read 0x100) (rw e at r)) refl) (ap not out))) (lt-ltb s.depth 8 l))
starts_if s x (inr (v, e, on, d)) r l =
    rw e
    (and_both (or_right false (and_both (and_both (and_both (carry_out s (Write 0x100 v) (rw e at r)) refl) on) (ap not (ne_eqb s.seen.what 0 d))))
    (lt-ltb s.depth 8 l))

-- outside protect mode a start is a read, in it a write
start-takes : (s : Aic) (x : Step) → starts s x ≡ true → protects s ≡ false → takes s x ≡ true
unfolding starts
start-takes s x h out =
    ⊎_elim (λ (t : takes s x ≡ true). t) (λ (b : begins s x ≡ true). clash (begins-is s x b).1 out)
    (or-either (takes s x) (begins s x) (and_left (takes s x || begins s x) (ltb s.depth 8) h))

start-begins : (s : Aic) (x : Step) → starts s x ≡ true → protects s ≡ true → begins s x ≡ true
unfolding starts
start-begins s x h on =
    ⊎_elim (λ (t : takes s x ≡ true). clash on (takes-says s x t).2) (λ (b : begins s x ≡ true). b)
    (or-either (takes s x) (begins s x) (and_left (takes s x || begins s x) (ltb s.depth 8) h))

takes_none : (s : Aic) (x : Step) → protects s ≡ true → takes s x ≡ false
takes_none s x on = not-holds (takes s x) (λ t. clash on (takes-says s x t).2)

start-chosen : (s : Aic) (x : Step) → starts s x ≡ true → protects s ≡ false → (started_by s x ≡ chosen s) × (level_of s x ≡ priority s (chosen s))
unfolding started_by level_of
start-chosen s x h out = (sym (pick_true _ (start-takes s x h out)), sym (pick_true _ (start-takes s x h out)))

start_seen : (s : Aic) (x : Step) → starts s x ≡ true → protects s ≡ true → s.seen.what ≡ 1 → (started_by s x ≡ s.seen.source) × (level_of s x ≡ s.seen.level)
unfolding started_by level_of pick
start_seen s x h on w = rw (takes_none s x on, start-begins s x h on, eq-eqb s.seen.what 1 w) (refl, refl)

start-mark : (s : Aic) (x : Step) → starts s x ≡ true → protects s ≡ true → s.seen.what ≢ 1 → started_by s x ≡ 32
unfolding started_by pick
start-mark s x h on d = rw (takes_none s x on, ne_eqb s.seen.what 1 d, and-false (begins s x))

start_none : (s : Aic) (x : Step) → starts s x ≡ false → started_by s x ≡ 32
unfolding starts started_by pick
start_none s x h = go (takes s x) refl (begins s x) refl (eqb s.seen.what 1) refl (told (candidates s))
  where
    full : (takes s x || begins s x) ≡ true → s.depth < 8 → ⊥
    full e l = clash (and_both e (lt-ltb s.depth 8 l)) h

    go : (a : Bool) → takes s x ≡ a → (b : Bool) → begins s x ≡ b → (c : Bool) → eqb s.seen.what 1 ≡ c → (candidates s ≡ true) ⊎ (candidates s ≡ false)
        → pick a (chosen s) (pick (b && c) s.seen.source 32) ≡ 32
    go true e b f c g (inl y) = absurd (full (or_left (begins s x) e) (chosen-room s y))
    go true e b f c g (inr n) = chosen_none s n
    go false e true f true g y = absurd (full (or_right (takes s x) f) ((seen-sound s (begins-is s x f).0).room (eqb-true s.seen.what 1 g)))
    go false e true f false g y = refl
    go false e false f c g y = refl

-- ---- what is remembered

recall-says : (i : ℕ) (s : Aic) → (recalls i s ≡ true) ↔ ((s.seen.what ≡ 1) × (i ≡ s.seen.source))
unfolding recalls
recall-says i s = (
  λ h. (
    eqb-true s.seen.what 1 (and_left (eqb s.seen.what 1) (eqb i s.seen.source) h),
    eqb-true i s.seen.source (and_right (eqb s.seen.what 1) (eqb i s.seen.source) h),
  ),
  λ (w, e). and_both (eq-eqb s.seen.what 1 w) (eq-eqb i s.seen.source e),
)

carry-says : (k : ℕ) (s : Aic) → (carries k s ≡ true) ↔ ((s.seen.what ≡ 1) × (k ≢ s.seen.source))
unfolding carries
carry-says k s = (
  λ h. (
    eqb-true s.seen.what 1 (and_left (eqb s.seen.what 1) (not (eqb k s.seen.source)) h),
    eqb-false k s.seen.source (not-true (eqb k s.seen.source) (and_right (eqb s.seen.what 1) (not (eqb k s.seen.source)) h)),
  ),
  λ (w, d). and_both (eq-eqb s.seen.what 1 w) (ap not (ne_eqb k s.seen.source d)),
)

stray-says : (t : ℕ → Bool) (k : ℕ) (s : Aic) (x : Step) → (strays t k s x ≡ true) ↔ ((starts_other k s x ≡ true) × (t (started_by s x) ≡ false))
unfolding strays
stray-says t k s x = (
  λ h. (
    and_left (starts_other k s x) (not (t (started_by s x))) h,
    not-true (t (started_by s x)) (and_right (starts_other k s x) (not (t (started_by s x))) h),
  ),
  λ (o, f). and_both o (ap not f),
)

-- ---- closes

close-says : (s : Aic) (x : Step) → closes s x ≡ true → (v : ℕ) × (x ≡ Write 0x130 v) × ((step s x).refusal ≡ 0) × (s.depth ≢ 0)
unfolding closes
close-says s (Read o) h = clash h (read_close s o)
close-says s (Line k l) h = clash h (line_close s k l)
close-says s (Write o v) h =
    let w = and_left (carried s (Write o v) && eqb o 0x130) (not (eqb s.depth 0)) h in (
      v,
      ap (λ (n : ℕ). Write n v) (eqb-true o 0x130 (and_right (carried s (Write o v)) (eqb o 0x130) w)),
      done s (Write o v) (and_left (carried s (Write o v)) (eqb o 0x130) w),
      eqb-false s.depth 0 (not-true (eqb s.depth 0) (and_right (carried s (Write o v) && eqb o 0x130) (not (eqb s.depth 0)) h)),
    )

closes_if : (s : Aic) (x : Step) (v : ℕ) → x ≡ Write 0x130 v → (step s x).refusal ≡ 0 → s.depth ≢ 0 → closes s x ≡ true
unfolding closes
closes_if s x v e r d = rw e (and_both (and_both (carry_out s (Write 0x130 v) (rw e at r)) refl) (ap not (ne_eqb s.depth 0 d)))

-- ---- edges

edge-says : (i : ℕ) (s : Aic) (x : Step) → edges i s x ≡ true
    → (l : ℕ) × (x ≡ Line i l) × ((step s x).refusal ≡ 0) × (turns s i (eqb l 1) ≡ true) × (edge s i ≡ true)
unfolding edges rises
edge-says i s (Read o) h = clash h refl
edge-says i s (Write o v) h = clash h refl
edge-says i s (Line k l) h =
    let a = carried s (Line k l) in
    let t = and_left (a && eqb i k && turns s k (eqb l 1)) (edge s i) h in
    let c = and_left (a && eqb i k) (turns s k (eqb l 1)) t in
    let e : i ≡ k = eqb-true i k (and_right a (eqb i k) c) in (
      l,
      ap (λ (n : ℕ). Line n l) (sym e),
      done s (Line k l) (and_left a (eqb i k) c),
      rw e (and_right (a && eqb i k) (turns s k (eqb l 1)) t),
      and_right (a && eqb i k && turns s k (eqb l 1)) (edge s i) h,
    )

edges_if : (i : ℕ) (s : Aic) (x : Step) (l : ℕ) → x ≡ Line i l → (step s x).refusal ≡ 0 → turns s i (eqb l 1) ≡ true → edge s i ≡ true → edges i s x ≡ true
unfolding edges rises
edges_if i s x l e r t g = rw e (and_both (and_both (and_both (carry_out s (Line i l) (rw e at r)) (eq-eqb i i refl)) t) g)

-- ---- set commands

command-says : (i : ℕ) (s : Aic) (x : Step) → commands i s x ≡ true → (v : ℕ) × (x ≡ Write 0x12C v) × ((step s x).refusal ≡ 0) × (bit v i ≡ true)
unfolding commands
command-says i s (Read o) h = clash h refl
command-says i s (Line k l) h = clash h refl
command-says i s (Write o v) h =
    let w = and_left (carried s (Write o v) && eqb o 0x12C) (bit v i) h in (
      v,
      ap (λ (n : ℕ). Write n v) (eqb-true o 0x12C (and_right (carried s (Write o v)) (eqb o 0x12C) w)),
      done s (Write o v) (and_left (carried s (Write o v)) (eqb o 0x12C) w),
      and_right (carried s (Write o v) && eqb o 0x12C) (bit v i) h,
    )

commands_if : (i : ℕ) (s : Aic) (x : Step) (v : ℕ) → x ≡ Write 0x12C v → (step s x).refusal ≡ 0 → bit v i ≡ true → commands i s x ≡ true
unfolding commands
commands_if i s x v e r b = rw e (and_both (and_both (carry_out s (Write 0x12C v) (rw e at r)) refl) b)

-- ---- rewrites

abbrev Rewriting : ℕ → Type 0
Rewriting o = (o < 0x80) ⊎ ((o ≡ 0x140) ⊎ (o ≡ 0x144))

rewriting : (o : ℕ) → (ltb o 0x80 || eqb o 0x140 || eqb o 0x144) ≡ true → Rewriting o
rewriting o h =
    ⊎_elim (λ (g : (ltb o 0x80 || eqb o 0x140) ≡ true). ⊎_elim (λ (a : ltb o 0x80 ≡ true). inl (ltb-true o 0x80 a)) (λ (b : eqb o 0x140 ≡ true). inr (inl (eqb-true o 0x140 b)))
    (or-either (ltb o 0x80) (eqb o 0x140) g)) (λ (c : eqb o 0x144 ≡ true). inr (inr (eqb-true o 0x144 c)))
    (or-either (ltb o 0x80 || eqb o 0x140) (eqb o 0x144) h)

rewriting_if : (o : ℕ) → Rewriting o → (ltb o 0x80 || eqb o 0x140 || eqb o 0x144) ≡ true
rewriting_if o (inl l) = or_left (eqb o 0x144) (or_left (eqb o 0x140) (lt-ltb o 0x80 l))
rewriting_if o (inr (inl e)) = or_left (eqb o 0x144) (or_right (ltb o 0x80) (eq-eqb o 0x140 e))
rewriting_if o (inr (inr e)) = or_right (ltb o 0x80 || eqb o 0x140) (eq-eqb o 0x144 e)

rewrite-says : (s : Aic) (x : Step) → rewrites s x ≡ true → (o : ℕ) × (v : ℕ) × (x ≡ Write o v) × ((step s x).refusal ≡ 0) × Rewriting o
unfolding rewrites
rewrite-says s (Read o) h = clash h refl
rewrite-says s (Line k l) h = clash h refl
rewrite-says s (Write o v) h = (
  o,
  v,
  refl,
  done s (Write o v) (and_left (carried s (Write o v)) (ltb o 0x80 || eqb o 0x140 || eqb o 0x144) h),
  rewriting o (and_right (carried s (Write o v)) (ltb o 0x80 || eqb o 0x140 || eqb o 0x144) h),
)

rewrites_if : (s : Aic) (x : Step) (o v : ℕ) → x ≡ Write o v → (step s x).refusal ≡ 0 → Rewriting o → rewrites s x ≡ true
unfolding rewrites
rewrites_if s x o v e r w = rw e (and_both (carry_out s (Write o v) (rw e at r)) (rewriting_if o w))

-- ---- waiting

waits-says : (k : ℕ) (s : Aic) (x : Step) → waits k s x ≡ true → (pending s k ≡ true) × (bit s.enabled k ≡ true) × (fast s k ≡ false) × (steady s x ≡ true)
unfolding waits
waits-says k s x h =
    let w = waiting-is s k (and_left (waiting s k) (steady s x) h) in
    (w.0, w.1, w.2, and_right (waiting s k) (steady s x) h)

waits_if : (k : ℕ) (s : Aic) (x : Step) → pending s k ≡ true → bit s.enabled k ≡ true → fast s k ≡ false → steady s x ≡ true → waits k s x ≡ true
unfolding waits waiting asking
waits_if k s x p e f t = and_both (and_both (and_both p e) (ap not f)) t

pub counts_of : (s : Aic) (x : Step) → Counts s x
unfolding starts_of starts_other steady
counts_of s x =
    record {
      start = (start-says s x, λ h. starts_if s x h.0 h.1 h.2);
      start_chosen = start-chosen s x;
      start_seen = start_seen s x;
      start_mark = start-mark s x;
      start_none = start_none s x;
      recall = λ i. recall-says i s;
      carry = λ k. carry-says k s;
      start_of = λ i. (eqb-true i (started_by s x), eq-eqb i (started_by s x));
      start_other = λ k. (
        λ h. (
          ltb-true (started_by s x) 32 (and_left (ltb (started_by s x) 32) (not (eqb k (started_by s x))) h),
          eqb-false k (started_by s x) (not-true (eqb k (started_by s x)) (and_right (ltb (started_by s x) 32) (not (eqb k (started_by s x))) h)),
        ),
        λ (l, d). and_both (lt-ltb (started_by s x) 32 l) (ap not (ne_eqb k (started_by s x) d)),
      );
      stray = λ t k. stray-says t k s x;
      close = (close-says s x, λ (v, e, r, d). closes_if s x v e r d);
      edge_in = λ i. (edge-says i s x, λ (l, e, r, t, g). edges_if i s x l e r t g);
      command = λ i. (command-says i s x, λ (v, e, r, b). commands_if i s x v e r b);
      rewrite = (λ h. rewrite-says s x (not-false (rewrites s x) h), λ (o, v, e, r, w). ap not (rewrites_if s x o v e r w));
      waiting = λ k. (waits-says k s x, λ (p, e, f, t). waits_if k s x p e f t);
    }
