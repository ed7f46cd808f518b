-- A stretch in which a source waits, a start that keeps others waiting, source 0, and eight entries.
use Prim.Native.Nat.{ℕ, ◌+◌, ◌-◌, ◌≤◌, ◌<◌, max}
use mathlib.Core.Path.{◌≡◌, refl, sym, ap, ◌∙◌}
use mathlib.Core.Bool.{Bool, true, false, not, ◌&&◌, and-false}
use mathlib.Core.List.{List, [], ◌∷◌}
use mathlib.Core.Logic.{◌↔◌, ◌≢◌}
use native.Mathlib.Omega.{arith}
use lib.Dec.{eqb, ltb}
use lib.ListN.{get_or, set}
use borrow.Author.Tests.{eqb-true, eqb-false, ltb-true, eq-eqb, ne_eqb, lt-ltb, not-true}
use Rattle.words.specs.Choice.{pick}
use Rattle.words.specs.Counting.{one, any_below}
use Rattle.words.specs.Word.{bit, with_bit}
use Rattle.words.proofs.ChoiceLaws.{pick_cases, pick_true, pick-false}
use Rattle.words.proofs.CountingLaws.{any_some, some_any}
use Rattle.words.proofs.TruthLaws.{and_left, and_right, and_both, not-holds}
use Rattle.words.proofs.WordLaws.{bit-cleared_if}
use Rattle.steps.specs.declared.Step.{Step}
use Rattle.aic_record.specs.declared.Aic.{Aic}
use Rattle.aic_record.specs.declared.Seen.{Seen}
use Rattle.aic_record.specs.Sound.{source_at, sound}
use Rattle.aic_record.specs.Mode.{kind, edge}
use Rattle.aic_record.specs.Record.{with_seen, with_handlers, with_memory}
use Rattle.aic_record.specs.Promises.{Shaped}
use Rattle.aic_record.proofs.SoundLaws.{sound-is}
use Rattle.aic_sources.specs.Pending.{active, active_at, active_low, pending, asking}
use Rattle.aic_sources.specs.Fast.{fast}
use Rattle.aic_sources.specs.Normal.{waiting}
use Rattle.aic.specs.Model.{step}
use Rattle.aic.proofs.Promises as Controller
use Rattle.aic.proofs.HandlerLaws.{started-is}
use Rattle.aic_runs.specs.Counted.{started_by, level_of, starts_of, starts_other}
use Rattle.aic_runs.specs.Runs.{count, always}
use Rattle.aic_runs.proofs.CountedLaws.{started-room}
use Rattle.aic_runs.proofs.StepLaws.{start_law}
use Rattle.aic_waits.specs.Figures.{started_of, wait_next, wait_after, wait_most, is_open, entries_now, entries_most}
use Rattle.aic_waits.specs.Promises.{Waits}
use Rattle.aic_waits.proofs.TellLaws.{started_real}

-- ---- one step more

module _ (s : Aic) (i : ℕ) (x : Step) (xs : List Step) where
  pub started_own : started_by s x ≡ i → started_of i s (x ∷ xs) ≡ 1 + started_of i (step s x).aic xs
  unfolding started_of count starts_of
  started_own e = rw (eq-eqb i (started_by s x) (sym e))

  pub started_else : started_by s x ≢ i → started_of i s (x ∷ xs) ≡ started_of i (step s x).aic xs
  unfolding started_of count starts_of
  started_else n = rw (ne_eqb i (started_by s x) (λ e. n (sym e))) (omega arith)

-- ---- open

module _ (s : Aic) (i : ℕ) where
  pub open_is : (is_open s i ≡ true) ↔ ((d : ℕ) × (d < s.depth) × (get_or s.source d 0 ≡ i) × (i ≢ 0))
  unfolding is_open
  open_is =
      let of : ℕ → Bool = λ d. eqb (source_at s d) i in (
        (λ e. let r = any_some s.depth of (and_left _ _ e) in (r.0, r.1, eqb-true (source_at s r.0) i r.2, eqb-false i 0 (not-true _ (and_right (any_below s.depth of) _ e)))),
        (λ h. and_both (some_any s.depth of h.0 h.1 (eq-eqb (source_at s h.0) i h.2)) (rw (ne_eqb i 0 h.3))),
      )

  pub entries_open : is_open s i ≡ true → entries_now s i ≡ s.depth
  entries_open e = sym (pick_true 0 e)

  pub entries_shut : is_open s i ≡ false → entries_now s i ≡ 0
  entries_shut e = sym (pick-false s.depth e)

-- ---- a stretch

wait-more : (n : ℕ) (waits own other : Bool) → waits ≡ true → own ≡ false → wait_next (n + 2) waits own other ≡ (n + one other) + 2
unfolding wait_next pick
wait-more n waits own other e f = rw (e, f, ne_eqb (n + 2) 0 (λ z. absurd (omega (arith, z))), lt-ltb 1 (n + 2) (omega arith)) (omega arith)

none_first : (t : Bool) (n : ℕ) → one t + n ≡ 0 → (t ≡ false) × (n ≡ 0)
none_first true n e = absurd (omega (arith, e))
none_first false n e = (refl, omega (arith, e))

pub stretch : (s : Aic) (i n m : ℕ) (xs : List Step) → Waits i s xs → n ≤ m
    → wait_most i (n + 2) m s xs ≡ max m (n + count (starts_other i) s xs)
unfolding always count wait_most
stretch s i n m [] h l = omega arith
stretch s i n m (x ∷ xs) h l =
    let a = h.0 in
    let z = h.1 in
    let q = none_first (starts_of i s x) (count (starts_of i) (step s x).aic xs) z in
    let e = wait-more n (waiting (step s x).aic i) (starts_of i s x) (starts_other i s x) (and_left _ (always (λ r x. waiting (step r x).aic i) (step s x).aic xs) a) q.0 in
    rw e (stretch (step s x).aic i (n + one (starts_other i s x)) (max m ((n + one (starts_other i s x)) + 2 - 2)) xs (and_right (waiting (step s x).aic i) _ a, q.1) (omega arith)
    ∙ omega arith)

-- ---- where a wait begins and ends

module _ (s : Aic) (i : ℕ) where
  pub begins : (x : Step) → waiting (step s x).aic i ≡ true → starts_of i s x ≡ false → wait_after i 0 s x ≡ 2
  unfolding wait_next pick
  begins x e o = rw (e, o)

  pub ends : (w : ℕ) (x : Step) → waiting (step s x).aic i ≡ false → wait_after i w s x ≡ 0
  unfolding wait_next pick
  ends w x e = rw e

  pub serves : (w : ℕ) (x : Step) → waiting (step s x).aic i ≡ true → starts_of i s x ≡ true → wait_after i w s x ≡ 1
  unfolding wait_next pick
  serves w x e o = rw (e, o)

  pub served : (x : Step) → waiting (step s x).aic i ≡ true → wait_after i 1 s x ≡ 1
  unfolding wait_next pick
  served x e = rw e (go (starts_of i s x))
    where
      go : (b : Bool) → pick b 1 (1 + one (false && starts_other i s x)) ≡ 1
      go true = refl
      go false = refl

-- ---- source 0

zero-fast : (s : Aic) → waiting s 0 ≡ false
unfolding waiting fast
zero-fast s = and-false (asking s 0)

zero-wait : (w : ℕ) (s : Aic) (x : Step) → wait_after 0 w s x ≡ 0
unfolding wait_next pick
zero-wait w s x = rw (zero-fast (step s x).aic)

pub zero-waited : (w : ℕ) (s : Aic) (xs : List Step) → wait_most 0 w 0 s xs ≡ 0
unfolding wait_most
zero-waited w s [] = refl
zero-waited w s (x ∷ xs) = rw (zero-wait w s x) (zero-waited 0 (step s x).aic xs)

zero_open : (s : Aic) → is_open s 0 ≡ false
unfolding is_open
zero_open s = and-false (any_below s.depth (λ d. eqb (source_at s d) 0))

pub zero_entries : (s : Aic) (xs : List Step) → entries_most 0 0 s xs ≡ 0
unfolding entries_most pick
zero_entries s [] = refl
zero_entries s (x ∷ xs) = rw (zero_open (step s x).aic) (zero_entries (step s x).aic xs)

zero-start : (s : Aic) (x : Step) → sound s ≡ true → starts_of 0 s x ≡ false
unfolding starts_of
zero-start s x ok = not-holds (eqb 0 (started_by s x)) (λ e. let z = eqb-true 0 (started_by s x) e in started_real s x ok (omega (arith, z)) (sym z))

pub zero_started : (s : Aic) (xs : List Step) → Shaped s → sound s ≡ true → count (starts_of 0) s xs ≡ 0
unfolding count
zero_started s [] h ok = refl
zero_started s (x ∷ xs) h ok = rw (zero-start s x ok, zero_started (step s x).aic xs ((Controller.kept).step_shaped s x h) ((Controller.kept).step_sound s x h ok))

-- ---- eight entries

now_eight : (s : Aic) (i : ℕ) → sound s ≡ true → entries_now s i ≤ 8
now_eight s i ok = pick_cases (λ n. n ≤ 8) (is_open s i) (λ _. (sound-is s ok).entries) (λ _. omega arith)

pub most_eight : (i m : ℕ) (s : Aic) (xs : List Step) → Shaped s → sound s ≡ true → m ≤ 8 → entries_most i m s xs ≤ 8
unfolding entries_most
most_eight i m s [] h ok l = l
most_eight i m s (x ∷ xs) h ok l =
    let ok' = (Controller.kept).step_sound s x h ok in
    most_eight i (max m (entries_now (step s x).aic i)) (step s x).aic xs ((Controller.kept).step_shaped s x h) ok' (omega (arith, l, now_eight (step s x).aic i ok'))

-- ---- a start of another source

-- only the memory of a source, of what a start changes, bears on whether it waits
memory-waits : (s : Aic) (w : ℕ) (ks ls : List ℕ) (n i : ℕ) → bit w i ≡ bit s.memory i → waiting (with_handlers (with_memory s w) ks ls n) i ≡ waiting s i
unfolding waiting asking pending fast active active_at active_low edge kind
memory-waits s w ks ls n i e = ap (λ (b : Bool). pick (edge s i) b (active s i) && bit s.enabled i && not (fast s i)) e

and_one : (b : Bool) → (b && true) ≡ b
and_one true = refl
and_one false = refl

started-waits : (s : Aic) (k p i : ℕ) → i < 32 → i ≢ k → waiting (with_handlers (with_memory s (pick (edge s k) (with_bit s.memory k false) s.memory)) (set s.source s.depth k) (set s.level s.depth p) (s.depth + 1)) i ≡ waiting s i
started-waits s k p i l d =
    memory-waits s (pick (edge s k) (with_bit s.memory k false) s.memory) _ _ _ i (bit-cleared_if s.memory k (edge s k) i l ∙ rw (ne_eqb i k d) (and_one (bit s.memory i)))

seen-waits : (s : Aic) (n : Seen) (i : ℕ) → waiting (with_seen s n) i ≡ waiting s i
unfolding waiting asking pending fast active active_at active_low edge kind
seen-waits s n i = refl

pub keeps-waiting : (s : Aic) (i : ℕ) (x : Step) → i < 32 → starts_other i s x ≡ true → waiting s i ≡ true → waiting (step s x).aic i ≡ true
unfolding starts_other starts_of
keeps-waiting s i x l o w =
    let b = ltb-true (started_by s x) 32 (and_left _ (not (eqb i (started_by s x))) o) in
    let d : i ≢ started_by s x = eqb-false i (started_by s x) (not-true _ (and_right (ltb (started_by s x) 32) _ o)) in
    let e = (start_law s x (started-room s x b)).0 b ∙ ap (λ (a : Aic). with_seen a (step s x).aic.seen) (started-is s (started_by s x) (level_of s x)) in
    ap (λ (a : Aic). waiting a i) e ∙ seen-waits _ (step s x).aic.seen i ∙ started-waits s (started_by s x) (level_of s x) i l d ∙ w
