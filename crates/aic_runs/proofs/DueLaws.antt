-- What one step does to what a source is due: one lemma for each kind of step.
use Prim.Native.Nat.{ℕ, suc, ◌+◌, ◌-◌, ◌≤◌, ◌<◌}
use mathlib.Core.Path.{◌≡◌, refl, sym, ap, ap₂, ◌∙◌}
use mathlib.Core.Bool.{Bool, true, false, not, ◌&&◌, ◌||◌, and-true}
use mathlib.Core.Logic.{◌≢◌, ◌⊎◌, inl, inr}
use native.Mathlib.Omega.{arith}
use native.Mathlib.Decide.{ℕ_discrete}
use lib.Dec.{eqb, leb}
use lib.ListN.{get_or, set}
use borrow.Author.Tests.{eqb-true, eq-eqb, ne_eqb, le-leb}
use Rattle.words.specs.Choice.{pick}
use Rattle.words.specs.Counting.{one}
use Rattle.words.specs.Word.{bit}
use Rattle.words.proofs.TruthLaws.{clash, told}
use Rattle.words.proofs.CountingLaws.{one_le}
use Rattle.words.proofs.WordLaws.{bit-either, bit-both, bit-with_bit, bit-cleared_if, bit-put_if}
use Rattle.steps.specs.declared.Step.{Step}
use Rattle.steps.specs.declared.Step.TheVariants.{Read, Write, Line}
use Rattle.aic_record.specs.declared.Aic.{Aic}
use Rattle.aic_record.specs.Record.{nothing_seen, with_memory, with_debug, with_seen}
use Rattle.aic_record.specs.declared.Seen.{Seen}
use mathlib.Core.List.{List}
use Rattle.aic_record.specs.Mode.{priority_of, priority, kind, edge}
use Rattle.aic_record.specs.Sound.{source_at, level_below, protects, sound}
use Rattle.aic_record.specs.Promises.{Shaped}
use Rattle.aic_record.proofs.SoundLaws.{sound-is, seen-sound}
use Rattle.aic_sources.specs.Pending.{active_low, active_at, active, pending, edge_word}
use Rattle.aic_sources.specs.Normal.{candidate, candidates, chosen}
use Rattle.aic_sources.proofs.HandlerLaws.{candidate-waits, waiting-is, candidate-room, candidate_source}
use Rattle.aic_sources.proofs.OrderLaws.{chosen_is}
use Rattle.aic_registers.specs.Map.{ivr, iscr, eoicr}
use Rattle.aic_registers.specs.Handlers.{opened, started_at, closed_last, source_seen, none_seen}
use Rattle.aic_registers.specs.Effects.{set_by, turns, moved}
use Rattle.aic.specs.Model.{step}
use Rattle.aic.proofs.HandlerLaws.{started-is, moved-is}
use Rattle.aic.proofs.StepKindLaws.{with_store, kinds}
use Rattle.aic_runs.specs.Counted.{recalls, starts_of, rises, edges, commands, rewrites}
use Rattle.aic_runs.proofs.CountedLaws.{plain-start, write-start, line-start, no_start, look-start, take-chosen, mark-chosen, none_of, begin_source, begin-none, close_close, set_command, line_rise, mode-rewrite, forcing-rewrite}
use Rattle.aic_runs.proofs.StepLaws.{unseen}
use Rattle.aic_runs.specs.Turns.{closes_of, closes_hot, gains, due}
use Rattle.aic_runs.proofs.HeldLaws.{held_in, held_in_lem, held-push, held_pop, not-held, candidate_tops}

-- ---- truth values: e edge-triggered, m its memory, a its line active, h held

abbrev by : Bool → Bool → Bool → Bool → Bool
by e m a h = pick e m (a && not h)

fallen : (e m n a h : Bool) → (n ≡ true → m ≡ true) → one (by e n a h) ≤ one (by e m a h)
unfolding pick
fallen true m true a h f = rw (f refl) (omega arith)
fallen true m false a h f = omega arith
fallen false m n a h f = omega arith

spent-held : (e m a h : Bool) → one (by e (m && not (true && e)) a (h || true)) ≡ 0
unfolding pick
spent-held true true a h = refl
spent-held true false a h = refl
spent-held false m true true = refl
spent-held false m true false = refl
spent-held false m false h = refl

one_set : (m a b : Bool) → one (m || (a && b)) ≤ one m + one a
one_set true a b = omega arith
one_set false true b = omega (arith, one_le b)
one_set false false b = omega arith

commanded-more : (e m a h v w : Bool) → one (by e (m || (v && w)) a h) ≤ one (by e m a h) + pick e (0 + one v) 0
unfolding pick
commanded-more true m a h v w = omega (arith, one_set m v w)
commanded-more false m a h v w = omega arith

turned_more : (e m b a h : Bool) → one (by e (m || (true && (e && (not a && b)))) b h) ≤ one (by e m a h) + pick e (one ((not a && b) && e) + 0) (one (not a && b))
unfolding pick
turned_more true true b a h = omega arith
turned_more true false true true h = omega arith
turned_more true false true false h = omega arith
turned_more true false false true h = omega arith
turned_more true false false false h = omega arith
turned_more false m true true h = omega arith
turned_more false m true false h = omega (arith, one_le (not h))
turned_more false m false true h = omega arith
turned_more false m false false h = omega arith

-- the truth value of what source i is due, from its parts
abbrev held_by : Aic → ℕ → Bool
held_by s i = held_in s.source s.level s.depth (priority s i) i

-- source i is due a start
unfoldable pub ready : Aic → ℕ → Bool
ready s i = by (edge s i) (bit s.memory i) (active s i) (held_by s i)

pub ready-due : (s : Aic) (i : ℕ) → i ≢ 0 → due s i ≡ one (ready s i)
unfolding due ready pending pick
ready-due s i z = rw (held_in_lem s i z) (ap one (go (edge s i)))
  where
    go : (e : Bool) → (pick e (bit s.memory i) (active s i) && (e || not (held_by s i))) ≡ by e (bit s.memory i) (active s i) (held_by s i)
    go true = and-true (bit s.memory i)
    go false = refl

-- pending and not held: due
pending-due : (e m a : Bool) → pick e m a ≡ true → by e m a false ≡ true
unfolding pick
pending-due true m a h = h
pending-due false m a h = rw h

-- a chosen source is due a start
due-chosen : (s : Aic) → sound s ≡ true → candidates s ≡ true → ready s (chosen s) ≡ true
unfolding ready pending
due-chosen s ok c =
    rw (not-held s.source s.level s.depth (priority s (chosen s)) (chosen s) below)
    (pending-due (edge s (chosen s)) (bit s.memory (chosen s)) (active s (chosen s)) (waiting-is s (chosen s) (candidate-waits s (chosen s) f)).0)
  where
    f : candidate s (chosen s) ≡ true
    f = (chosen_is s c).fit

    below : (d : ℕ) → d < s.depth → get_or s.source d 0 ≡ chosen s → get_or s.level d 0 < priority s (chosen s)
    below d l e = candidate_tops s (chosen s) (sound-is s ok) f d l (λ z. omega (arith, candidate_source s (chosen s) f))

-- parts that change nothing
less_by : (e m a h c g : Bool) → one (by e (m && not c) a (h || g)) ≤ one (by e m a h)
unfolding pick
less_by true true a h true g = omega arith
less_by true true a h false g = omega arith
less_by true false a h c g = omega arith
less_by false m true true c g = omega arith
less_by false m true false c true = omega arith
less_by false m true false c false = omega arith
less_by false m false h c g = omega arith

or-none : (b c : Bool) → (b || (false && c)) ≡ b
or-none true c = refl
or-none false c = refl

still-by : (e m a h c : Bool) → one (by e (m || (false && c)) a h) + 0 ≤ one (by e m a h) + 0
still-by e true a h c = omega arith
still-by e false a h c = omega arith

quiet_by : (e m a b r : Bool) → (not e && a) ≡ false → one (by e m a b) ≤ one (by e m a r)
unfolding pick
quiet_by true m a b r q = omega arith
quiet_by false m true b r q = clash refl q
quiet_by false m false b r q = omega arith

pick-none : (e : Bool) → pick e (0 + 0) 0 ≡ 0
unfolding pick
pick-none true = refl
pick-none false = refl

-- ---- what a source may still start: what it is due, or the start of it that is remembered at its priority; remembered at another level,
-- that start counts besides, since a start there does not hold the source

unfoldable pub two : Bool → Bool → Bool → ℕ
two f d c = pick f (one (d || c)) (one d + one c)

same-two : (f c d e q : Bool) (g : ℕ) → (c ≡ false) ⊎ (q ≡ false) → one e + one q ≤ one d + g → two f e c + one q ≤ two f d c + g
unfolding two pick
same-two true true d true q g (inl z) l = clash refl z
same-two true true d false q g (inl z) l = clash refl z
same-two true true true true q g (inr z) l = rw z (omega arith)
same-two true true true false q g (inr z) l = rw z (omega arith)
same-two true true false true q g (inr z) l = rw z (omega arith)
same-two true true false false q g (inr z) l = rw z (omega arith)
same-two true false true true q g z l = omega arith
same-two true false true false q g z l = omega arith
same-two true false false true q g z l = omega arith
same-two true false false false q g z l = omega arith
same-two false c d e q g z l = omega arith

two-low : (f d c : Bool) → one d ≤ two f d c
unfolding two pick
two-low true true c = omega arith
two-low true false c = omega arith
two-low false d c = omega arith

two-high : (f d c : Bool) → two f d c ≤ one d + one c
unfolding two pick
two-high true true c = omega arith
two-high true false c = omega arith
two-high false d c = omega arith

two_none : (f d : Bool) → two f d false ≡ one d
unfolding two pick
two_none true true = refl
two_none true false = refl
two_none false d = omega arith

two_fair : (d : Bool) → two true d true ≡ 1
unfolding two pick
two_fair true = refl
two_fair false = refl

two-stale : (d : Bool) → two false d true ≡ one d + 1
unfolding two pick
two-stale d = refl

unfoldable pub claim : Aic → ℕ → ℕ
claim s i = two (eqb s.seen.level (priority s i)) (ready s i) (recalls i s)

pub claim-low : (s : Aic) (i : ℕ) → one (ready s i) ≤ claim s i
unfolding claim
claim-low s i = two-low (eqb s.seen.level (priority s i)) (ready s i) (recalls i s)

pub claim-high : (s : Aic) (i : ℕ) → claim s i ≤ one (ready s i) + one (recalls i s)
unfolding claim
claim-high s i = two-high (eqb s.seen.level (priority s i)) (ready s i) (recalls i s)

claim-none : (s : Aic) (i : ℕ) → recalls i s ≡ false → claim s i ≡ one (ready s i)
unfolding claim
claim-none s i e = ap (two (eqb s.seen.level (priority s i)) (ready s i)) e ∙ two_none (eqb s.seen.level (priority s i)) (ready s i)

claim-same : (s u : Aic) (i : ℕ) → u.seen ≡ s.seen → u.mode ≡ s.mode → claim u i ≡ two (eqb s.seen.level (priority s i)) (ready u i) (recalls i s)
unfolding claim recalls priority
claim-same s u i e m =
    ap₂ (λ (n : Seen) (ms : List ℕ). two (eqb n.level (priority_of (get_or ms i 0))) (ready u i) (eqb n.what 1 && eqb i n.source)) e m

recalled : (s : Aic) (i : ℕ) → s.seen.what ≡ 1 → i ≡ s.seen.source → recalls i s ≡ true
unfolding recalls
recalled s i w q = rw (eq-eqb s.seen.what 1 w, eq-eqb i s.seen.source q)

recalls-none : (s : Aic) (i : ℕ) → s.seen.what ≢ 1 → recalls i s ≡ false
unfolding recalls
recalls-none s i w = rw (ne_eqb s.seen.what 1 w)

claim_fair : (s : Aic) (i : ℕ) → s.seen.what ≡ 1 → i ≡ s.seen.source → eqb s.seen.level (priority s i) ≡ true → claim s i ≡ 1
unfolding claim
claim_fair s i w q e = ap₂ (λ (f c : Bool). two f (ready s i) c) e (recalled s i w q) ∙ two_fair (ready s i)

claim-stale : (s : Aic) (i : ℕ) → s.seen.what ≡ 1 → i ≡ s.seen.source → eqb s.seen.level (priority s i) ≡ false → claim s i ≡ one (ready s i) + 1
unfolding claim
claim-stale s i w q e = ap₂ (λ (f c : Bool). two f (ready s i) c) e (recalled s i w q) ∙ two-stale (ready s i)

-- what is remembered does not alter what a source is due
due-seen : (s : Aic) (i : ℕ) (n : Seen) → ready (with_seen s n) i ≡ ready s i
unfolding ready edge kind active active_at active_low priority
due-seen s i n = refl

claim-looked : (s : Aic) (i : ℕ) → i ≡ chosen s → ready s i ≡ true → claim (with_seen s (source_seen s (chosen s))) i ≡ 1
claim-looked s i q d = claim_fair (with_seen s (source_seen s (chosen s))) i refl q (unfold priority in (eq-eqb (priority s (chosen s)) (priority s i) (ap (priority s) (sym q))))

started-seen : (s : Aic) (k p : ℕ) → (started_at s k p).seen ≡ s.seen
started-seen s k p = rw (started-is s k p)

started_mode : (s : Aic) (k p : ℕ) → (started_at s k p).mode ≡ s.mode
started_mode s k p = rw (started-is s k p)

moved-seen : (s : Aic) (k : ℕ) (high : Bool) → (moved s k high).seen ≡ s.seen
moved-seen s k high = rw (moved-is s k high)

moved_mode : (s : Aic) (k : ℕ) (high : Bool) → (moved s k high).mode ≡ s.mode
moved_mode s k high = rw (moved-is s k high)

module _ (s : Aic) (i : ℕ) (small : i < 32) (normal : i ≢ 0) (h : Shaped s) where
  abbrev Paid : Step → Aic → Type 0
  Paid x t = closes_hot i s x ≡ false → one (ready t i) + one (starts_of i s x) ≤ one (ready s i) + gains i s x

  -- a step that starts nothing and after which i is due no more
  no-more : (x : Step) (t : Aic) → starts_of i s x ≡ false → one (ready t i) ≤ one (ready s i) → Paid x t
  no-more x t n l c = rw n (omega arith)

  -- ---- a start

  after-start : (k p : ℕ) → s.depth < 8 → ready (started_at s k p) i
      ≡ by (edge s i) (bit s.memory i && not (eqb i k && edge s k)) (active s i) (held_by s i || (eqb k i && leb (priority s i) p))
  unfolding ready edge kind active active_at active_low priority
  after-start k p room =
      rw (
        started-is s k p,
        bit-cleared_if s.memory k (edge s k) i small,
        held-push s.source s.level s.depth (priority s i) i k p (omega (arith, h.2)) (omega (arith, h.3)),
      )

  -- of i itself at its priority: it is due nothing more
  start_mine : (p : ℕ) → s.depth < 8 → p ≡ priority s i → one (ready (started_at s i p) i) ≡ 0
  start_mine p room e =
      rw (after-start i p room, eq-eqb i i refl, le-leb (priority s i) p (omega arith)) (spent-held (edge s i) (bit s.memory i) (active s i) (held_by s i))

  -- of any source at any level: i is due no more than before
  start_any : (k p : ℕ) → s.depth < 8 → one (ready (started_at s k p) i) ≤ one (ready s i)
  unfolding ready
  start_any k p room =
      rw (after-start k p room)
      (less_by (edge s i) (bit s.memory i) (active s i) (held_by s i) (eqb i k && edge s k) (eqb k i && leb (priority s i) p))

  taken : sound s ≡ true → protects s ≡ false → candidates s ≡ true → Paid (Read ivr) (started_at s (chosen s) (priority s (chosen s)))
  unfolding starts_of
  taken ok out c k = rw (take-chosen s ok out) (go (ℕ_discrete i (chosen s)))
    where
      room : s.depth < 8
      room = candidate-room s (chosen s) (chosen_is s c).fit

      go : Dec (i ≡ chosen s) → one (ready (started_at s (chosen s) (priority s (chosen s))) i) + one (eqb i (chosen s)) ≤ one (ready s i) + gains i s (Read ivr)
      go (yes q) =
          let d : ready s i ≡ true = ap (ready s) q ∙ due-chosen s ok c in
          let e : started_at s (chosen s) (priority s (chosen s)) ≡ started_at s i (priority s i) = ap (λ (j : ℕ). started_at s j (priority s j)) (sym q) in
          rw (eq-eqb i (chosen s) q, d, e) (omega (arith, start_mine (priority s i) room refl))
      go (no q) = rw (ne_eqb i (chosen s) q) (omega (arith, start_any (chosen s) (priority s (chosen s)) room))

  -- ---- a mark, a close

  after-mark : s.depth < 8 → ready (opened s 0 (level_below s.level s.depth)) i ≡ ready s i
  unfolding ready opened edge kind active active_at active_low priority
  after-mark l =
      rw (
        held-push s.source s.level s.depth (priority s i) i 0 (level_below s.level s.depth) (omega (arith, h.2)) (omega (arith, h.3)),
        ne_eqb 0 i (λ e. normal (sym e)),
        or-none (held_by s i) (leb (priority s i) (level_below s.level s.depth)),
      )

  marked : sound s ≡ true → protects s ≡ false → candidates s ≡ false → s.depth < 8 → Paid (Read ivr) (opened s 0 (level_below s.level s.depth))
  marked ok out n l = no-more (Read ivr) _ (none_of s (Read ivr) (mark-chosen s ok out n) i small) (omega (arith, ap one (after-mark l)))

  abbrev popped : Bool
  popped = held_in (set s.source (s.depth - 1) 0) (set s.level (s.depth - 1) 0) (s.depth - 1) (priority s i) i

  after_close : ready (closed_last s) i ≡ by (edge s i) (bit s.memory i) (active s i) popped
  unfolding ready closed_last edge kind active active_at active_low priority
  after_close = refl

  cold : (v : ℕ) → sound s ≡ true → s.depth ≢ 0 → closes_hot i s (Write eoicr v) ≡ false → source_at s (s.depth - 1) ≡ i → (not (edge s i) && active s i) ≡ false
  unfolding closes_hot closes_of
  cold v ok d c q = rw (close_close s v ok d, ne_eqb i 0 normal, eq-eqb (source_at s (s.depth - 1)) i q) at c

  closed : (v : ℕ) → sound s ≡ true → s.depth ≢ 0 → Paid (Write eoicr v) (closed_last s)
  unfolding ready
  closed v ok d c = no-more (Write eoicr v) (closed_last s) (no_start s (Write eoicr v) (write-start s eoicr v (omega arith)) i small) (go (ℕ_discrete (source_at s (s.depth - 1)) i)) c
    where
      go : Dec (source_at s (s.depth - 1) ≡ i) → one (ready (closed_last s) i) ≤ one (by (edge s i) (bit s.memory i) (active s i) (held_by s i))
      go (yes q) = rw after_close (quiet_by (edge s i) (bit s.memory i) (active s i) popped (held_by s i) (cold v ok d c q))
      go (no q) =
          let z : suc (s.depth - 1) ≡ s.depth = omega arith in
          let r : popped ≡ held_by s i = held_pop s.source s.level (s.depth - 1) (priority s i) i q ∙ ap (λ (m : ℕ). held_in s.source s.level m (priority s i) i) z in
          rw (after_close, r) (omega arith)

  -- ---- a set command, a line step

  after_command : (v : ℕ) → ready (set_by s v) i ≡ by (edge s i) (bit s.memory i || (bit v i && bit (edge_word s) i)) (active s i) (held_by s i)
  unfolding ready set_by edge kind active active_at active_low priority
  after_command v = rw (bit-either s.memory _ i small, bit-both v _ i small)

  commanded : (v : ℕ) → sound s ≡ true → Paid (Write iscr v) (set_by s v)
  unfolding ready gains edges rises
  commanded v ok c =
      rw (after_command v, no_start s (Write iscr v) (write-start s iscr v (omega arith)) i small, set_command s v i ok)
      (omega (arith, commanded-more (edge s i) (bit s.memory i) (active s i) (held_by s i) (bit v i) (bit (edge_word s) i)))

  after-move : (k l : ℕ) → ready (moved s k (eqb l 1)) i
      ≡ by (edge s i) (bit s.memory i || (eqb i k && (edge s k && turns s k (eqb l 1)))) (active_at s i (pick (eqb i k) (eqb l 1) (bit s.lines i))) (held_by s i)
  unfolding ready edge kind active active_at active_low priority
  after-move k l = rw (moved-is s k (eqb l 1), bit-put_if s.memory k (edge s k && turns s k (eqb l 1)) i small, bit-with_bit s.lines k (eqb l 1) i small)

  move_mine : (l : ℕ) → one (ready (moved s i (eqb l 1)) i) ≤ one (ready s i) + pick (edge s i) (one (turns s i (eqb l 1) && edge s i) + 0) (one (turns s i (eqb l 1)))
  unfolding ready turns pick
  move_mine l =
      rw (after-move i l, eq-eqb i i refl) (turned_more (edge s i) (bit s.memory i) (active_at s i (eqb l 1)) (active s i) (held_by s i))

  move-other : (k l : ℕ) → i ≢ k → one (ready (moved s k (eqb l 1)) i) + 0 ≤ one (ready s i) + 0
  unfolding ready active pick
  move-other k l q =
      rw (after-move k l, ne_eqb i k q) (still-by (edge s i) (bit s.memory i) (active_at s i (bit s.lines i)) (held_by s i) (edge s k && turns s k (eqb l 1)))

  turned : (k l : ℕ) → sound s ≡ true → k < 32 → l ≤ 1 → Paid (Line k l) (moved s k (eqb l 1))
  unfolding gains edges commands
  turned k l ok m n c =
      rw (no_start s (Line k l) (line-start s k l) i small, line_rise s k l i ok m n) (go (ℕ_discrete i k))
    where
      go : Dec (i ≡ k) → one (ready (moved s k (eqb l 1)) i) + 0 ≤ one (ready s i) + pick (edge s i) (one ((eqb i k && turns s k (eqb l 1)) && edge s i) + 0) (one (eqb i k && turns s k (eqb l 1)))
      go (yes q) = rw (sym q, eq-eqb i i refl) (omega (arith, move_mine l))
      go (no q) = rw (ne_eqb i k q, pick-none (edge s i)) (move-other k l q)

  -- ---- with what is remembered

  abbrev Claimed : Step → Aic → Type 0
  Claimed x u = closes_hot i s x ≡ false → claim u i + one (starts_of i s x) ≤ claim s i + gains i s x

  -- where the same is remembered, and i is not or is not started
  as_before : (x : Step) (u : Aic) → u.seen ≡ s.seen → u.mode ≡ s.mode → (recalls i s ≡ false) ⊎ (starts_of i s x ≡ false) → Paid x u → Claimed x u
  unfolding claim
  as_before x u e m q p c =
      rw (claim-same s u i e m) (same-two (eqb s.seen.level (priority s i)) (recalls i s) (ready s i) (ready u i) (starts_of i s x) (gains i s x) q (p c))

  -- where i is not remembered after the step, nor started
  forgets : (x : Step) (u : Aic) → recalls i u ≡ false → starts_of i s x ≡ false → one (ready u i) ≤ one (ready s i) → Claimed x u
  forgets x u e n l c = rw (claim-none u i e, n) (omega (arith, claim-low s i))

  looked : sound s ≡ true → protects s ≡ true → candidates s ≡ true → Claimed (Read ivr) (with_seen s (source_seen s (chosen s)))
  looked ok on c k = go (ℕ_discrete i (chosen s)) k
    where
      quiet : starts_of i s (Read ivr) ≡ false
      quiet = no_start s (Read ivr) (look-start s on) i small

      go : Dec (i ≡ chosen s) → Claimed (Read ivr) (with_seen s (source_seen s (chosen s)))
      go (yes q) k =
          let d : ready s i ≡ true = ap (ready s) q ∙ due-chosen s ok c in
          let f : claim (with_seen s (source_seen s (chosen s))) i ≡ 1 = claim-looked s i q d in
          rw (quiet, f) (omega (arith, claim-low s i, ap one d))
      go (no q) k = forgets (Read ivr) (with_seen s (source_seen s (chosen s))) (unfold recalls in (ne_eqb i (chosen s) q)) quiet (omega (arith, ap one (due-seen s i (source_seen s (chosen s))))) k

  begun : (v : ℕ) → sound s ≡ true → protects s ≡ true → s.seen.what ≡ 1 → Claimed (Write ivr v) (with_seen (started_at s s.seen.source s.seen.level) nothing_seen)
  unfolding starts_of
  begun v ok on w k = rw (begin_source s v ok on w, claim-none after i (unfold recalls in refl), due-seen (started_at s s.seen.source s.seen.level) i nothing_seen) (go (ℕ_discrete i s.seen.source) (told (eqb s.seen.level (priority s i))))
    where
      after : Aic
      after = with_seen (started_at s s.seen.source s.seen.level) nothing_seen

      room : s.depth < 8
      room = (seen-sound s ok).room w

      go : Dec (i ≡ s.seen.source) → (eqb s.seen.level (priority s i) ≡ true) ⊎ (eqb s.seen.level (priority s i) ≡ false)
          → one (ready (started_at s s.seen.source s.seen.level) i) + one (eqb i s.seen.source) ≤ claim s i + gains i s (Write ivr v)
      go (yes q) (inl e) =
          let z : one (ready (started_at s s.seen.source s.seen.level) i) ≡ 0 =
          ap (λ (j : ℕ). one (ready (started_at s j s.seen.level) i)) (sym q) ∙ start_mine s.seen.level room (eqb-true s.seen.level (priority s i) e) in
          rw (z, eq-eqb i s.seen.source q) (omega (arith, claim_fair s i w q e))
      go (yes q) (inr e) =
          rw (eq-eqb i s.seen.source q) (omega (arith, claim-stale s i w q e, start_any s.seen.source s.seen.level room))
      go (no q) e = rw (ne_eqb i s.seen.source q) (omega (arith, claim-low s i, start_any s.seen.source s.seen.level room))

  pub claim_law : (x : Step) → rewrites s x ≡ false → Claimed x (step s x).aic
  unfolding ready edge kind active active_at active_low priority opened closed_last set_by
  claim_law =
      kinds s (λ x u. rewrites s x ≡ false → Claimed x u)
      (record {
        still = λ x p r. let n = no_start s x (plain-start s x p) i small in as_before x s refl refl (inr n) (no-more x s n (omega arith));
        store = λ o v e u m vs ok p q l r.
            let n = no_start s (Write o v) (plain-start s (Write o v) p) i small in
            as_before (Write o v) (with_store s e u m vs) refl refl (inr n) (no-more (Write o v) (with_store s e u m vs) n (omega arith));
        drop = λ o v m ok p l r.
            forgets (Write o v) (with_seen (with_debug s m) nothing_seen) (unfold recalls in refl) (no_start s (Write o v) (plain-start s (Write o v) p) i small) (omega arith);
        fall = λ x w ok p f r.
            let n = no_start s x (plain-start s x p) i small in
            as_before x (with_memory s w) refl refl (inr n) (no-more x (with_memory s w) n (fallen (edge s i) (bit s.memory i) (bit w i) (active s i) (held_by s i) (f i small)));
        remode = λ o k v ok e l r. clash (mode-rewrite s o k v ok e l) r;
        reforce = λ o v f ok e z r. clash (forcing-rewrite s o v ok e) r;
        take = λ ok out c r.
            as_before (Read ivr) (started_at s (chosen s) (priority s (chosen s))) (started-seen s (chosen s) (priority s (chosen s))) (started_mode s (chosen s) (priority s (chosen s)))
            (inl (recalls-none s i (λ w. omega (arith, unseen s ok out)))) (taken ok out c);
        mark = λ ok out n l r.
            as_before (Read ivr) (opened s 0 (level_below s.level s.depth)) refl refl (inr (none_of s (Read ivr) (mark-chosen s ok out n) i small)) (marked ok out n l);
        look = λ ok on c r. looked ok on c;
        look_none = λ ok on n r. forgets (Read ivr) (with_seen s none_seen) (unfold recalls in refl) (no_start s (Read ivr) (look-start s on) i small) (omega arith);
        begin = λ v ok on w r. begun v ok on w;
        begin_mark = λ v ok on z w l r.
            forgets (Write ivr v) (with_seen (opened s 0 (level_below s.level s.depth)) nothing_seen) (unfold recalls in refl)
            (none_of s (Write ivr v) (begin-none s v ok on w) i small) (omega (arith, ap one (after-mark l)));
        close = λ v ok d r. as_before (Write eoicr v) (closed_last s) refl refl (inr (no_start s (Write eoicr v) (write-start s eoicr v (omega arith)) i small)) (closed v ok d);
        command = λ v ok r. as_before (Write iscr v) (set_by s v) refl refl (inr (no_start s (Write iscr v) (write-start s iscr v (omega arith)) i small)) (commanded v ok);
        move = λ k l ok m n r.
            as_before (Line k l) (moved s k (eqb l 1)) (moved-seen s k (eqb l 1)) (moved_mode s k (eqb l 1)) (inr (no_start s (Line k l) (line-start s k l) i small)) (turned k l ok m n);
      })
