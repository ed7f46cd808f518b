-- The rules of a sound record, taken apart and put together again, and the levels of the handlers.
use Prim.Native.Nat.{ℕ, zero, suc, ◌+◌, ◌-◌, ◌≤◌, ◌<◌}
use mathlib.Core.Path.{◌≡◌, refl, sym, ap, ◌∙◌}
use mathlib.Core.Bool.{Bool, true, false, not, ◌&&◌, ◌||◌}
use mathlib.Core.List.{List}
use mathlib.Core.Logic.{◌≢◌, inl, inr, ⊎_elim}
use native.Mathlib.Omega.{arith}
use native.Mathlib.Decide.{ℕ_discrete}
use lib.Dec.{eqb, ltb, leb}
use lib.ListN.{get_or}
use borrow.Author.Tests.{eqb-true, eqb-false, eq-eqb, ne_eqb, ltb-true, ltb-false, lt-ltb, le-ltb, leb-true, le-leb, not-true}
use Rattle.words.specs.Choice.{pick}
use Rattle.words.specs.Word.{bit}
use Rattle.words.proofs.ChoiceLaws.{pick_true, pick-false, pick_cases}
use Rattle.words.proofs.TruthLaws.{and_left, and_right, and_both, or-either, or_left, or_right, clash, told}
use Rattle.words.proofs.CountingLaws.{all_at, at_all}
use Rattle.aic_record.specs.declared.Aic.{Aic}
use Rattle.aic_record.specs.declared.Seen.{Seen}
use Rattle.aic_record.specs.Record.{nothing_seen}
use Rattle.aic_record.specs.Mode.{mode_at, kept_mode, edge}
use Rattle.aic_record.specs.Sound.{source_at, level_at, no_level, level_below, over, entry_fits, entry_sound, free_sound, entries_sound, memory_sound, stored_sound, protects, seen_fits, seen_sound, sound}
use Rattle.aic_record.specs.Promises.{Over, SeenFits, Rules}

-- ---- levels

-- below the first slot there is no level
pub below_none : (level : List ℕ) → level_below level 0 ≡ no_level
unfolding level_below
below_none level = sym (pick_true _ refl)

-- below the next slot there is the level of this one
pub below_next : (level : List ℕ) (i : ℕ) → level_below level (i + 1) ≡ get_or level i 0
unfolding level_below
below_next level i =
    let e : i ≡ i + 1 - 1 = omega arith in
    sym (ap (λ (j : ℕ). get_or level j 0) e ∙ pick-false no_level (ne_eqb (i + 1) 0 (omega arith)))

-- above a level, if that is one
pub over-is : (l p : ℕ) → over l p ≡ true → Over l p
unfolding over
over-is l p e =
    ⊎_elim (λ (z : eqb l no_level ≡ true). inl (eqb-true l no_level z)) (λ (g : ltb l p ≡ true). inr (ltb-true l p g)) (or-either (eqb l no_level) (ltb l p) e)

pub is-over : (l p : ℕ) → Over l p → over l p ≡ true
unfolding over
is-over l p (inl z) = or_left (ltb l p) (eq-eqb l no_level z)
is-over l p (inr g) = or_right (eqb l no_level) (lt-ltb l p g)

-- ---- apart

-- what is remembered, apart and together
module _ (on : Bool) (n : Seen) (below depth : ℕ) where
  pub seen-is : seen_fits on n below depth ≡ true → SeenFits on n below depth
  unfolding seen_fits
  seen-is = pick_cases (λ t. t ≡ true → SeenFits on n below depth) (eqb n.what 1)
      (λ w h. let z = eqb-true n.what 1 w in
      record {
        few = omega arith;
        mode = λ _. search (and_left, and_right);
        bare = λ d. absurd (d z);
        source = λ _. (leb-true 1 n.source (search (and_left, and_right)), leb-true n.source 31 (search (and_left, and_right)));
        level = λ _. (leb-true n.level 7 (search (and_left, and_right)), over-is below n.level (search (and_left, and_right)));
        room = λ _. ltb-true depth 8 (search (and_left, and_right));
      })
      (λ w h. let d = eqb-false n.what 1 w in
      let e = or-either (eqb n.what 0) (on && eqb n.what 2) (search and_right) in
      record {
        few = ⊎_elim (λ (z : eqb n.what 0 ≡ true). omega (arith, eqb-true n.what 0 z)) (λ (z : (on && eqb n.what 2) ≡ true). omega (arith, eqb-true n.what 2 (and_right on _ z))) e;
        mode = λ p. ⊎_elim (λ (z : eqb n.what 0 ≡ true). absurd (p (eqb-true n.what 0 z))) (λ (z : (on && eqb n.what 2) ≡ true). and_left on _ z) e;
        bare = λ _. (eqb-true n.source 0 (search (and_left, and_right)), eqb-true n.level 0 (search (and_left, and_right)), eqb-true n.vector 0 (search (and_left, and_right)));
        source = λ z. absurd (d z);
        level = λ z. absurd (d z);
        room = λ z. absurd (d z);
      })

  pub is_seen : SeenFits on n below depth → seen_fits on n below depth ≡ true
  unfolding seen_fits
  is_seen f =
      pick_cases (λ t. t ≡ true) (eqb n.what 1)
      (λ w. let z = eqb-true n.what 1 w in
      and_both (and_both (and_both (and_both (and_both (f.mode (omega arith)) (le-leb 1 n.source (f.source z).0)) (le-leb n.source 31 (f.source z).1)) (le-leb n.level 7 (f.level z).0))
      (lt-ltb depth 8 (f.room z))) (is-over below n.level (f.level z).1))
      (λ w. let d = eqb-false n.what 1 w in
      let b = f.bare d in
      and_both (and_both (and_both (eq-eqb n.source 0 b.0) (eq-eqb n.level 0 b.1)) (eq-eqb n.vector 0 b.2)) (rest d (ℕ_discrete n.what 0)))
    where
      rest : n.what ≢ 1 → Dec (n.what ≡ 0) → (eqb n.what 0 || (on && eqb n.what 2)) ≡ true
      rest d (yes z) = or_left (on && eqb n.what 2) (eq-eqb n.what 0 z)
      rest d (no z) = or_right (eqb n.what 0) (and_both (f.mode z) (eq-eqb n.what 2 (omega (arith, f.few))))

-- nothing remembered fits everywhere
pub seen_nothing : (on o : Bool) (n : Seen) (below depth b d : ℕ) → SeenFits on n below depth → n.what ≡ 0 → SeenFits o n b d
seen_nothing on o n below depth b d f z =
    record { few = f.few; mode = λ p. absurd (p z); bare = f.bare; source = λ w. absurd (omega arith); level = λ w. absurd (omega arith); room = λ w. absurd (omega arith) }

-- outside protect mode nothing is remembered
pub seen_outside : (on : Bool) (n : Seen) (below depth : ℕ) → SeenFits on n below depth → on ≡ false → n.what ≡ 0
seen_outside on n below depth f e = go (ℕ_discrete n.what 0)
  where
    go : Dec (n.what ≡ 0) → n.what ≡ 0
    go (yes z) = z
    go (no z) = clash (f.mode z) e

-- the same, where protect mode is at least as much on
pub seen_mode : (on o : Bool) (n : Seen) (below depth : ℕ) → SeenFits on n below depth → (on ≡ true → o ≡ true) → SeenFits o n below depth
seen_mode on o n below depth f h = record { few = f.few; mode = λ p. h (f.mode p); bare = f.bare; source = f.source; level = f.level; room = f.room }

pub nothing-fits : (on : Bool) (below depth : ℕ) → SeenFits on nothing_seen below depth
nothing-fits on below depth =
    record { few = omega arith; mode = λ p. absurd (p refl); bare = λ _. (refl, refl, refl); source = λ w. absurd (omega arith); level = λ w. absurd (omega arith); room = λ w. absurd (omega arith) }

module _ (s : Aic) (ok : sound s ≡ true) where
  slot : (i : ℕ) → i < 8 → pick (ltb i s.depth) (entry_sound s i) (free_sound s i) ≡ true
  unfolding sound entries_sound
  slot = all_at 8 (λ i. pick (ltb i s.depth) (entry_sound s i) (free_sound s i)) (search (and_left, and_right))

  eight : s.depth ≤ 8
  unfolding sound entries_sound
  eight = leb-true s.depth 8 (search (and_left, and_right))

  used : (i : ℕ) → i < s.depth → entry_sound s i ≡ true
  used i l = pick_true (free_sound s i) (lt-ltb i s.depth l) ∙ slot i (omega (arith, eight))

  used-mark : (i : ℕ) → i < s.depth → source_at s i ≡ 0 → level_at s i ≡ level_below s.level i
  unfolding entry_sound entry_fits
  used-mark i l z = eqb-true (level_at s i) (level_below s.level i) (pick_true _ (eq-eqb (source_at s i) 0 z) ∙ used i l)

  used-handler : (i : ℕ) → i < s.depth → source_at s i ≢ 0 → (leb (source_at s i) 31 && leb (level_at s i) 7 && over (level_below s.level i) (level_at s i)) ≡ true
  unfolding entry_sound entry_fits
  used-handler i l d = pick-false _ (ne_eqb (source_at s i) 0 d) ∙ used i l

  used_source : (i : ℕ) → i < s.depth → source_at s i ≤ 31
  used_source i l = go (ℕ_discrete (source_at s i) 0)
    where
      go : Dec (source_at s i ≡ 0) → source_at s i ≤ 31
      go (yes z) = omega arith
      go (no d) = let h = used-handler i l d in leb-true (source_at s i) 31 (search (and_left, and_right))

  used_level : (i : ℕ) → i < s.depth → source_at s i ≢ 0 → level_at s i ≤ 7
  used_level i l d = let h = used-handler i l d in leb-true (level_at s i) 7 (search (and_left, and_right))

  used-above : (i : ℕ) → i < s.depth → source_at s i ≢ 0 → Over (level_below s.level i) (level_at s i)
  used-above i l d = let h = used-handler i l d in over-is (level_below s.level i) (level_at s i) (search (and_left, and_right))

  free : (i : ℕ) → s.depth ≤ i → i < 8 → (source_at s i ≡ 0) × (level_at s i ≡ 0)
  unfolding free_sound
  free i l m =
      let h : free_sound s i ≡ true = pick-false (entry_sound s i) (le-ltb i s.depth l) ∙ slot i m in
      (eqb-true (source_at s i) 0 (search and_left), eqb-true (level_at s i) 0 (search and_right))

  quiet : (k : ℕ) → k < 32 → edge s k ≡ false → bit s.memory k ≡ false
  unfolding sound memory_sound
  quiet k l n =
      ⊎_elim (λ (e : edge s k ≡ true). clash e n) (not-true (bit s.memory k))
      (or-either (edge s k) (not (bit s.memory k)) (all_at 32 (λ k. edge s k || not (bit s.memory k)) (search (and_left, and_right)) k l))

  modes-kept : (k : ℕ) → k < 32 → kept_mode (mode_at s k) ≡ mode_at s k
  unfolding sound stored_sound
  modes-kept k l = eqb-true (kept_mode (mode_at s k)) (mode_at s k) (all_at 32 (λ k. eqb (kept_mode (mode_at s k)) (mode_at s k)) (search (and_left, and_right)) k l)

  pub debug-sound : s.debug < 4
  unfolding sound stored_sound
  debug-sound = ltb-true s.debug 4 (search (and_left, and_right))

  pub seen-sound : SeenFits (protects s) s.seen (level_below s.level s.depth) s.depth
  unfolding sound seen_sound
  seen-sound = seen-is (protects s) s.seen (level_below s.level s.depth) s.depth (search and_right)

  pub forced-sound : bit s.forced 0 ≡ false
  unfolding sound
  forced-sound = not-true (bit s.forced 0) (search (and_left, and_right))

pub sound-is : (s : Aic) → sound s ≡ true → Rules s
sound-is s ok =
    record {
      entries = eight s ok;
      sources = used_source s ok;
      marks = used-mark s ok;
      levels = used_level s ok;
      above = used-above s ok;
      unused = free s ok;
      memory = quiet s ok;
      modes = modes-kept s ok;
      debug = debug-sound s ok;
      seen = seen-sound s ok;
      forced = forced-sound s ok;
    }

-- ---- together

module _ (s : Aic) (r : Rules s) where
  holds : (i : ℕ) → i < s.depth → entry_sound s i ≡ true
  unfolding entry_sound entry_fits
  holds i l =
      pick_cases (λ t. t ≡ true) (eqb (source_at s i) 0) (λ e. eq-eqb (level_at s i) (level_below s.level i) (r.marks i l (eqb-true (source_at s i) 0 e)))
      (λ n.
      let d = eqb-false (source_at s i) 0 n in
      and_both (and_both (le-leb (source_at s i) 31 (r.sources i l)) (le-leb (level_at s i) 7 (r.levels i l d))) (is-over _ _ (r.above i l d)))

  slots : (i : ℕ) → i < 8 → pick (ltb i s.depth) (entry_sound s i) (free_sound s i) ≡ true
  unfolding free_sound
  slots i l =
      pick_cases (λ t. t ≡ true) (ltb i s.depth) (λ e. holds i (ltb-true i s.depth e))
      (λ n. let u = r.unused i (ltb-false i s.depth n) l in and_both (eq-eqb (source_at s i) 0 u.0) (eq-eqb (level_at s i) 0 u.1))

  quiets : (k : ℕ) → k < 32 → (edge s k || not (bit s.memory k)) ≡ true
  quiets k l = ⊎_elim (or_left (not (bit s.memory k))) (λ (n : edge s k ≡ false). or_right (edge s k) (ap not (r.memory k l n))) (told (edge s k))

pub is-sound : (s : Aic) → Rules s → sound s ≡ true
unfolding sound entries_sound memory_sound stored_sound seen_sound
is-sound s r =
    and_both
    (and_both
    (and_both
    (and_both
    (and_both (le-leb s.depth 8 r.entries) (at_all 8 (λ i. pick (ltb i s.depth) (entry_sound s i) (free_sound s i)) (slots s r)))
    (at_all 32 (λ k. edge s k || not (bit s.memory k)) (quiets s r)))
    (and_both (at_all 32 (λ k. eqb (kept_mode (mode_at s k)) (mode_at s k)) (λ k l. eq-eqb (kept_mode (mode_at s k)) (mode_at s k) (r.modes k l))) (lt-ltb s.debug 4 r.debug)))
    (ap not r.forced))
    (is_seen (protects s) s.seen (level_below s.level s.depth) s.depth r.seen)

-- ---- the levels of the handlers rise

module _ (s : Aic) (r : Rules s) where
  -- where a handler is among the entries below slot i, there is a level below i, and it is no lower
  pub under : (i j : ℕ) → i ≤ s.depth → j < i → source_at s j ≢ 0 → (level_below s.level i ≢ no_level) × (level_at s j ≤ level_below s.level i)
  under zero j l m d = absurd (omega arith)
  under (suc i) j l m d =
      let e : suc i ≡ i + 1 = omega arith in
      rw (e, below_next s.level i) (go (ℕ_discrete (source_at s i) 0) (ℕ_discrete j i) (under i j (omega arith)))
    where
      go : Dec (source_at s i ≡ 0) → Dec (j ≡ i) → (j < i → source_at s j ≢ 0 → (level_below s.level i ≢ no_level) × (level_at s j ≤ level_below s.level i))
          → (level_at s i ≢ no_level) × (level_at s j ≤ level_at s i)
      go (yes z) (yes e) ih = absurd (d (ap (source_at s) e ∙ z))
      go (yes z) (no e) ih = rw (r.marks i (omega arith) z) (ih (omega arith) d)
      go (no n) (yes e) ih = (λ q. omega (arith, r.levels i (omega arith) n), rw e (omega arith))
      go (no n) (no e) ih =
          let h = ih (omega arith) d in
          let g : level_below s.level i < level_at s i = ⊎_elim (λ (q : level_below s.level i ≡ no_level). absurd (h.0 q)) (λ (q : level_below s.level i < level_at s i). q) (r.above i (omega arith) n) in
          (λ q. omega (arith, r.levels i (omega arith) n), omega (arith, h.1))

  pub rising : (i j : ℕ) → i < j → j < s.depth → source_at s i ≢ 0 → source_at s j ≢ 0 → level_at s i < level_at s j
  rising i j l m a b =
      let h = under j i (omega arith) l a in
      ⊎_elim (λ (q : level_below s.level j ≡ no_level). absurd (h.0 q)) (λ (q : level_below s.level j < level_at s j). omega (arith, h.1)) (r.above j m b)
