-- What keeps the rules of a sound record: other words, a mode stored, an entry opened, the last one closed.
use Prim.Native.Nat.{ℕ, ◌+◌, ◌-◌, ◌≤◌, ◌<◌}
use mathlib.Core.Path.{◌≡◌, sym}
use mathlib.Core.Bool.{false}
use mathlib.Core.List.{List}
use mathlib.Core.Logic.{◌≢◌, inl, inr, ⊎_elim}
use native.Mathlib.Omega.{arith}
use native.Mathlib.Decide.{ℕ_discrete}
use lib.Dec.{eqb}
use lib.ListN.{get_or, set}
use lib.Seq.{get_or-set_same, get_or-set_other}
use borrow.Author.Tests.{eq-eqb, ne_eqb}
use Rattle.words.specs.Choice.{pick}
use Rattle.words.specs.Word.{bit}
use Rattle.words.proofs.ChoiceLaws.{pick-false}
use Rattle.aic_record.specs.declared.Aic.{Aic}
use Rattle.aic_record.specs.declared.Seen.{Seen}
use Rattle.aic_record.specs.Record.{with_lines, with_enabled, with_memory, with_forced, with_spurious, with_debug, with_mode, with_vector, with_handlers, with_seen}
use Rattle.aic_record.specs.Mode.{kept_mode, edge_of, edge}
use Rattle.aic_record.specs.Sound.{source_at, level_at, no_level, level_below}
use Rattle.aic_record.specs.Promises.{Shaped, Over, SeenFits, Rules}
use Rattle.aic_record.proofs.SoundLaws.{seen_nothing}

-- the record with all but its modes and its entries anew
abbrev pub with_words : Aic → ℕ → ℕ → ℕ → ℕ → ℕ → ℕ → List ℕ → Seen → Aic
with_words s lines enabled memory forced spurious debug vector seen =
    with_seen (with_vector (with_debug (with_spurious (with_forced (with_memory (with_enabled (with_lines s lines) enabled) memory) forced) spurious) debug) vector) seen

-- a level put in a slot is below no slot up to it
below_set : (level : List ℕ) (d p i : ℕ) → i ≤ d → level_below (set level d p) i ≡ level_below level i
unfolding level_below pick
below_set level d p i l = go (ℕ_discrete i 0)
  where
    go : Dec (i ≡ 0) → pick (eqb i 0) no_level (get_or (set level d p) (i - 1) 0) ≡ pick (eqb i 0) no_level (get_or level (i - 1) 0)
    go (yes e) = rw (eq-eqb i 0 e)
    go (no z) = rw (ne_eqb i 0 z) (get_or-set_other level d (i - 1) p 0 (omega arith))

-- below the first free slot there is the level of the last entry
below_last : (level : List ℕ) (d : ℕ) → d ≢ 0 → level_below level d ≡ get_or level (d - 1) 0
unfolding level_below
below_last level d n = sym (pick-false no_level (ne_eqb d 0 n))

module _ (s : Aic) (r : Rules s) where
  pub words-rules : (lines enabled memory forced spurious debug : ℕ) (vector : List ℕ) (seen : Seen) → ((k : ℕ) → k < 32 → edge s k ≡ false → bit memory k ≡ false)
      → debug < 4 → SeenFits (bit debug 0) seen (level_below s.level s.depth) s.depth → bit forced 0 ≡ false
      → Rules (with_words s lines enabled memory forced spurious debug vector seen)
  unfolding edge
  words-rules lines enabled memory forced spurious debug vector seen quiet kept fits unforced =
      record {
        entries = r.entries;
        sources = r.sources;
        marks = r.marks;
        levels = r.levels;
        above = r.above;
        unused = r.unused;
        memory = quiet;
        modes = r.modes;
        debug = kept;
        seen = fits;
        forced = unforced;
      }

  pub memory-rules : (w : ℕ) → ((k : ℕ) → k < 32 → edge s k ≡ false → bit w k ≡ false) → Rules (with_memory s w)
  memory-rules w quiet = words-rules s.lines s.enabled w s.forced s.spurious s.debug s.vector s.seen quiet r.debug r.seen r.forced

  -- a mode without dropped bits; a source that it makes a level one remembers nothing
  pub mode-rules : (k m : ℕ) → Shaped s → k < 32 → kept_mode m ≡ m → (edge_of m ≡ false → bit s.memory k ≡ false) → Rules (with_mode s (set s.mode k m))
  unfolding edge
  mode-rules k m h small kept quiet =
      record {
        entries = r.entries;
        sources = r.sources;
        marks = r.marks;
        levels = r.levels;
        above = r.above;
        unused = r.unused;
        memory = λ j l. quiets j l (ℕ_discrete j k);
        modes = λ j l. keeps j l (ℕ_discrete j k);
        debug = r.debug;
        seen = r.seen;
        forced = r.forced;
      }
    where
      new : get_or (set s.mode k m) k 0 ≡ m
      new = get_or-set_same s.mode k m 0 (omega (arith, h.0))

      quiets : (j : ℕ) → j < 32 → Dec (j ≡ k) → edge_of (get_or (set s.mode k m) j 0) ≡ false → bit s.memory j ≡ false
      quiets j l (yes e) = rw (e, new) quiet
      quiets j l (no d) = rw (get_or-set_other s.mode k j m 0 d) (r.memory j l)

      keeps : (j : ℕ) → j < 32 → Dec (j ≡ k) → kept_mode (get_or (set s.mode k m) j 0) ≡ get_or (set s.mode k m) j 0
      keeps j l (yes e) = rw (e, new) kept
      keeps j l (no d) = rw (get_or-set_other s.mode k j m 0 d) (r.modes j l)

  -- an entry opened, with nothing remembered: a mark at the level of the last one, or a handler above it
  module _ (k p : ℕ) (h : Shaped s) (high : k ≤ 31) (room : s.depth < 8) (mark : k ≡ 0 → p ≡ level_below s.level s.depth)
      (real : k ≢ 0 → (p ≤ 7) × Over (level_below s.level s.depth) p) (quiet : s.seen.what ≡ 0) where
    abbrev pushed : Aic
    pushed = with_handlers s (set s.source s.depth k) (set s.level s.depth p) (s.depth + 1)

    pub push-rules : Rules (with_handlers s (set s.source s.depth k) (set s.level s.depth p) (s.depth + 1))
    unfolding edge
    push-rules =
        record {
          entries = omega arith;
          sources = λ i l. seats i l (ℕ_discrete i s.depth);
          marks = λ i l. marks i l (ℕ_discrete i s.depth);
          levels = λ i l. small i l (ℕ_discrete i s.depth);
          above = λ i l. rise i l (ℕ_discrete i s.depth);
          unused = λ i l m. rw (old_source i (omega arith), old_level i (omega arith)) (r.unused i (omega arith) m);
          memory = r.memory;
          modes = r.modes;
          debug = r.debug;
          seen = seen_nothing _ _ s.seen _ _ _ _ r.seen quiet;
          forced = r.forced;
        }
      where
        new_source : source_at pushed s.depth ≡ k
        new_source = get_or-set_same s.source s.depth k 0 (omega (arith, h.2))

        new_level : level_at pushed s.depth ≡ p
        new_level = get_or-set_same s.level s.depth p 0 (omega (arith, h.3))

        old_source : (i : ℕ) → i ≢ s.depth → source_at pushed i ≡ source_at s i
        old_source i d = get_or-set_other s.source s.depth i k 0 d

        old_level : (i : ℕ) → i ≢ s.depth → level_at pushed i ≡ level_at s i
        old_level i d = get_or-set_other s.level s.depth i p 0 d

        old_below : (i : ℕ) → i ≤ s.depth → level_below pushed.level i ≡ level_below s.level i
        old_below i l = below_set s.level s.depth p i l

        seats : (i : ℕ) → i < s.depth + 1 → Dec (i ≡ s.depth) → source_at pushed i ≤ 31
        seats i l (yes e) = rw (e, new_source) high
        seats i l (no d) = rw (old_source i d) (r.sources i (omega arith))

        marks : (i : ℕ) → i < s.depth + 1 → Dec (i ≡ s.depth) → source_at pushed i ≡ 0 → level_at pushed i ≡ level_below pushed.level i
        marks i l (yes e) = rw (e, new_source, new_level, old_below s.depth (omega arith)) mark
        marks i l (no d) = rw (old_source i d, old_level i d, old_below i (omega arith)) (r.marks i (omega arith))

        small : (i : ℕ) → i < s.depth + 1 → Dec (i ≡ s.depth) → source_at pushed i ≢ 0 → level_at pushed i ≤ 7
        small i l (yes e) = rw (e, new_source, new_level) (λ n. (real n).0)
        small i l (no d) = rw (old_source i d, old_level i d) (r.levels i (omega arith))

        rise : (i : ℕ) → i < s.depth + 1 → Dec (i ≡ s.depth) → source_at pushed i ≢ 0 → Over (level_below pushed.level i) (level_at pushed i)
        rise i l (yes e) = rw (e, new_source, new_level, old_below s.depth (omega arith)) (λ n. (real n).1)
        rise i l (no d) = rw (old_source i d, old_level i d, old_below i (omega arith)) (r.above i (omega arith))

  -- the last entry closed
  module _ (h : Shaped s) (some : s.depth ≢ 0) where
    abbrev popped : Aic
    popped = with_handlers s (set s.source (s.depth - 1) 0) (set s.level (s.depth - 1) 0) (s.depth - 1)

    pub pop-rules : Rules (with_handlers s (set s.source (s.depth - 1) 0) (set s.level (s.depth - 1) 0) (s.depth - 1))
    unfolding edge
    pop-rules =
        record {
          entries = omega (arith, r.entries);
          sources = λ i l. rw (old_source i (omega arith)) (r.sources i (omega arith));
          marks = λ i l. rw (old_source i (omega arith), old_level i (omega arith), old_below i (omega arith)) (r.marks i (omega arith));
          levels = λ i l. rw (old_source i (omega arith), old_level i (omega arith)) (r.levels i (omega arith));
          above = λ i l. rw (old_source i (omega arith), old_level i (omega arith), old_below i (omega arith)) (r.above i (omega arith));
          unused = λ i l m. empty i l m (ℕ_discrete i (s.depth - 1));
          memory = r.memory;
          modes = r.modes;
          debug = r.debug;
          seen = record {
            few = r.seen.few;
            mode = r.seen.mode;
            bare = r.seen.bare;
            source = r.seen.source;
            level = λ w. let f = r.seen.level w in (f.0, rw (old_below (s.depth - 1) (omega arith)) (falls s.seen.level f.1));
            room = λ w. omega (arith, r.seen.room w);
          };
          forced = r.forced;
        }
      where
        -- what is above the last entry is above the one below it
        falls : (p : ℕ) → Over (level_below s.level s.depth) p → Over (level_below s.level (s.depth - 1)) p
        falls p o = go (ℕ_discrete (source_at s (s.depth - 1)) 0)
          where
            last : level_below s.level s.depth ≡ level_at s (s.depth - 1)
            last = below_last s.level s.depth some

            go : Dec (source_at s (s.depth - 1) ≡ 0) → Over (level_below s.level (s.depth - 1)) p
            go (yes z) = rw (← r.marks (s.depth - 1) (omega arith) z, ← last) o
            go (no d) =
                ⊎_elim (λ (q : level_below s.level (s.depth - 1) ≡ no_level). inl q)
                (λ (q : level_below s.level (s.depth - 1) < level_at s (s.depth - 1)). ⊎_elim
                (λ (u : level_below s.level s.depth ≡ no_level). absurd (omega (arith, last, r.levels (s.depth - 1) (omega arith) d)))
                (λ (u : level_below s.level s.depth < p). inr (omega (arith, last))) o)
                (r.above (s.depth - 1) (omega arith) d)

        old_source : (i : ℕ) → i ≢ s.depth - 1 → source_at popped i ≡ source_at s i
        old_source i d = get_or-set_other s.source (s.depth - 1) i 0 0 d

        old_level : (i : ℕ) → i ≢ s.depth - 1 → level_at popped i ≡ level_at s i
        old_level i d = get_or-set_other s.level (s.depth - 1) i 0 0 d

        old_below : (i : ℕ) → i ≤ s.depth - 1 → level_below popped.level i ≡ level_below s.level i
        old_below i l = below_set s.level (s.depth - 1) 0 i l

        empty : (i : ℕ) → s.depth - 1 ≤ i → i < 8 → Dec (i ≡ s.depth - 1) → (source_at popped i ≡ 0) × (level_at popped i ≡ 0)
        empty i l m (yes e) = rw e (
          get_or-set_same s.source (s.depth - 1) 0 0 (omega (arith, h.2, r.entries)),
          get_or-set_same s.level (s.depth - 1) 0 0 (omega (arith, h.3, r.entries)),
        )
        empty i l m (no d) = rw (old_source i d, old_level i d) (r.unused i (omega arith) m)
