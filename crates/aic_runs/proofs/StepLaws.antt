-- What one step does to the modes, to the number of open entries, and to what a source is owed: a lemma for each kind of step.
use Prim.Native.Nat.{ℕ, ◌+◌, ◌≤◌, ◌<◌}
use mathlib.Core.Path.{◌≡◌, refl, sym, ap, ◌∙◌}
use mathlib.Core.Bool.{Bool, true, false, not, ◌&&◌, ◌||◌, and-false, true≢false}
use mathlib.Core.Logic.{◌≢◌, ◌⊎◌, inl, inr}
use native.Mathlib.Omega.{arith}
use native.Mathlib.Decide.{ℕ_discrete}
use lib.Dec.{eqb}
use lib.ListN.{set}
use borrow.Author.Tests.{eqb-true, eq-eqb, ne_eqb, lt-ltb}
use Rattle.words.specs.Counting.{one}
use Rattle.words.specs.Word.{bit}
use Rattle.words.proofs.ChoiceLaws.{pick_cases, pick_true}
use Rattle.words.proofs.TruthLaws.{clash}
use Rattle.words.proofs.CountingLaws.{one_le}
use Rattle.words.proofs.WordLaws.{bit-either, bit-both}
use Rattle.steps.specs.declared.Step.{Step}
use Rattle.steps.specs.declared.Step.TheVariants.{Read, Write, Line}
use Rattle.aic_record.specs.declared.Aic.{Aic}
use Rattle.aic_record.specs.Record.{nothing_seen, with_memory, with_debug, with_handlers, with_seen}
use Rattle.aic_record.specs.Mode.{priority, edge}
use Rattle.aic_record.specs.Sound.{level_below, protects, sound}
use Rattle.aic_record.proofs.SoundLaws.{seen-sound, seen_outside}
use Rattle.aic_sources.specs.Pending.{active, pending, edge_word}
use Rattle.aic_sources.specs.Fast.{fast}
use Rattle.aic_sources.specs.Normal.{ahead, candidate, candidates, chosen}
use Rattle.aic_sources.proofs.HandlerLaws.{candidate-waits, waiting-is}
use Rattle.aic_sources.proofs.OrderLaws.{chosen_is}
use Rattle.aic_registers.specs.Map.{ivr, iscr, eoicr, ffer, ffdr}
use Rattle.aic_registers.specs.Handlers.{opened, started_at, closed_last, source_seen, none_seen}
use Rattle.aic_registers.specs.Effects.{moded, set_by, turns, moved}
use Rattle.aic.specs.Model.{step}
use Rattle.words.proofs.WordLaws.{bit-cleared_if, bit-put_if}
use Rattle.aic.proofs.HandlerLaws.{started-is, moved-is, moded-is}
use Rattle.aic.proofs.StepKindLaws.{kinds}
use Rattle.aic_runs.specs.Counted.{starts, started_by, level_of, recalls, starts_of, starts_other, strays, closes, edges, commands, rewrites}
use Rattle.aic_runs.specs.Runs.{owed}
use Rattle.aic_runs.proofs.CountedLaws.{plain-start, write-start, line-start, no_start, no_other, look-start, take-start, take-chosen, take_level, chosen-room, mark-chosen, none_of, none_other, begin-start, begin_source, begin_level, begin-none, plain_close, read_close, line_close, other_close, close_close, set_command, line_rise, mode-rewrite, forcing-rewrite}

-- ---- the modes and the forcing

pub modes_law : (s : Aic) (x : Step) → rewrites s x ≡ false → ((step s x).aic.mode ≡ s.mode) × ((step s x).aic.forced ≡ s.forced)
unfolding opened closed_last set_by
modes_law s =
    kinds s (λ x t. rewrites s x ≡ false → (t.mode ≡ s.mode) × (t.forced ≡ s.forced))
    (record {
      still = λ x p r. (refl, refl);
      store = λ o v e u m vs ok p q l r. (refl, refl);
      fall = λ x w ok p f r. (refl, refl);
      remode = λ o k v ok e l r. clash (mode-rewrite s o k v ok e l) r;
      reforce = λ o v f ok e z r. clash (forcing-rewrite s o v ok e) r;
      drop = λ o v m ok p l r. (refl, refl);
      take = λ ok i c r. rw (started-is s (chosen s) (priority s (chosen s))) (refl, refl);
      mark = λ ok i n l r. (refl, refl);
      look = λ ok i c r. (refl, refl);
      look_none = λ ok i n r. (refl, refl);
      begin = λ v ok i w r. rw (started-is s s.seen.source s.seen.level) (refl, refl);
      begin_mark = λ v ok i z w l r. (refl, refl);
      close = λ v ok d r. (refl, refl);
      command = λ v ok r. (refl, refl);
      move = λ k l ok m n r. rw (moved-is s k (eqb l 1)) (refl, refl);
    })

-- ---- the open entries

not-ivr : (o : ℕ) → (o ≡ ffer) ⊎ (o ≡ ffdr) → o ≢ ivr
not-ivr o (inl e) = omega arith
not-ivr o (inr e) = omega arith

not-eoicr : (o : ℕ) → (o ≡ ffer) ⊎ (o ≡ ffdr) → o ≢ eoicr
not-eoicr o (inl e) = omega arith
not-eoicr o (inr e) = omega arith

pub depth_law : (s : Aic) (x : Step) → (step s x).aic.depth + one (closes s x) ≡ s.depth + one (starts s x)
unfolding opened closed_last set_by moded
depth_law s =
    kinds s (λ x t. t.depth + one (closes s x) ≡ s.depth + one (starts s x))
    (record {
      still = λ x p. rw (plain-start s x p, plain_close s x p);
      store = λ o v e u m vs ok p q l. rw (plain-start s (Write o v) p, plain_close s (Write o v) p);
      fall = λ x w ok p f. rw (plain-start s x p, plain_close s x p);
      remode = λ o k v ok e l. rw (write-start s o v (omega arith), other_close s o v (omega arith)) (pick_cases (λ (t : Aic). t.depth + 0 ≡ s.depth + 0) _ (λ _. refl) (λ _. refl));
      reforce = λ o v f ok e z. rw (write-start s o v (not-ivr o e), other_close s o v (not-eoicr o e));
      drop = λ o v m ok p l. rw (plain-start s (Write o v) p, plain_close s (Write o v) p);
      take = λ ok i c. rw (started-is s (chosen s) (priority s (chosen s)), take-start s ok i (chosen-room s c), read_close s ivr) (omega arith);
      mark = λ ok i n l. rw (take-start s ok i l, read_close s ivr) (omega arith);
      look = λ ok i c. rw (look-start s i, read_close s ivr);
      look_none = λ ok i n. rw (look-start s i, read_close s ivr);
      begin = λ v ok i w.
          rw (started-is s s.seen.source s.seen.level, begin-start s v ok i (omega arith) ((seen-sound s ok).room w), other_close s ivr v (omega arith)) (omega arith);
      begin_mark = λ v ok i z w l. rw (begin-start s v ok i z l, other_close s ivr v (omega arith)) (omega arith);
      close = λ v ok d. rw (write-start s eoicr v (omega arith), close_close s v ok d) (omega arith);
      command = λ v ok. rw (write-start s iscr v (omega arith), other_close s iscr v (omega arith));
      move = λ k l ok m n. rw (moved-is s k (eqb l 1), line-start s k l, line_close s k l);
    })

-- outside protect mode nothing is remembered
pub unseen : (s : Aic) → sound s ≡ true → protects s ≡ false → s.seen.what ≡ 0
unseen s ok i = seen_outside _ s.seen _ _ (seen-sound s ok) i

-- a start, of the handler of a source or of a mark; after it nothing is remembered
abbrev Opens : Aic → Step → Aic → Type 0
Opens s x t =
    (started_by s x < 32 → t ≡ with_seen (started_at s (started_by s x) (level_of s x)) t.seen)
    × (32 ≤ started_by s x → t ≡ with_seen (with_handlers s (set s.source s.depth 0) (set s.level s.depth (level_below s.level s.depth)) (s.depth + 1)) t.seen)
    × (t.seen.what ≡ 0)

pub start_law : (s : Aic) (x : Step) → starts s x ≡ true → Opens s x (step s x).aic
unfolding opened
start_law s =
    kinds s (λ x t. starts s x ≡ true → Opens s x t)
    (record {
      still = λ x p h. clash h (plain-start s x p);
      store = λ o v e u m vs ok p q l h. clash h (plain-start s (Write o v) p);
      drop = λ o v m ok p l h. clash h (plain-start s (Write o v) p);
      fall = λ x w ok p f h. clash h (plain-start s x p);
      remode = λ o k v ok e l h. clash h (write-start s o v (omega arith));
      reforce = λ o v f ok e z h. clash h (write-start s o v (not-ivr o e));
      take = λ ok i c h. (
        λ _. rw (take-chosen s ok i, take_level s ok i),
        λ l. absurd (omega (arith, take-chosen s ok i, (chosen_is s c).below)),
        rw (started-is s (chosen s) (priority s (chosen s))) (unseen s ok i),
      );
      mark = λ ok i n l h. (λ m. absurd (omega (arith, mark-chosen s ok i n)), λ _. refl, unseen s ok i);
      look = λ ok i c h. clash h (look-start s i);
      look_none = λ ok i n h. clash h (look-start s i);
      begin = λ v ok i w h. (
        λ _. rw (begin_source s v ok i w, begin_level s v ok i),
        λ l. absurd (omega (arith, begin_source s v ok i w, ((seen-sound s ok).source w).1)),
        refl,
      );
      begin_mark = λ v ok i z w l h. (λ m. absurd (omega (arith, begin-none s v ok i w)), λ _. refl, refl);
      close = λ v ok d h. clash h (write-start s eoicr v (omega arith));
      command = λ v ok h. clash h (write-start s iscr v (omega arith));
      move = λ k l ok m n h. clash h (line-start s k l);
    })

-- a close, and any other step
pub close_law : (s : Aic) (x : Step) → closes s x ≡ true → (step s x).aic ≡ closed_last s
close_law s =
    kinds s (λ x t. closes s x ≡ true → t ≡ closed_last s)
    (record {
      still = λ x p h. clash h (plain_close s x p);
      store = λ o v e u m vs ok p q l h. clash h (plain_close s (Write o v) p);
      fall = λ x w ok p f h. clash h (plain_close s x p);
      remode = λ o k v ok e l h. clash h (other_close s o v (omega arith));
      reforce = λ o v f ok e z h. clash h (other_close s o v (not-eoicr o e));
      drop = λ o v m ok p l h. clash h (plain_close s (Write o v) p);
      take = λ ok i c h. clash h (read_close s ivr);
      mark = λ ok i n l h. clash h (read_close s ivr);
      look = λ ok i c h. clash h (read_close s ivr);
      look_none = λ ok i n h. clash h (read_close s ivr);
      begin = λ v ok i w h. clash h (other_close s ivr v (omega arith));
      begin_mark = λ v ok i z w l h. clash h (other_close s ivr v (omega arith));
      close = λ v ok d h. refl;
      command = λ v ok h. clash h (other_close s iscr v (omega arith));
      move = λ k l ok m n h. clash h (line_close s k l);
    })

pub other_law : (s : Aic) (x : Step) → starts s x ≡ false → closes s x ≡ false
    → ((step s x).aic.source ≡ s.source) × ((step s x).aic.level ≡ s.level) × ((step s x).aic.depth ≡ s.depth)
unfolding set_by moded
other_law s =
    kinds s (λ x t. starts s x ≡ false → closes s x ≡ false → (t.source ≡ s.source) × (t.level ≡ s.level) × (t.depth ≡ s.depth))
    (record {
      still = λ x p a c. (refl, refl, refl);
      store = λ o v e u m vs ok p q l a c. (refl, refl, refl);
      fall = λ x w ok p f a c. (refl, refl, refl);
      remode = λ o k v ok e l a c. pick_cases (λ (t : Aic). (t.source ≡ s.source) × (t.level ≡ s.level) × (t.depth ≡ s.depth)) _ (λ _. (refl, refl, refl)) (λ _. (refl, refl, refl));
      reforce = λ o v f ok e z a c. (refl, refl, refl);
      drop = λ o v m ok p l a c. (refl, refl, refl);
      take = λ ok i d a c. clash (take-start s ok i (chosen-room s d)) a;
      mark = λ ok i n l a c. clash (take-start s ok i l) a;
      look = λ ok i d a c. (refl, refl, refl);
      look_none = λ ok i n a c. (refl, refl, refl);
      begin = λ v ok i w a c. clash (begin-start s v ok i (omega arith) ((seen-sound s ok).room w)) a;
      begin_mark = λ v ok i z w l a c. clash (begin-start s v ok i z l) a;
      close = λ v ok d a c. clash (close_close s v ok d) c;
      command = λ v ok a c. (refl, refl, refl);
      move = λ k l ok m n a c. rw (moved-is s k (eqb l 1)) (refl, refl, refl);
    })

-- ---- what an edge-triggered source is owed

-- truth values as numbers, where c says that the source is remembered: a memory that brings no more, one that is forgotten, one that is set by
-- another, one that goes with a start, one that goes with the start of what is remembered, one that is set by an edge
or_brings : (a b c : Bool) → (a ≡ true → b ≡ true) → one (a || c) ≤ one (b || c)
or_brings true b c h = rw (h refl) (omega arith)
or_brings false true c h = omega (arith, one_le c)
or_brings false false c h = omega arith

or-drop : (m c : Bool) → one (m || false) ≤ one (m || c)
or-drop true c = omega arith
or-drop false c = omega arith

or-look : (m q c : Bool) → (q ≡ true → m ≡ true) → one (m || q) ≤ one (m || c)
or-look true q c h = omega arith
or-look false true c h = absurd (true≢false (sym (h refl)))
or-look false false c h = omega arith

one_set : (m a b c : Bool) → one ((m || (a && b)) || c) ≤ one (m || c) + one a
one_set true a b c = omega arith
one_set false true b c = omega (arith, one_le (b || c))
one_set false false b c = omega arith

one-gone : (m q e c : Bool) → c ≡ false → (q ≡ true → (m ≡ true) × (e ≡ true)) → one ((m && not (q && e)) || c) + one q ≤ one (m || c)
one-gone m true e c z h = let k = h refl in rw (k.0, k.1, z) (omega arith)
one-gone true false e c z h = omega arith
one-gone false false e c z h = omega arith

one-begun : (m q e : Bool) → (q ≡ true → e ≡ true) → one ((m && not (q && e)) || false) + one q ≤ one (m || q)
one-begun true true e h = rw (h refl) (omega arith)
one-begun false true e h = omega arith
one-begun true false e h = omega arith
one-begun false false e h = omega arith

one-turned : (m q e t c : Bool) → one ((m || (q && (e && t))) || c) ≤ one (m || c) + one (q && t && true)
one-turned true q e t c = omega arith
one-turned false true true true c = omega arith
one-turned false true true false c = omega arith
one-turned false true false t c = omega arith
one-turned false false e t c = omega arith

-- an edge-triggered candidate has its memory set
candidate_memory : (s : Aic) (i : ℕ) → edge s i ≡ true → candidate s i ≡ true → bit s.memory i ≡ true
unfolding pending
candidate_memory s i e c = pick_true (active s i) e ∙ (waiting-is s i (candidate-waits s i c)).0

-- what an edge-triggered source may still start: its memory is set, or it is remembered
unfoldable pub demand : Aic → ℕ → Bool
demand s i = bit s.memory i || recalls i s

module _ (s : Aic) (i : ℕ) (small : i < 32) (edgy : edge s i ≡ true) where
  -- what it may start after, and a start, are paid by what it might before, an edge or a command
  abbrev Paid : Step → Aic → Type 0
  Paid x t = one (demand t i) + one (starts_of i s x) ≤ one (demand s i) + (one (edges i s x) + one (commands i s x))

  no_gain : (x : Step) (w : ℕ) → starts s x ≡ false → (bit w i ≡ true → bit s.memory i ≡ true) → Paid x (with_memory s w)
  unfolding demand recalls
  no_gain x w n h = rw (no_start s x n i small) (omega (arith, or_brings (bit w i) (bit s.memory i) (recalls i s) h))

  -- what is remembered is no longer, and no handler of i is started
  no-more : (x : Step) (t : Aic) → starts_of i s x ≡ false → t.memory ≡ s.memory → recalls i t ≡ false → Paid x t
  unfolding demand
  no-more x t n e c = rw (n, c, e) (omega (arith, or-drop (bit s.memory i) (recalls i s)))

  taken : sound s ≡ true → protects s ≡ false → candidates s ≡ true → Paid (Read ivr) (started_at s (chosen s) (priority s (chosen s)))
  unfolding starts_of demand recalls
  taken ok out c =
      rw (started-is s (chosen s) (priority s (chosen s)), bit-cleared_if s.memory (chosen s) (edge s (chosen s)) i small, take-chosen s ok out)
      (omega (arith, one-gone (bit s.memory i) (eqb i (chosen s)) (edge s (chosen s)) (recalls i s) quiet (λ q. mine (eqb-true i (chosen s) q))))
    where
      quiet : recalls i s ≡ false
      quiet = rw (ne_eqb s.seen.what 1 (λ w. omega (arith, unseen s ok out)))

      mine : i ≡ chosen s → (bit s.memory i ≡ true) × (edge s (chosen s) ≡ true)
      mine q = (candidate_memory s i edgy (rw q (chosen_is s c).fit), rw q at edgy)

  looked : protects s ≡ true → candidates s ≡ true → Paid (Read ivr) (with_seen s (source_seen s (chosen s)))
  unfolding demand recalls
  looked on c =
      rw (no_start s (Read ivr) (look-start s on) i small)
      (omega (
        arith,
        or-look (bit s.memory i) (eqb i (chosen s)) (recalls i s)
            (λ q. candidate_memory s i edgy (rw (eqb-true i (chosen s) q) (chosen_is s c).fit)),
      ))

  begun_source : (v : ℕ) → sound s ≡ true → protects s ≡ true → s.seen.what ≡ 1 → Paid (Write ivr v) (with_seen (started_at s s.seen.source s.seen.level) nothing_seen)
  unfolding starts_of demand recalls
  begun_source v ok on w =
      rw (
        started-is s s.seen.source s.seen.level,
        bit-cleared_if s.memory s.seen.source (edge s s.seen.source) i small,
        begin_source s v ok on w,
        eq-eqb s.seen.what 1 w,
      )
      (omega (arith, one-begun (bit s.memory i) (eqb i s.seen.source) (edge s s.seen.source) (λ q. rw (eqb-true i s.seen.source q) at edgy)))

  commanded : (v : ℕ) → sound s ≡ true → Paid (Write iscr v) (set_by s v)
  unfolding set_by demand recalls
  commanded v ok =
      rw (bit-either, bit-both, no_start s (Write iscr v) (write-start s iscr v (omega arith)) i small, set_command s v i ok)
      (omega (arith, one_set (bit s.memory i) (bit v i) (bit (edge_word s) i) (recalls i s)))

  turned : (k l : ℕ) → sound s ≡ true → k < 32 → l ≤ 1 → Paid (Line k l) (moved s k (eqb l 1))
  unfolding edges demand recalls
  turned k l ok m n =
      rw (
        moved-is s k (eqb l 1),
        bit-put_if s.memory k (edge s k && turns s k (eqb l 1)) i small,
        no_start s (Line k l) (line-start s k l) i small,
        line_rise s k l i ok m n,
        edgy,
      )
      (omega (arith, one-turned (bit s.memory i) (eqb i k) (edge s k) (turns s k (eqb l 1)) (recalls i s)))

  pub demand_law : (x : Step) → rewrites s x ≡ false → Paid x (step s x).aic
  unfolding opened closed_last recalls demand
  demand_law =
      kinds s (λ x t. rewrites s x ≡ false → Paid x t)
      (record {
        still = λ x p r. no_gain x s.memory (plain-start s x p) (λ h. h);
        store = λ o v e u m vs ok p q l r. no_gain (Write o v) s.memory (plain-start s (Write o v) p) (λ h. h);
        drop = λ o v m ok p l r. no-more (Write o v) (with_seen (with_debug s m) nothing_seen) (no_start s (Write o v) (plain-start s (Write o v) p) i small) refl refl;
        fall = λ x w ok p f r. no_gain x w (plain-start s x p) (f i small);
        remode = λ o k v ok e l r. clash (mode-rewrite s o k v ok e l) r;
        reforce = λ o v f ok e z r. clash (forcing-rewrite s o v ok e) r;
        take = λ ok out c r. taken ok out c;
        mark = λ ok out n l r. rw (none_of s (Read ivr) (mark-chosen s ok out n) i small) (omega arith);
        look = λ ok on c r. looked on c;
        look_none = λ ok on n r. no-more (Read ivr) (with_seen s none_seen) (no_start s (Read ivr) (look-start s on) i small) refl refl;
        begin = λ v ok on w r. begun_source v ok on w;
        begin_mark = λ v ok on z w l r.
            no-more (Write ivr v) (with_seen (opened s 0 (level_below s.level s.depth)) nothing_seen) (none_of s (Write ivr v) (begin-none s v ok on w) i small) refl refl;
        close = λ v ok d r. no_gain (Write eoicr v) s.memory (write-start s eoicr v (omega arith)) (λ h. h);
        command = λ v ok r. commanded v ok;
        move = λ k l ok m n r. turned k l ok m n;
      })

-- ---- what stays while no mode and no forcing is rewritten

pub edge_modes : (s u : Aic) (i : ℕ) → u.mode ≡ s.mode → edge u i ≡ edge s i
unfolding edge
edge_modes s u i e = rw e

pub ahead_modes : (s u : Aic) (a b : ℕ) → u.mode ≡ s.mode → ahead u a b ≡ ahead s a b
unfolding ahead priority
ahead_modes s u a b e = rw e

pub fast_forcing : (s u : Aic) (i : ℕ) → u.forced ≡ s.forced → fast u i ≡ fast s i
unfolding fast
fast_forcing s u i e = rw e

-- an edge-triggered source is owed what its memory says
owed_memory : (s : Aic) (i : ℕ) → edge s i ≡ true → owed s i ≡ one (bit s.memory i)
unfolding owed pending
owed_memory s i e = ap one (sym (pick_true (active s i) e))

-- what it may start is what it is owed, and one more if it is remembered
pub demand-owed : (s : Aic) (i : ℕ) → edge s i ≡ true → (owed s i ≤ one (demand s i)) × (one (demand s i) ≤ owed s i + one (recalls i s))
unfolding demand
demand-owed s i e = rw (owed_memory s i e) (go (bit s.memory i) (recalls i s))
  where
    go : (m c : Bool) → (one m ≤ one (m || c)) × (one (m || c) ≤ one m + one c)
    go true c = (omega arith, omega arith)
    go false c = (omega arith, omega arith)

-- ---- what is remembered and is neither k nor passes a test

unfoldable pub lost : (ℕ → Bool) → ℕ → Aic → Bool
lost t k s = eqb s.seen.what 1 && (not (eqb k s.seen.source) && not (t s.seen.source))

module _ (t : ℕ → Bool) (k : ℕ) (s : Aic) (fair : candidates s ≡ true → chosen s ≢ k → t (chosen s) ≡ true) where
  -- what is chosen is k or passes
  chosen_fair : candidates s ≡ true → (not (eqb k (chosen s)) && not (t (chosen s))) ≡ false
  chosen_fair c = go (ℕ_discrete (chosen s) k)
    where
      go : Dec (chosen s ≡ k) → (not (eqb k (chosen s)) && not (t (chosen s))) ≡ false
      go (yes e) = rw (eq-eqb k (chosen s) (sym e))
      go (no d) = rw (fair c d) (and-false (not (eqb k (chosen s))))

  no_stray : (x : Step) → starts_other k s x ≡ false → strays t k s x ≡ false
  unfolding strays
  no_stray x n = rw n

  taken_stray : sound s ≡ true → protects s ≡ false → candidates s ≡ true → strays t k s (Read ivr) ≡ false
  unfolding strays starts_other starts_of
  taken_stray ok out c =
      rw (take-chosen s ok out, lt-ltb (chosen s) 32 (chosen_is s c).below) (chosen_fair c)

  begun_stray : (v : ℕ) → sound s ≡ true → protects s ≡ true → s.seen.what ≡ 1 → strays t k s (Write ivr v) ≡ lost t k s
  unfolding strays starts_other starts_of lost
  begun_stray v ok on w =
      rw (begin_source s v ok on w, eq-eqb s.seen.what 1 w, lt-ltb s.seen.source 32 (omega (arith, ((seen-sound s ok).source w).1)))

  -- a start of one that is lost is paid by its being remembered
  pub stray_law : (x : Step) → one (lost t k (step s x).aic) + one (strays t k s x) ≤ one (lost t k s)
  unfolding lost opened closed_last set_by
  stray_law =
      kinds s (λ x u. one (lost t k u) + one (strays t k s x) ≤ one (lost t k s))
      (record {
        still = λ x p. rw (no_stray x (no_other s x (plain-start s x p) k)) (omega arith);
        store = λ o v e u m vs ok p q l. rw (no_stray (Write o v) (no_other s (Write o v) (plain-start s (Write o v) p) k)) (omega arith);
        drop = λ o v m ok p l. rw (no_stray (Write o v) (no_other s (Write o v) (plain-start s (Write o v) p) k)) (omega arith);
        fall = λ x w ok p f. rw (no_stray x (no_other s x (plain-start s x p) k)) (omega arith);
        remode = λ o j v ok e l.
            rw (no_stray (Write o v) (no_other s (Write o v) (write-start s o v (omega arith)) k), moded-is s j v) (omega arith);
        reforce = λ o v f ok e z. rw (no_stray (Write o v) (no_other s (Write o v) (write-start s o v (not-ivr o e)) k)) (omega arith);
        take = λ ok out c. rw (taken_stray ok out c, started-is s (chosen s) (priority s (chosen s))) (omega arith);
        mark = λ ok out n l. rw (no_stray (Read ivr) (none_other s (Read ivr) (mark-chosen s ok out n) k)) (omega arith);
        look = λ ok on c. rw (no_stray (Read ivr) (no_other s (Read ivr) (look-start s on) k), chosen_fair c) (omega arith);
        look_none = λ ok on n. rw (no_stray (Read ivr) (no_other s (Read ivr) (look-start s on) k)) (omega arith);
        begin = λ v ok on w. rw (begun_stray v ok on w) (unfold lost in (omega arith));
        begin_mark = λ v ok on z w l. rw (no_stray (Write ivr v) (none_other s (Write ivr v) (begin-none s v ok on w) k)) (omega arith);
        close = λ v ok d. rw (no_stray (Write eoicr v) (no_other s (Write eoicr v) (write-start s eoicr v (omega arith)) k)) (omega arith);
        command = λ v ok. rw (no_stray (Write iscr v) (no_other s (Write iscr v) (write-start s iscr v (omega arith)) k)) (omega arith);
        move = λ j l ok m n. rw (no_stray (Line j l) (no_other s (Line j l) (line-start s j l) k), moved-is s j (eqb l 1)) (omega arith);
      })

  -- and it is the one that was remembered
  pub stray_who : (x : Step) → (lost t k (step s x).aic ≡ true → (step s x).aic.seen.source ≡ s.seen.source) × (strays t k s x ≡ true → started_by s x ≡ s.seen.source)
  unfolding lost opened closed_last set_by
  stray_who =
      kinds s (λ x u. (lost t k u ≡ true → u.seen.source ≡ s.seen.source) × (strays t k s x ≡ true → started_by s x ≡ s.seen.source))
      (record {
        still = λ x p. (λ _. refl, λ h. clash h (no_stray x (no_other s x (plain-start s x p) k)));
        store = λ o v e u m vs ok p q l. (λ _. refl, λ h. clash h (no_stray (Write o v) (no_other s (Write o v) (plain-start s (Write o v) p) k)));
        drop = λ o v m ok p l. (λ h. clash h refl, λ h. clash h (no_stray (Write o v) (no_other s (Write o v) (plain-start s (Write o v) p) k)));
        fall = λ x w ok p f. (λ _. refl, λ h. clash h (no_stray x (no_other s x (plain-start s x p) k)));
        remode = λ o j v ok e l.
            (rw (moded-is s j v) (λ _. refl), λ h. clash h (no_stray (Write o v) (no_other s (Write o v) (write-start s o v (omega arith)) k)));
        reforce = λ o v f ok e z. (λ _. refl, λ h. clash h (no_stray (Write o v) (no_other s (Write o v) (write-start s o v (not-ivr o e)) k)));
        take = λ ok out c. (rw (started-is s (chosen s) (priority s (chosen s))) (λ _. refl), λ h. clash h (taken_stray ok out c));
        mark = λ ok out n l. (λ _. refl, λ h. clash h (no_stray (Read ivr) (none_other s (Read ivr) (mark-chosen s ok out n) k)));
        look = λ ok on c. (λ h. clash h (chosen_fair c), λ h. clash h (no_stray (Read ivr) (no_other s (Read ivr) (look-start s on) k)));
        look_none = λ ok on n. (λ h. clash h refl, λ h. clash h (no_stray (Read ivr) (no_other s (Read ivr) (look-start s on) k)));
        begin = λ v ok on w. (λ h. clash h refl, λ _. begin_source s v ok on w);
        begin_mark = λ v ok on z w l. (λ h. clash h refl, λ h. clash h (no_stray (Write ivr v) (none_other s (Write ivr v) (begin-none s v ok on w) k)));
        close = λ v ok d. (λ _. refl, λ h. clash h (no_stray (Write eoicr v) (no_other s (Write eoicr v) (write-start s eoicr v (omega arith)) k)));
        command = λ v ok. (λ _. refl, λ h. clash h (no_stray (Write iscr v) (no_other s (Write iscr v) (write-start s iscr v (omega arith)) k)));
        move = λ j l ok m n. (rw (moved-is s j (eqb l 1)) (λ _. refl), λ h. clash h (no_stray (Line j l) (no_other s (Line j l) (line-start s j l) k)));
      })
