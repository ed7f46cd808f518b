-- Every step keeps a sound record sound, and its arrays at their lengths: one lemma for each kind of step.
use Prim.Native.Nat.{ℕ, ◌-◌, ◌%◌, ◌<◌}
use mathlib.Core.Path.{◌≡◌, refl, sym, ap, ◌∙◌}
use mathlib.Core.Bool.{Bool, true, false, not, ◌&&◌, and-false}
use native.Mathlib.Omega.{arith}
use lib.Dec.{eqb}
use lib.ListN.{length-set}
use borrow.Author.Tests.{eqb-true, eq-eqb, not-false}
use Rattle.words.specs.Choice.{pick}
use Rattle.words.specs.Word.{bit, either, both, with_bit}
use Rattle.words.proofs.ChoiceLaws.{pick_cases}
use Rattle.words.proofs.TruthLaws.{and_left, and_right, clash, not-holds}
use Rattle.words.proofs.WordLaws.{bit-word_of, bit-either, bit-both}
use Rattle.steps.specs.declared.Step.{Step}
use Rattle.aic_record.specs.declared.Aic.{Aic}
use Rattle.aic_record.specs.Record.{nothing_seen, with_memory, with_seen}
use Rattle.aic_record.specs.declared.Seen.{Seen}
use Rattle.aic_record.specs.Mode.{type_of, kept_mode, edge_of, priority, kind, edge}
use Rattle.aic_record.specs.Sound.{level_below, protects, sound}
use Rattle.aic_record.specs.Promises.{Shaped, SeenFits, Rules}
use Rattle.aic_record.proofs.SoundLaws.{sound-is, is-sound, seen_outside, seen_mode, nothing-fits}
use Rattle.aic_record.proofs.RuleLaws.{words-rules, memory-rules, mode-rules, push-rules, pop-rules}
use Rattle.aic_sources.specs.Pending.{edge_word}
use Rattle.aic_sources.specs.Normal.{candidates, chosen}
use Rattle.aic_sources.proofs.OrderLaws.{Foremost, chosen_is}
use Rattle.aic_sources.proofs.HandlerLaws.{priority_small, candidate_source, candidate-over, candidate-room}
use Rattle.aic_registers.specs.Handlers.{opened, started_at, closed_last, source_seen, none_seen}
use Rattle.aic_registers.specs.Effects.{moded, set_by, turns, moved}
use Rattle.aic.specs.Model.{step}
use Rattle.words.proofs.WordLaws.{bit-cleared, bit-cleared_if, bit-put_if}
use Rattle.aic.proofs.HandlerLaws.{moded-is, moved-is, started-is}
use Rattle.aic.proofs.StepKindLaws.{kinds}

-- ---- the lengths of the arrays

pub step_shaped : (s : Aic) (x : Step) → Shaped s → Shaped (step s x).aic
unfolding opened closed_last set_by
step_shaped s =
    kinds s (λ x t. Shaped s → Shaped t)
    (record {
      still = λ x p h. h;
      store = λ o v e u m vs ok p q l h. (h.0, l ∙ h.1, h.2, h.3);
      fall = λ x w ok p q h. h;
      remode = λ o k v ok e l h. rw (moded-is s k v) (length-set s.mode k (kept_mode v) ∙ h.0, h.1, h.2, h.3);
      reforce = λ o v f ok e z h. h;
      drop = λ o v m ok p l h. h;
      look = λ ok i c h. h;
      look_none = λ ok i n h. h;
      begin = λ v ok i w h.
          rw (started-is s s.seen.source s.seen.level)
          (h.0, h.1, length-set s.source s.depth s.seen.source ∙ h.2, length-set s.level s.depth s.seen.level ∙ h.3);
      begin_mark = λ v ok i z w l h. (h.0, h.1, length-set s.source s.depth 0 ∙ h.2, length-set s.level s.depth (level_below s.level s.depth) ∙ h.3);
      take = λ ok i c h.
          rw (started-is s (chosen s) (priority s (chosen s)))
          (h.0, h.1, length-set s.source s.depth (chosen s) ∙ h.2, length-set s.level s.depth (priority s (chosen s)) ∙ h.3);
      mark = λ ok i n l h. (h.0, h.1, length-set s.source s.depth 0 ∙ h.2, length-set s.level s.depth (level_below s.level s.depth) ∙ h.3);
      close = λ v ok d h. (h.0, h.1, length-set s.source (s.depth - 1) 0 ∙ h.2, length-set s.level (s.depth - 1) 0 ∙ h.3);
      command = λ v ok h. h;
      move = λ k l ok m n h. rw (moved-is s k (eqb l 1)) h;
    })

-- ---- the rules

module _ (s : Aic) (r : Rules s) where
  -- a memory with no bit that was not there
  fewer-rules : (w : ℕ) → ((k : ℕ) → k < 32 → bit w k ≡ true → bit s.memory k ≡ true) → Rules (with_memory s w)
  fewer-rules w f = memory-rules s r w (λ k l n. not-holds (bit w k) (λ e. clash (f k l e) (r.memory k l n)))

  -- the memory of source k cleared if t holds
  cleared-rules : (k : ℕ) (t : Bool) → Rules (with_memory s (pick t (with_bit s.memory k false) s.memory))
  cleared-rules k t = fewer-rules _ (λ j l e. and_left (bit s.memory j) _ (sym (bit-cleared_if s.memory k t j l) ∙ e))

  set-rules : (v : ℕ) → Rules (set_by s v)
  unfolding set_by edge_word
  set-rules v =
      memory-rules s r (either s.memory (both v (edge_word s)))
      (λ k l n.
      bit-either s.memory (both v (edge_word s)) k l
      ∙ rw (r.memory k l n, bit-both v (edge_word s) k l, bit-word_of 32 (edge s) k l, n) (and-false (bit v k)))

  moved-rules : (k : ℕ) (high : Bool) → Rules (moved s k high)
  moved-rules k high =
      rw (moved-is s k high)
      (words-rules s r (with_bit s.lines k high) s.enabled _ s.forced s.spurious s.debug s.vector s.seen quiet r.debug r.seen r.forced)
    where
      quiet : (j : ℕ) → j < 32 → edge s j ≡ false → bit (pick (edge s k && turns s k high) (with_bit s.memory k true) s.memory) j ≡ false
      quiet j l n =
          bit-put_if s.memory k (edge s k && turns s k high) j l
          ∙ rw (r.memory j l n)
          (not-holds (eqb j k && (edge s k && turns s k high))
          (λ e. clash (ap (edge s) (eqb-true j k (and_left _ (edge s k && turns s k high) e)) ∙ and_left (edge s k) _ (and_right (eqb j k) _ e)) n))

  moded-rules : (k v : ℕ) → Shaped s → k < 32 → Rules (moded s k v)
  unfolding kind edge
  moded-rules k v h l =
      rw (moded-is s k v) (mode-rules (with_memory s _) (cleared-rules k (not (eqb (kind s k) (type_of v)))) k (kept_mode v) h l (omega arith) quiet)
    where
      same : type_of (kept_mode v) ≡ type_of v
      same = omega arith

      quiet : edge_of (kept_mode v) ≡ false → bit (pick (not (eqb (kind s k) (type_of v))) (with_bit s.memory k false) s.memory) k ≡ false
      quiet n =
          pick_cases (λ (w : ℕ). bit w k ≡ false) (not (eqb (kind s k) (type_of v)))
          (λ _. bit-cleared s.memory k k l ∙ rw (eq-eqb k k refl) (and-false (bit s.memory k)))
          (λ e. r.memory k l (ap (λ (m : ℕ). eqb (m % 2) 1) (eqb-true (kind s k) (type_of v) (not-false _ e) ∙ sym same) ∙ n))

  -- what is remembered is forgotten, or replaced
  reseen-rules : (n : Seen) → SeenFits (protects s) n (level_below s.level s.depth) s.depth → Rules (with_seen s n)
  reseen-rules n f = words-rules s r s.lines s.enabled s.memory s.forced s.spurious s.debug s.vector n r.memory r.debug f r.forced

  looked-rules : protects s ≡ true → candidates s ≡ true → Rules (with_seen s (source_seen s (chosen s)))
  looked-rules i c =
      let f = chosen_is s c in
      reseen-rules (source_seen s (chosen s))
      (record {
        few = omega arith;
        mode = λ _. i;
        bare = λ d. absurd (d refl);
        source = λ _. (candidate_source s (chosen s) f.fit, omega (arith, f.below));
        level = λ _. (priority_small s (chosen s), candidate-over s (chosen s) f.fit);
        room = λ _. candidate-room s (chosen s) f.fit;
      })

  none-rules : protects s ≡ true → Rules (with_seen s none_seen)
  none-rules i =
      reseen-rules none_seen
      (record { few = omega arith; mode = λ _. i; bare = λ _. (refl, refl, refl); source = λ w. absurd (omega arith); level = λ w. absurd (omega arith); room = λ w. absurd (omega arith) })

  started-rules : Shaped s → protects s ≡ false → candidates s ≡ true → Rules (started_at s (chosen s) (priority s (chosen s)))
  started-rules h i c =
      rw (started-is s (chosen s) (priority s (chosen s)))
      (push-rules (with_memory s _) (cleared-rules (chosen s) (edge s (chosen s))) (chosen s) (priority s (chosen s)) h
      (omega (arith, f.below)) (candidate-room s (chosen s) f.fit) (λ z. omega (arith, candidate_source s (chosen s) f.fit))
      (λ _. (priority_small s (chosen s), candidate-over s (chosen s) f.fit)) (seen_outside _ s.seen _ _ r.seen i))
    where
      f : Foremost s 32 (chosen s)
      f = chosen_is s c

-- a start of what is remembered, which is forgotten
begun-rules : (s : Aic) → Rules s → Shaped s → s.seen.what ≡ 1 → Rules (with_seen (started_at s s.seen.source s.seen.level) nothing_seen)
begun-rules s r h w =
    rw (started-is s s.seen.source s.seen.level)
    (push-rules (with_seen (with_memory s _) nothing_seen) (reseen-rules (with_memory s _) (cleared-rules s r s.seen.source (edge s s.seen.source)) nothing_seen (nothing-fits _ _ _))
    s.seen.source s.seen.level h (r.seen.source w).1 (r.seen.room w) (λ z. absurd (omega (arith, (r.seen.source w).0))) (λ _. r.seen.level w) refl)

rules_law : (s : Aic) (x : Step) → Shaped s → Rules s → Rules (step s x).aic
unfolding opened closed_last
rules_law s =
    kinds s (λ x t. Shaped s → Rules s → Rules t)
    (record {
      still = λ x p h r. r;
      store = λ o v e u m vs ok p q l h r. words-rules s r s.lines e s.memory s.forced u m vs s.seen r.memory q.0 (seen_mode _ _ s.seen _ _ r.seen q.1) r.forced;
      drop = λ o v m ok p l h r. words-rules s r s.lines s.enabled s.memory s.forced s.spurious m s.vector nothing_seen r.memory l (nothing-fits _ _ _) r.forced;
      fall = λ x w ok p q h r. fewer-rules s r w q;
      remode = λ o k v ok e l h r. moded-rules s r k v h l;
      reforce = λ o v f ok e z h r. words-rules s r s.lines s.enabled s.memory f s.spurious s.debug s.vector s.seen r.memory r.debug r.seen z;
      take = λ ok i c h r. started-rules s r h i c;
      mark = λ ok i n l h r. push-rules s r 0 (level_below s.level s.depth) h (omega arith) l (λ _. refl) (λ d. absurd (d refl)) (seen_outside _ s.seen _ _ r.seen i);
      look = λ ok i c h r. looked-rules s r i c;
      look_none = λ ok i n h r. none-rules s r i;
      begin = λ v ok i w h r. begun-rules s r h w;
      begin_mark = λ v ok i z w l h r.
          push-rules (with_seen s nothing_seen) (reseen-rules s r nothing_seen (nothing-fits _ _ _)) 0 (level_below s.level s.depth) h (omega arith) l (λ _. refl) (λ d. absurd (d refl)) refl;
      close = λ v ok d h r. pop-rules s r h d;
      command = λ v ok h r. set-rules s r v;
      move = λ k l ok m n h r. moved-rules s r k (eqb l 1);
    })

pub step-sound : (s : Aic) (x : Step) → Shaped s → sound s ≡ true → sound (step s x).aic ≡ true
step-sound s x h ok = is-sound (step s x).aic (rules_law s x h (sound-is s ok))
