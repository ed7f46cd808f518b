-- What a step brings, as words, is what the observers say of it.
use Prim.Native.Nat.{ℕ, ◌-◌}
use mathlib.Core.Path.{◌≡◌, refl, sym, ap, ◌∙◌}
use mathlib.Core.Bool.{Bool, true, false, not, ◌&&◌, ◌||◌, and-false}
use native.Mathlib.Decide.{ℕ_discrete}
use lib.Dec.{eqb, ltb}
use borrow.Author.Tests.{eq-eqb, ne_eqb}
use Rattle.words.specs.Choice.{pick}
use Rattle.words.specs.Word.{bit, word_of, both, with_bit}
use Rattle.words.proofs.WordLaws.{bit-word_of, word_of-same, bit-none}
use Rattle.steps.specs.declared.Step.{Step}
use Rattle.steps.specs.declared.Step.TheVariants.{Read, Write, Line}
use Rattle.aic_record.specs.declared.Aic.{Aic}
use Rattle.aic_record.specs.Mode.{edge}
use Rattle.aic_record.specs.Sound.{source_at}
use Rattle.aic_sources.specs.Pending.{active, edge_word}
use Rattle.aic_registers.specs.Map.{svr, iscr, eoicr, ffer, ffdr}
use Rattle.aic_registers.specs.Effects.{turns}
use Rattle.aic_runs.specs.Counted.{carried, closes, rises, edges, commands, rewrites}
use Rattle.aic_runs.specs.Turns.{closes_of, closes_hot}
use Rattle.aic_bounds.specs.declared.Marks.{Marks}
use Rattle.aic_bounds.specs.Bounds.{sets, lifts}
use Rattle.aic_bounds.specs.Following.{marks_of, no_marks, hot_last, write_marks, line_marks, marks_by}

-- no source
nobody : word_of 32 (λ i. false) ≡ 0
unfolding word_of
nobody = refl

pub read-marks : (s : Aic) (o : ℕ) → no_marks ≡ marks_of s (Read o)
unfolding edges rises sets commands lifts closes_hot closes_of closes rewrites
read-marks s o = rw nobody

module _ (s : Aic) (o v : ℕ) where
  pub commands_word : (c : Bool) → pick c (both v (edge_word s)) 0 ≡ word_of 32 (λ i. (c && bit v i) && edge s i)
  unfolding pick both edge_word
  commands_word true = word_of-same 32 _ _ (λ i l. ap (λ (y : Bool). bit v i && y) (bit-word_of 32 (edge s) i l))
  commands_word false = sym nobody

  pub hot_close : (c : Bool) → pick c (word_of 32 (hot_last s (source_at s (s.depth - 1)))) 0
      ≡ word_of 32 (λ i. c && not (eqb i 0) && eqb (source_at s (s.depth - 1)) i && not (edge s i) && active s i)
  unfolding pick hot_last
  hot_close true = refl
  hot_close false = sym nobody

  pub write-marks : write_marks (carried s (Write o v)) s o v ≡ marks_of s (Write o v)
  unfolding edges rises sets commands lifts closes_hot closes_of closes rewrites
  write-marks = rw (nobody, commands_word (carried s (Write o v) && eqb o iscr), hot_close (carried s (Write o v) && eqb o eoicr && not (eqb s.depth 0)))

-- a word of source k alone
pub alone_word : (k : ℕ) (t : Bool) (f : ℕ → Bool) → f k ≡ t → ((i : ℕ) → (i ≡ k → ⊥) → f i ≡ false) → with_bit 0 k t ≡ word_of 32 f
unfolding with_bit pick
alone_word k t f e n = word_of-same 32 _ f (λ i l. go i (ℕ_discrete i k))
  where
    go : (i : ℕ) → Dec (i ≡ k) → pick (eqb i k) t (bit 0 i) ≡ f i
    go i (yes p) = rw (eq-eqb i k p) (sym (ap f p ∙ e))
    go i (no d) = rw (ne_eqb i k d) (bit-none i ∙ sym (n i d))

module _ (s : Aic) (k l : ℕ) where
  pub line-marks : line_marks (carried s (Line k l)) s k l ≡ marks_of s (Line k l)
  unfolding edges rises sets commands lifts closes_hot closes_of closes rewrites
  line-marks =
      rw (
        nobody,
        alone_word k (carried s (Line k l) && turns s k (eqb l 1) && edge s k) (λ i. carried s (Line k l) && eqb i k && turns s k (eqb l 1) && edge s i)
            (own (carried s (Line k l)) (turns s k (eqb l 1)) (edge s k)) (λ i d. other i (carried s (Line k l)) (turns s k (eqb l 1)) (edge s i) d),
        alone_word k (carried s (Line k l) && turns s k (eqb l 1) && not (edge s k))
            (λ i. carried s (Line k l) && eqb i k && turns s k (eqb l 1) && not (edge s i))
            (own (carried s (Line k l)) (turns s k (eqb l 1)) (not (edge s k)))
            (λ i d. other i (carried s (Line k l)) (turns s k (eqb l 1)) (not (edge s i)) d),
      )
    where
      own : (c t e : Bool) → (c && eqb k k && t && e) ≡ (c && t && e)
      own true t e = rw (eq-eqb k k refl)
      own false t e = refl

      other : (i : ℕ) (c t e : Bool) → (i ≡ k → ⊥) → (c && eqb i k && t && e) ≡ false
      other i true t e d = rw (ne_eqb i k d)
      other i false t e d = refl

-- ---- of the functions

pub hot-from : (s : Aic) (j : ℕ) {e a : Bool} {r : ℕ} → e ≡ edge s j → a ≡ active s j → r ≡ with_bit 0 j (not (eqb j 0) && not e && a)
    → r ≡ word_of 32 (hot_last s j)
unfolding hot_last
hot-from s j ee ea er =
    er ∙ rw (ee, ea) (alone_word j (not (eqb j 0) && not (edge s j) && active s j) (λ i. not (eqb i 0) && eqb j i && not (edge s i) && active s i) own other)
  where
    one_more : (a b c : Bool) → (a && true && b && c) ≡ (a && b && c)
    one_more true b c = refl
    one_more false b c = refl

    own : (not (eqb j 0) && eqb j j && not (edge s j) && active s j) ≡ (not (eqb j 0) && not (edge s j) && active s j)
    own = rw (eq-eqb j j refl) (one_more (not (eqb j 0)) (not (edge s j)) (active s j))

    other : (i : ℕ) → (i ≡ j → ⊥) → (not (eqb i 0) && eqb j i && not (edge s i) && active s i) ≡ false
    other i d = rw (ne_eqb j i (λ q. d (sym q)), and-false (not (eqb i 0)))

pub write-from : (c : Bool) (s : Aic) (o v : ℕ) {e m a j h b : ℕ} → e ≡ edge_word s → m ≡ both v e → a ≡ pick (c && eqb o iscr) m 0
    → j ≡ source_at s (s.depth - 1)
    → h ≡ word_of 32 (hot_last s j) → b ≡ pick (c && eqb o eoicr && not (eqb s.depth 0)) h 0
    → record { edges = 0; commands = a; turns = 0; closed = b; rewrote = c && (ltb o svr || eqb o ffer || eqb o ffdr) } ≡ write_marks c s o v
write-from c s o v ee em ea ej eh eb = rw (eb, eh, ej, ea, em, ee)

pub line-from : (c : Bool) (s : Aic) (k l : ℕ) {t e : Bool} {a b : ℕ} → t ≡ turns s k (eqb l 1) → e ≡ edge s k → a ≡ with_bit 0 k (c && t && e)
    → b ≡ with_bit 0 k (c && t && not e)
    → record { edges = a; commands = 0; turns = b; closed = 0; rewrote = false } ≡ line_marks c s k l
line-from c s k l et ee ea eb = rw (eb, ea, ee, et)

pub marks-is : (s : Aic) (x : Step) → marks_by (carried s x) s x ≡ marks_of s x
unfolding marks_by
marks-is s (Read o) = read-marks s o
marks-is s (Write o v) = write-marks s o v
marks-is s (Line k l) = line-marks s k l

module _ (c : Bool) (s : Aic) (x : Step) {r : Marks} where
  pub read_step : (o : ℕ) → x ≡ Read o → r ≡ no_marks → r ≡ marks_by c s x
  unfolding marks_by
  read_step o e q = q ∙ sym (ap (marks_by c s) e)

  pub write_step : (o v : ℕ) → x ≡ Write o v → r ≡ write_marks c s o v → r ≡ marks_by c s x
  unfolding marks_by
  write_step o v e q = q ∙ sym (ap (marks_by c s) e)

  pub line_step : (k l : ℕ) → x ≡ Line k l → r ≡ line_marks c s k l → r ≡ marks_by c s x
  unfolding marks_by
  line_step k l e q = q ∙ sym (ap (marks_by c s) e)
