-- Neither the mask nor what is remembered stands in the way of another step: with another debug control and with something else remembered, a
-- record answers and does the same.
use Prim.Native.Nat.{ℕ, ◌/◌, ◌<◌}
use mathlib.Core.Path.{◌≡◌, refl, sym, ap, ◌∙◌}
use mathlib.Core.Bool.{Bool, true}
use mathlib.Core.Logic.{◌≢◌}
use native.Mathlib.Decide.{ℕ_discrete}
use lib.Dec.{eqb, ltb}
use borrow.Author.Tests.{ne_eqb}
use Rattle.words.specs.Choice.{pick}
use Rattle.words.specs.Word.{bit}
use Rattle.words.proofs.ChoiceLaws.{pick_through, pick-past}
use Rattle.steps.specs.declared.Step.{Step}
use Rattle.steps.specs.declared.Step.TheVariants.{Read, Write, Line}
use Rattle.aic_record.specs.declared.Aic.{Aic}
use Rattle.aic_record.specs.declared.Seen.{Seen}
use Rattle.aic_record.specs.Record.{nothing_seen, with_debug, with_seen}
use Rattle.aic_record.specs.Mode.{priority, kind, edge}
use Rattle.aic_record.specs.Sound.{protects, sound}
use Rattle.aic_record.proofs.SoundLaws.{sound-is, is-sound}
use Rattle.aic_record.proofs.RuleLaws.{words-rules}
use Rattle.aic_sources.specs.Pending.{active_low, active_at, active, pending, asking, pending_word, edge_word}
use Rattle.aic_sources.specs.Fast.{fast, fast_asks, masked, fiq}
use Rattle.aic_sources.specs.Normal.{waiting, above, candidate, ahead, foremost, candidates, chosen, irq}
use Rattle.aic_registers.specs.declared.Answer.{Answer}
use Rattle.aic_registers.specs.Map.{svr, ivr, fvr, cisr, iecr, idcr, iccr, iscr, eoicr, spu, dcr, ffer, ffdr}
use Rattle.aic_registers.specs.Handlers.{answered, opened, started_at, marked, closed_last, ended, vector_at, ivr_taken, ivr_looked, ivr_read, begun, ivr_written, fvr_read, current}
use Rattle.aic_registers.specs.Effects.{moded, vectored, enabled_by, disabled_by, set_by, cleared_by, forced_by, unforced_by, turns, moved}
use Rattle.aic_registers.specs.Registers.{output_bits, stored, read_at, written_at}
use Rattle.aic.specs.Model.{read_number, write_number, line_number, read, write, line, step, outputs}
use Rattle.aic.specs.Promises.{MaskFree, SeenFree}
use Rattle.aic.proofs.HandlerLaws.{started-is, fast-spent-is, moded-is, moved-is, ivr-done}
use Rattle.aic.proofs.SeenLaws.{ivr-looked, ivr-written}

-- an answer whose record has another debug control and something else remembered
abbrev alike : ℕ → Seen → Answer → Answer
alike m n a = record { refusal = a.refusal; value = a.value; aic = with_seen (with_debug a.aic m) n }

-- such a record, as a name that stays folded under a choice
unfoldable other : ℕ → Seen → Aic → Aic
other m n t = with_seen (with_debug t m) n

-- ---- of every step that neither concerns what is remembered nor shows debug control

module _ (s : Aic) (m : ℕ) (n : Seen) where
  abbrev twin : Aic
  twin = with_seen (with_debug s m) n

  same-candidates : candidates twin ≡ candidates s
  unfolding candidates candidate waiting asking pending edge active active_at active_low kind fast above priority
  same-candidates = refl

  same_chosen : chosen twin ≡ chosen s
  unfolding chosen foremost ahead candidate waiting asking pending edge active active_at active_low kind fast above priority
  same_chosen = refl

  same-fast : fast_asks twin ≡ fast_asks s
  unfolding fast_asks asking pending edge active active_at active_low kind fast
  same-fast = refl

  same-pending : pending_word twin ≡ pending_word s
  unfolding pending_word pending edge active active_at active_low kind
  same-pending = refl

  same-fvr : fvr_read twin ≡ alike m n (fvr_read s)
  unfolding fvr_read edge
  same-fvr = rw (same-fast, fast-spent-is twin, fast-spent-is s) (pick_through (alike m n) (fast_asks s) refl refl)

  same_read : (o : ℕ) → o ≢ ivr → stored twin o ≡ stored s o → read_at twin o ≡ alike m n (read_at s o)
  unfolding read_at
  same_read o i e = pick-past (alike m n) _ _ (ne_eqb o ivr i) (pick_through (alike m n) (eqb o fvr) same-fvr (ap (answered twin) e))

  same_mode : (k v : ℕ) → moded twin k v ≡ with_seen (with_debug (moded s k v) m) n
  unfolding kind
  same_mode k v = rw (moded-is twin k v, moded-is s k v)

  same_move : (k : ℕ) (high : Bool) → moved twin k high ≡ with_seen (with_debug (moved s k high) m) n
  unfolding edge turns active active_at active_low kind
  same_move k high = rw (moved-is twin k high, moved-is s k high)

  same_write : (o v : ℕ) → o ≢ ivr → o ≢ dcr → written_at twin o v ≡ other m n (written_at s o v)
  unfolding written_at vectored enabled_by disabled_by set_by cleared_by forced_by unforced_by ended closed_last edge_word edge
  same_write o v i d =
      pick_through (other m n) (ltb o svr) (unfold other in (same_mode (o / 4) v))
      (pick_through (other m n) (ltb o ivr) (unfold other in refl)
      (pick-past (other m n) _ _ (ne_eqb o ivr i)
      (pick_through (other m n) (eqb o iecr) (unfold other in refl)
      (pick_through (other m n) (eqb o idcr) (unfold other in refl)
      (pick_through (other m n) (eqb o iccr) (unfold other in refl)
      (pick_through (other m n) (eqb o iscr) (unfold other in refl)
      (pick_through (other m n) (eqb o eoicr) (pick_through (other m n) (eqb s.depth 0) (unfold other in refl) (unfold other in refl))
      (pick_through (other m n) (eqb o spu) (unfold other in refl)
      (pick-past (other m n) _ _ (ne_eqb o dcr d)
      (pick_through (other m n) (eqb o ffer) (unfold other in refl)
      (pick_through (other m n) (eqb o ffdr) (unfold other in refl) (unfold other in refl))))))))))))

  -- a read that shows the same of both
  abbrev Shown : Step → Type 0
  Shown (Read o) = stored twin o ≡ stored s o
  Shown (Write o v) = Unit {0}
  Shown (Line k l) = Unit {0}

  step-alike : sound s ≡ true → sound twin ≡ true → (x : Step) → SeenFree x → Shown x → step twin x ≡ alike m n (step s x)
  unfolding read write line read_number write_number line_number
  step-alike ok also (Read o) i e = rw (also, ok) (pick_through (alike m n) _ (same_read o i e) refl)
  step-alike ok also (Write o v) (i, d) e =
      rw (also, ok) (pick_through (alike m n) _ (unfold other in (ap (λ (t : Aic). answered t 0) (same_write o v i d))) refl)
  step-alike ok also (Line k l) u e = rw (also, ok) (pick_through (alike m n) _ (ap (λ (t : Aic). answered t 0) (same_move k (eqb l 1))) refl)

-- ---- something else remembered

module _ (s : Aic) (n : Seen) where
  same-irq : irq (with_seen s n) ≡ irq s
  unfolding irq masked
  same-irq = rw (same-candidates s s.debug n)

  same-fiq : fiq (with_seen s n) ≡ fiq s
  unfolding fiq masked
  same-fiq = rw (same-fast s s.debug n)

  same-stored : (o : ℕ) → stored (with_seen s n) o ≡ stored s o
  unfolding stored current output_bits
  same-stored o = rw (same-pending s s.debug n, same-irq, same-fiq)

  same-shown : (x : Step) → Shown s s.debug n x
  same-shown (Read o) = same-stored o
  same-shown (Write o v) = tt
  same-shown (Line k l) = tt

  pub seen-outputs : sound s ≡ true → sound (with_seen s n) ≡ true → outputs (with_seen s n) ≡ outputs s
  unfolding outputs
  seen-outputs ok also = rw (also, ok, same-irq, same-fiq)

  -- what a read of IVR in protect mode remembers replaces it
  looked_again : ivr_looked (with_seen s n) ≡ ivr_looked s
  unfolding ivr_looked priority
  looked_again = rw (same-candidates s s.debug n, same_chosen s s.debug n)

  pub look_again : sound s ≡ true → sound (with_seen s n) ≡ true → protects s ≡ true → read (with_seen s n) ivr ≡ read s ivr
  look_again ok also o = ivr-looked (with_seen s n) also o ∙ looked_again ∙ sym (ivr-looked s ok o)

module _ (s : Aic) (x : Step) (ok : sound s ≡ true) (f : SeenFree x) where
  -- its own twin
  self : step s x ≡ alike s.debug s.seen (step s x)
  self = step-alike s s.debug s.seen ok ok x f (same-shown s s.seen x)

  debug-kept : (step s x).aic.debug ≡ s.debug
  debug-kept = ap (λ (a : Answer). a.aic.debug) self

  pub seen-kept : (step s x).aic.seen ≡ s.seen
  seen-kept = ap (λ (a : Answer). a.aic.seen) self

  pub seen-idle : (n : Seen) → sound (with_seen s n) ≡ true
      → step (with_seen s n) x ≡ record { refusal = (step s x).refusal; value = (step s x).value; aic = with_seen (step s x).aic n }
  seen-idle n also = step-alike s s.debug n ok also x f (same-shown s n x) ∙ ap (λ (m : ℕ). alike m n (step s x)) (sym debug-kept)

-- ---- another mask

-- an answer whose record has another mask
abbrev remasked : ℕ → Answer → Answer
remasked m a = record { refusal = a.refusal; value = a.value; aic = with_debug a.aic m }

-- a record with another mask, as a name that stays folded under a choice
unfoldable remask : ℕ → Aic → Aic
remask m t = with_debug t m

module _ (s : Aic) (m : ℕ) where
  mask-candidates : candidates (with_debug s m) ≡ candidates s
  mask-candidates = same-candidates s m s.seen

  mask-chosen : chosen (with_debug s m) ≡ chosen s
  mask-chosen = same_chosen s m s.seen

  mask_start : (k p : ℕ) → started_at (with_debug s m) k p ≡ with_debug (started_at s k p) m
  unfolding edge
  mask_start k p = rw (started-is (with_debug s m) k p, started-is s k p)

  mask-mark : marked (with_debug s m) ≡ remask m (marked s)
  unfolding marked opened
  mask-mark = pick_through (remask m) (ltb s.depth 8) (unfold remask in refl) (unfold remask in refl)

  mask-taken : ivr_taken (with_debug s m) ≡ remasked m (ivr_taken s)
  unfolding ivr_taken priority
  mask-taken =
      rw (mask-candidates, mask-chosen)
      (pick_through (remasked m) (candidates s) (ap (λ (t : Aic). answered t (vector_at s (chosen s))) (mask_start (chosen s) (priority s (chosen s))))
      (unfold remask in (ap (λ (t : Aic). answered t s.spurious) mask-mark)))

  mask-looked : ivr_looked (with_debug s m) ≡ remasked m (ivr_looked s)
  unfolding ivr_looked priority
  mask-looked = rw (mask-candidates, mask-chosen) (pick_through (remasked m) (candidates s) refl refl)

  mask-begun : begun (with_debug s m) ≡ remask m (begun s)
  unfolding begun
  mask-begun =
      pick_through (remask m) (eqb s.seen.what 0) (unfold remask in refl)
      (unfold remask in (ap (λ (t : Aic). with_seen t nothing_seen)
      (pick_through (remask m) (eqb s.seen.what 1) (unfold remask in (mask_start s.seen.source s.seen.level)) mask-mark)))

  mask-ivr : bit m 0 ≡ protects s → ivr_read (with_debug s m) ≡ remasked m (ivr_read s)
  unfolding ivr_read
  mask-ivr e = rw e (pick_through (remasked m) (protects s) mask-looked mask-taken)

  mask-written : bit m 0 ≡ protects s → ivr_written (with_debug s m) ≡ remask m (ivr_written s)
  unfolding ivr_written
  mask-written e = rw e (pick_through (remask m) (protects s) mask-begun (unfold remask in refl))

  mask-stored : (o : ℕ) → o ≢ cisr → o ≢ dcr → stored (with_debug s m) o ≡ stored s o
  unfolding stored current pick
  mask-stored o c d = rw (ne_eqb o cisr c, ne_eqb o dcr d, same-pending s m s.seen)

  module _ (ok : sound s ≡ true) (kept : m < 4) (same : bit m 0 ≡ protects s) where
    mask-sound : sound (with_debug s m) ≡ true
    mask-sound =
        let r = sound-is s ok in
        is-sound (with_debug s m)
        (words-rules s r s.lines s.enabled s.memory s.forced s.spurious m s.vector s.seen r.memory kept (rw same r.seen) r.forced)

    -- of IVR, whose reads and writes change what is remembered
    read-ivr : read (with_debug s m) ivr ≡ remasked m (read s ivr)
    read-ivr = ivr-done (with_debug s m) mask-sound ∙ mask-ivr same ∙ ap (remasked m) (sym (ivr-done s ok))

    write-ivr : (v : ℕ) → write (with_debug s m) ivr v ≡ remasked m (write s ivr v)
    unfolding remask
    write-ivr v =
        ivr-written (with_debug s m) mask-sound v
        ∙ ap (λ (t : Aic). answered t 0) (mask-written same)
        ∙ ap (remasked m) (sym (ivr-written s ok v))

    -- of any other: what is remembered is as it was
    rest : (x : Step) → SeenFree x → Shown s m s.seen x → step (with_debug s m) x ≡ remasked m (step s x)
    rest x f e =
        step-alike s m s.seen ok mask-sound x f e
        ∙ ap (λ (n : Seen). alike m n (step s x)) (sym (seen-kept s x ok f))

    pub mask-idle : (x : Step) → MaskFree x → step (with_debug s m) x ≡ remasked m (step s x)
    mask-idle (Read o) (c, d) = go (ℕ_discrete o ivr)
      where
        go : Dec (o ≡ ivr) → step (with_debug s m) (Read o) ≡ remasked m (step s (Read o))
        go (yes e) = rw e read-ivr
        go (no i) = rest (Read o) i (mask-stored o c d)
    mask-idle (Write o v) d = go (ℕ_discrete o ivr)
      where
        go : Dec (o ≡ ivr) → step (with_debug s m) (Write o v) ≡ remasked m (step s (Write o v))
        go (yes e) = rw e (write-ivr v)
        go (no i) = rest (Write o v) (i, d) tt
    mask-idle (Line k l) u = rest (Line k l) u tt
