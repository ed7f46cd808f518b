-- The kinds of step. The register map is walked here once: a law of every step is a record of fifteen lemmas, one for each kind.
use Prim.Native.Nat.{ℕ, ◌-◌, ◌*◌, ◌/◌, ◌%◌, ◌≤◌, ◌<◌}
use mathlib.Core.Path.{◌≡◌, refl, sym, ◌∙◌}
use mathlib.Core.Bool.{true, false, ◌&&◌, and-true, and-false}
use mathlib.Core.List.{List}
use mathlib.Core.Logic.{◌≢◌, ◌⊎◌, inl, inr}
use native.Mathlib.Omega.{arith}
use native.Mathlib.Decide.{ℕ_discrete}
use lib.Dec.{eqb, ltb, leb}
use lib.ListN.{length, set, length-set}
use borrow.Author.Tests.{eqb-true, eqb-false, ltb-true, ltb-false}
use Rattle.words.specs.Choice.{pick}
use Rattle.words.specs.Word.{bit, kept, either, both, without, with_bit}
use Rattle.words.proofs.ChoiceLaws.{pick_cases}
use Rattle.words.proofs.TruthLaws.{and_left, told}
use Rattle.words.proofs.WordLaws.{bit_alone, bit-either, bit-without}
use Rattle.steps.specs.declared.Step.{Step}
use Rattle.steps.specs.declared.Step.TheVariants.{Read, Write, Line}
use Rattle.steps.specs.Refusals.{carried_out, read_refusal, write_refusal, line_refusal}
use Rattle.steps.specs.Promises.{ValueNumber}
use Rattle.steps.proofs.Promises.{read_table, write-table, line-table}
use Rattle.aic_record.specs.declared.Aic.{Aic}
use Rattle.aic_record.specs.Record.{nothing_seen, with_enabled, with_memory, with_forced, with_spurious, with_debug, with_vector, with_seen}
use Rattle.aic_record.specs.Mode.{priority, edge}
use Rattle.aic_record.specs.Sound.{level_below, protects, sound}
use Rattle.aic_record.proofs.SoundLaws.{debug-sound, forced-sound}
use Rattle.aic_sources.specs.Pending.{edge_word}
use Rattle.aic_sources.specs.Fast.{fast_asks}
use Rattle.aic_sources.specs.Normal.{candidates, chosen}
use Rattle.aic_registers.specs.declared.Answer.{Answer}
use Rattle.aic_registers.specs.Map.{ivr, fvr, svr, iecr, idcr, iccr, iscr, eoicr, spu, dcr, ffer, ffdr, access}
use Rattle.aic_registers.specs.Handlers.{opened, started_at, marked, closed_last, ended, ivr_taken, source_seen, none_seen, ivr_looked, ivr_read, begun, ivr_written, fvr_read}
use Rattle.aic_registers.specs.Effects.{moded, vectored, enabled_by, disabled_by, set_by, cleared_by, debug_by, forced_by, unforced_by, moved}
use Rattle.aic_registers.specs.Registers.{read_at, written_at}
use Rattle.aic.specs.Model.{read_number, write_number, line_number, read, write, line, step}
use Rattle.words.proofs.WordLaws.{bit_kept, kept_lt, bit-cleared_if}
use Rattle.aic.proofs.HandlerLaws.{fast-spent-is}

-- why a write begins nothing: it is none of IVR, not in protect mode, nothing is remembered, or eight entries are open
abbrev pub Idle : Aic → ℕ → Type 0
Idle s o = (o ≢ ivr) ⊎ ((protects s ≡ false) ⊎ ((s.seen.what ≡ 0) ⊎ (8 ≤ s.depth)))

-- why a step starts nothing, closes nothing, is no set command and moves no line
abbrev pub Plain : Aic → Step → Type 0
Plain s (Read o) = (sound s ≡ false) ⊎ ((o ≢ ivr) ⊎ ((protects s ≡ true) ⊎ (8 ≤ s.depth)))
Plain s (Write o v) = (sound s ≡ false) ⊎ (((o ≢ eoicr) × (o ≢ iscr) × Idle s o) ⊎ ((o ≡ eoicr) × (s.depth ≡ 0)))
Plain s (Line k l) = (sound s ≡ false) ⊎ ((ltb k 32 && leb l 1) ≡ false)

-- the record with other enables, SPU, debug control and vectors
abbrev pub with_store : Aic → ℕ → ℕ → ℕ → List ℕ → Aic
with_store s e u m vs = with_vector (with_debug (with_spurious (with_enabled s e) u) m) vs

pub record Kinds (s : Aic) (P : Step → Aic → Type 0) : Type 0 where
  -- nothing changes: a refused step, a plain read, a vector read with eight entries open, a write of IVR that begins nothing, a close with none open
  pub still : (x : Step) → Plain s x → P x s
  -- a write of an enable, of SPU, of DCR or of a vector that leaves protect mode on, if it is on
  pub store : (o v e u m : ℕ) (vs : List ℕ) → sound s ≡ true → Plain s (Write o v) → (m < 4) × (protects s ≡ true → bit m 0 ≡ true) → length vs ≡ length s.vector
      → P (Write o v) (with_store s e u m vs)
  -- what is remembered is forgotten, and nothing is started: a write of DCR without protect mode, or of IVR with eight entries open
  pub drop : (o v m : ℕ) → sound s ≡ true → Plain s (Write o v) → m < 4 → P (Write o v) (with_seen (with_debug s m) nothing_seen)
  -- a clear command, or a read of FVR: the memories of some sources are cleared, and none is set
  pub fall : (x : Step) (w : ℕ) → sound s ≡ true → Plain s x → ((k : ℕ) → k < 32 → bit w k ≡ true → bit s.memory k ≡ true)
      → P x (with_memory s w)
  -- a write of the mode of source k
  pub remode : (o k v : ℕ) → sound s ≡ true → o ≡ k * 4 → k < 32 → P (Write o v) (moded s k v)
  -- a write of FFER or FFDR
  pub reforce : (o v f : ℕ) → sound s ≡ true → (o ≡ ffer) ⊎ (o ≡ ffdr) → bit f 0 ≡ false → P (Write o v) (with_forced s f)
  -- a read of IVR that starts a source
  pub take : sound s ≡ true → protects s ≡ false → candidates s ≡ true → P (Read ivr) (started_at s (chosen s) (priority s (chosen s)))
  -- a read of IVR that opens a mark
  pub mark : sound s ≡ true → protects s ≡ false → candidates s ≡ false → s.depth < 8 → P (Read ivr) (opened s 0 (level_below s.level s.depth))
  -- a read of IVR in protect mode, with a candidate and without
  pub look : sound s ≡ true → protects s ≡ true → candidates s ≡ true → P (Read ivr) (with_seen s (source_seen s (chosen s)))
  pub look_none : sound s ≡ true → protects s ≡ true → candidates s ≡ false → P (Read ivr) (with_seen s none_seen)
  -- a write of IVR there that starts the source that is remembered
  pub begin : (v : ℕ) → sound s ≡ true → protects s ≡ true → s.seen.what ≡ 1
      → P (Write ivr v) (with_seen (started_at s s.seen.source s.seen.level) nothing_seen)
  -- a write of IVR there that opens a mark
  pub begin_mark : (v : ℕ) → sound s ≡ true → protects s ≡ true → s.seen.what ≢ 0 → s.seen.what ≢ 1 → s.depth < 8
      → P (Write ivr v) (with_seen (opened s 0 (level_below s.level s.depth)) nothing_seen)
  -- a write of EOICR that closes an entry
  pub close : (v : ℕ) → sound s ≡ true → s.depth ≢ 0 → P (Write eoicr v) (closed_last s)
  -- a set command
  pub command : (v : ℕ) → sound s ≡ true → P (Write iscr v) (set_by s v)
  -- a line step
  pub move : (k l : ℕ) → sound s ≡ true → k < 32 → l ≤ 1 → P (Line k l) (moved s k (eqb l 1))

-- of debug control bit 0, protect mode, is kept
protect-kept : (v : ℕ) → bit (kept 2 v) 0 ≡ bit v 0
protect-kept v = bit_kept 2 v 0 ∙ and-true (bit v 0)

-- ---- what a step of an offset is refused for

ivr-read : (s : Aic) → sound s ≡ true → read_number s ivr ≡ 0
unfolding read_number read_refusal access pick
ivr-read s ok = rw ok

eoicr-write : (s : Aic) (v : ℕ) → sound s ≡ true → write_number s eoicr v ≡ 0
unfolding write_number write_refusal access pick
eoicr-write s v ok = rw ok

ivr-write : (s : Aic) (v : ℕ) → sound s ≡ true → write_number s ivr v ≡ 0
unfolding write_number write_refusal access pick
ivr-write s v ok = rw ok

iscr-write : (s : Aic) (v : ℕ) → sound s ≡ true → write_number s iscr v ≡ 0
unfolding write_number write_refusal access pick
iscr-write s v ok = rw ok

-- no value is refused
pub value_number : ValueNumber carried_out
value_number = inl refl

-- ---- the walk

module _ (s : Aic) (P : Step → Aic → Type 0) (k : Kinds s P) where
  reads : sound s ≡ true → (o : ℕ) → P (Read o) (read_at s o).aic
  unfolding read_at ivr_read ivr_looked ivr_taken fvr_read marked
  reads ok o =
      pick_cases A (eqb o ivr)
      (λ e.
      rw (eqb-true o ivr e)
      (pick_cases (λ (a : Answer). P (Read ivr) a.aic) (protects s)
      (λ i. pick_cases (λ (a : Answer). P (Read ivr) a.aic) (candidates s) (k.look ok i) (k.look_none ok i))
      (λ i. pick_cases (λ (a : Answer). P (Read ivr) a.aic) (candidates s) (k.take ok i)
      (λ n. pick_cases (λ t. P (Read ivr) t) (ltb s.depth 8) (λ l. k.mark ok i n (ltb-true s.depth 8 l)) (λ m. k.still (Read ivr) (inr (inr (inr (ltb-false s.depth 8 m)))))))))
      (λ n.
      let p : Plain s (Read o) = inr (inl (eqb-false o ivr n)) in
      pick_cases A (eqb o fvr)
      (λ _. pick_cases A (fast_asks s) (λ _. rw (fast-spent-is s) (k.fall (Read o) _ ok p spends)) (λ _. k.still (Read o) p))
      (λ _. k.still (Read o) p))
    where
      A : Answer → Type 0
      A a = P (Read o) a.aic

      spends : (j : ℕ) → j < 32 → bit (pick (edge s 0 && eqb s.forced 0) (with_bit s.memory 0 false) s.memory) j ≡ true → bit s.memory j ≡ true
      spends j l e = and_left (bit s.memory j) _ (sym (bit-cleared_if s.memory 0 (edge s 0 && eqb s.forced 0) j l) ∙ e)

  writes : sound s ≡ true → (o v : ℕ) → o % 4 ≡ 0 → P (Write o v) (written_at s o v)
  unfolding written_at vectored enabled_by disabled_by cleared_by debug_by ivr_written begun marked forced_by unforced_by ended
  writes ok o v a =
      pick_cases A (ltb o svr) (λ h. k.remode o (o / 4) v ok (omega arith) (omega (arith, ltb-true))) (λ _.
      pick_cases A (ltb o ivr) (λ h.
      keep (omega (arith, ltb-true)) (omega (arith, ltb-true)) (omega (arith, ltb-true)) s.enabled s.spurious (set s.vector (o / 4 - 32) v) (length-set s.vector (o / 4 - 32) v)) (λ _.
      pick_cases A (eqb o ivr) (λ h. rw (eqb-true o ivr h) beginning) (λ ni.
      let ne : o ≢ ivr = eqb-false o ivr ni in
      pick_cases A (eqb o iecr) (λ h. keep (omega (arith, eqb-true)) (omega (arith, eqb-true)) ne (either s.enabled v) s.spurious s.vector refl) (λ _.
      pick_cases A (eqb o idcr) (λ h. keep (omega (arith, eqb-true)) (omega (arith, eqb-true)) ne (without s.enabled v) s.spurious s.vector refl) (λ _.
      pick_cases A (eqb o iccr) (λ h. k.fall (Write o v) _ ok (inr (inl (omega (arith, eqb-true), omega (arith, eqb-true), inl ne))) cleared) (λ _.
      pick_cases A (eqb o iscr) (λ h. rw (eqb-true o iscr h) (k.command v ok)) (λ n.
      pick_cases A (eqb o eoicr) (λ h. rw (eqb-true o eoicr h) closing) (λ m.
      let nc : o ≢ eoicr = eqb-false o eoicr m in
      let ns : o ≢ iscr = eqb-false o iscr n in
      pick_cases A (eqb o spu) (λ _. keep nc ns ne s.enabled v s.vector refl) (λ _.
      pick_cases A (eqb o dcr) (λ _. pick_cases A (bit v 0)
      (λ h. k.store o v s.enabled s.spurious (kept 2 v) s.vector ok (inr (inl (nc, ns, inl ne))) (kept_lt 2 v, λ _. protect-kept v ∙ h) refl)
      (λ h. k.drop o v (kept 2 v) ok (inr (inl (nc, ns, inl ne))) (kept_lt 2 v))) (λ _.
      pick_cases A (eqb o ffer) (λ h. k.reforce o v _ ok (inl (eqb-true o ffer h)) forced) (λ _.
      pick_cases A (eqb o ffdr) (λ h. k.reforce o v _ ok (inr (eqb-true o ffdr h)) unforced) (λ _.
      k.still (Write o v) (inr (inl (nc, ns, inl ne)))))))))))))))
    where
      A : Aic → Type 0
      A t = P (Write o v) t

      keep : o ≢ eoicr → o ≢ iscr → o ≢ ivr → (e u : ℕ) (vs : List ℕ) → length vs ≡ length s.vector → P (Write o v) (with_store s e u s.debug vs)
      keep nc ns ne e u vs l = k.store o v e u s.debug vs ok (inr (inl (nc, ns, inl ne))) (debug-sound s ok, λ h. h) l

      still-ivr : Idle s ivr → Plain s (Write ivr v)
      still-ivr i = inr (inl (omega arith, omega arith, i))

      beginning : P (Write ivr v) (pick (protects s) (pick (eqb s.seen.what 0) s
          (with_seen (pick (eqb s.seen.what 1) (started_at s s.seen.source s.seen.level) (pick (ltb s.depth 8) (opened s 0 (level_below s.level s.depth)) s)) nothing_seen)) s)
      beginning =
          pick_cases (λ t. P (Write ivr v) t) (protects s)
          (λ i. pick_cases (λ t. P (Write ivr v) t) (eqb s.seen.what 0) (λ z. k.still (Write ivr v) (still-ivr (inr (inr (inl (eqb-true s.seen.what 0 z))))))
          (λ z. pick_cases (λ t. P (Write ivr v) (with_seen t nothing_seen)) (eqb s.seen.what 1) (λ w. k.begin v ok i (eqb-true s.seen.what 1 w))
          (λ w. pick_cases (λ t. P (Write ivr v) (with_seen t nothing_seen)) (ltb s.depth 8)
          (λ l. k.begin_mark v ok i (eqb-false s.seen.what 0 z) (eqb-false s.seen.what 1 w) (ltb-true s.depth 8 l))
          (λ l. k.drop ivr v s.debug ok (still-ivr (inr (inr (inr (ltb-false s.depth 8 l))))) (debug-sound s ok)))))
          (λ i. k.still (Write ivr v) (still-ivr (inr (inl i))))

      cleared : (j : ℕ) → j < 32 → bit (without s.memory (both v (edge_word s))) j ≡ true → bit s.memory j ≡ true
      cleared j l e = and_left _ _ (sym (bit-without s.memory (both v (edge_word s)) j l) ∙ e)

      closing : P (Write eoicr v) (pick (eqb s.depth 0) s (closed_last s))
      closing =
          pick_cases (λ t. P (Write eoicr v) t) (eqb s.depth 0) (λ e. k.still (Write eoicr v) (inr (inr (refl, eqb-true s.depth 0 e))))
          (λ n. k.close v ok (eqb-false s.depth 0 n))

      forced : bit (either s.forced (without v 1)) 0 ≡ false
      forced =
          bit-either s.forced (without v 1) 0 (omega arith)
          ∙ rw (forced-sound s ok, bit-without v 1 0 (omega arith), bit_alone 0 0) (and-false (bit v 0))

      unforced : bit (without s.forced v) 0 ≡ false
      unforced = bit-without s.forced v 0 (omega arith) ∙ rw (forced-sound s ok)

  refused-read : (o : ℕ) → read_number s o ≢ 0 → (sound s ≡ true) ⊎ (sound s ≡ false) → Dec (o ≡ ivr) → Plain s (Read o)
  refused-read o n (inr e) d = inl e
  refused-read o n (inl ok) (yes e) = absurd (n (rw e (ivr-read s ok)))
  refused-read o n (inl ok) (no d) = inr (inl d)

  refused-write : (o v : ℕ) → write_number s o v ≢ 0 → (sound s ≡ true) ⊎ (sound s ≡ false) → Dec (o ≡ eoicr) → Dec (o ≡ iscr) → Dec (o ≡ ivr) → Plain s (Write o v)
  refused-write o v n (inr e) c d f = inl e
  refused-write o v n (inl ok) (yes e) d f = absurd (n (rw e (eoicr-write s v ok)))
  refused-write o v n (inl ok) (no c) (yes e) f = absurd (n (rw e (iscr-write s v ok)))
  refused-write o v n (inl ok) (no c) (no d) (yes e) = absurd (n (rw e (ivr-write s v ok)))
  refused-write o v n (inl ok) (no c) (no d) (no f) = inr (inl (c, d, inl f))

  refused-line : (i l : ℕ) → line_number s i l ≢ 0 → (sound s ≡ true) ⊎ (sound s ≡ false)
      → ((ltb i 32 && leb l 1) ≡ true) ⊎ ((ltb i 32 && leb l 1) ≡ false) → Plain s (Line i l)
  unfolding line_number line_refusal pick
  refused-line i l n (inr e) t = inl e
  refused-line i l n (inl ok) (inl e) = absurd (n (rw (ok, e)))
  refused-line i l n (inl ok) (inr e) = inr e

  pub kinds : (x : Step) → P x (step s x).aic
  unfolding read write line read_number write_number line_number
  kinds (Read o) =
      pick_cases (λ (a : Answer). P (Read o) a.aic) (eqb (read_number s o) 0)
      (λ e. reads ((read_table (sound s) o (access o)).none.0 (eqb-true (read_number s o) 0 e)).0 o)
      (λ n. k.still (Read o) (refused-read o (eqb-false (read_number s o) 0 n) (told (sound s)) (ℕ_discrete o ivr)))
  kinds (Write o v) =
      pick_cases (λ (a : Answer). P (Write o v) a.aic) (eqb (write_number s o v) 0)
      (λ e.
      let t = (write-table carried_out value_number (sound s) o (access o)).none.0 (eqb-true (write_number s o v) 0 e) in
      writes t.0 o v t.1.0)
      (λ n. k.still (Write o v) (refused-write o v (eqb-false (write_number s o v) 0 n) (told (sound s)) (ℕ_discrete o eoicr) (ℕ_discrete o iscr) (ℕ_discrete o ivr)))
  kinds (Line i l) =
      pick_cases (λ (a : Answer). P (Line i l) a.aic) (eqb (line_number s i l) 0)
      (λ e. let t = (line-table (sound s) 32 i l).none.0 (eqb-true (line_number s i l) 0 e) in k.move i l t.0 t.1.0 t.1.1)
      (λ n. k.still (Line i l) (refused-line i l (eqb-false (line_number s i l) 0 n) (told (sound s)) (told (ltb i 32 && leb l 1))))
