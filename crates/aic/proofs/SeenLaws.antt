-- Protect mode: what a read of IVR remembers there, what a write of it starts, and which writes of debug control forget.
use Prim.Native.Nat.{ℕ, ◌+◌, ◌<◌, ◌≤◌}
use mathlib.Core.Path.{◌≡◌, refl, ap, ◌∙◌}
use mathlib.Core.Bool.{true, false, not, ◌&&◌}
use native.Mathlib.Omega.{arith}
use lib.Dec.{eqb}
use lib.ListN.{set}
use borrow.Author.Tests.{eq-eqb, ne_eqb, lt-ltb, le-ltb}
use Rattle.words.specs.Choice.{pick}
use Rattle.words.specs.Word.{bit, with_bit}
use Rattle.words.proofs.ChoiceLaws.{pick_cases}
use Rattle.words.proofs.CountingLaws.{some_any, any_none}
use Rattle.words.proofs.WordLaws.{bit-cleared_if}
use Rattle.steps.specs.Refusals.{write_refusal}
use Rattle.aic_record.specs.declared.Aic.{Aic}
use Rattle.aic_record.specs.Record.{nothing_seen, with_memory, with_handlers, with_seen}
use Rattle.aic_record.specs.Mode.{edge}
use Rattle.aic_record.specs.Sound.{level_below, protects, sound}
use Rattle.aic_sources.specs.Normal.{candidate, candidates}
use Rattle.aic_sources.specs.Promises.{AheadOfOthers}
use Rattle.aic_sources.proofs.OrderLaws.{chosen-one}
use Rattle.aic_registers.specs.declared.Answer.{Answer}
use Rattle.aic_registers.specs.Map.{ivr, dcr, access}
use Rattle.aic_registers.specs.Handlers.{answered, opened, marked, vector_at, source_seen, none_seen, ivr_looked, ivr_read, begun, ivr_written}
use Rattle.aic_registers.specs.Registers.{written_at}
use Rattle.aic.specs.Model.{write_number, read, write}
use Rattle.aic.specs.Tables.{Sets}
use Rattle.aic.proofs.EffectLaws.{writes_of}
use Rattle.aic.proofs.HandlerLaws.{started-is, put-below, ivr-done}

module _ (s : Aic) (ok : sound s ≡ true) where
  pub ivr-looked : protects s ≡ true → read s ivr ≡ ivr_looked s
  unfolding ivr_read pick
  ivr-looked o = ivr-done s ok ∙ rw o

  pub look_source : (k : ℕ) → protects s ≡ true → k < 32 → candidate s k ≡ true → AheadOfOthers s k
      → read s ivr ≡ answered (with_seen s (source_seen s k)) (vector_at s k)
  unfolding ivr_looked candidates pick
  look_source k o l c h = ivr-looked o ∙ rw (some_any 32 (candidate s) k l c, chosen-one s k (record { below = l; fit = c; first = h }))

  pub look_none : protects s ≡ true → ((k : ℕ) → k < 32 → candidate s k ≡ false) → read s ivr ≡ answered (with_seen s none_seen) s.spurious
  unfolding ivr_looked candidates pick
  look_none o h = ivr-looked o ∙ rw (any_none 32 (candidate s) h)

  pub ivr-written : (v : ℕ) → write s ivr v ≡ answered (ivr_written s) 0
  unfolding write write_number write_refusal access written_at pick
  ivr-written v = rw ok

  ivr-begun : (v : ℕ) → protects s ≡ true → write s ivr v ≡ answered (begun s) 0
  unfolding ivr_written pick
  ivr-begun v o = ivr-written v ∙ rw o

  pub begin_source : (v : ℕ) → protects s ≡ true → s.seen.what ≡ 1
      → Sets (write s ivr v) 0 s.memory
      (λ w. with_seen (with_handlers (with_memory s w) (set s.source s.depth s.seen.source) (set s.level s.depth s.seen.level) (s.depth + 1)) nothing_seen)
      (λ j. bit s.memory j && not (eqb j s.seen.source && edge s s.seen.source))
  unfolding begun pick
  begin_source v o w =
      let k = s.seen.source in
      record {
        word = pick (edge s k) (with_bit s.memory k false) s.memory;
        done = ivr-begun v o ∙ rw (ne_eqb s.seen.what 0 (omega arith), eq-eqb s.seen.what 1 w, started-is s k s.seen.level);
        bits = bit-cleared_if s.memory k (edge s k);
        below = put-below s.memory k false (edge s k);
      }

  pub begin-none : (v : ℕ) → protects s ≡ true → s.seen.what ≡ 2 → s.depth < 8
      → write s ivr v
      ≡ answered (with_seen (with_handlers s (set s.source s.depth 0) (set s.level s.depth (level_below s.level s.depth)) (s.depth + 1)) nothing_seen) 0
  unfolding begun marked opened pick
  begin-none v o w l = ivr-begun v o ∙ rw (ne_eqb s.seen.what 0 (omega arith), ne_eqb s.seen.what 1 (omega arith), lt-ltb s.depth 8 l)

  pub begin_full : (v : ℕ) → protects s ≡ true → s.seen.what ≡ 2 → 8 ≤ s.depth → write s ivr v ≡ answered (with_seen s nothing_seen) 0
  unfolding begun marked pick
  begin_full v o w l = ivr-begun v o ∙ rw (ne_eqb s.seen.what 0 (omega arith), ne_eqb s.seen.what 1 (omega arith), le-ltb s.depth 8 l)

  pub begin-nothing : (v : ℕ) → s.seen.what ≡ 0 → write s ivr v ≡ answered s 0
  unfolding ivr_written begun pick
  begin-nothing v w = ivr-written v ∙ rw (eq-eqb s.seen.what 0 w) (pick_cases (λ (t : Aic). answered t 0 ≡ answered s 0) (protects s) (λ _. refl) (λ _. refl))

  -- ---- writes of debug control

  pub leave_forgets : (v : ℕ) → bit v 0 ≡ false → (write s dcr v).aic.seen ≡ nothing_seen
  leave_forgets v e = ap (λ (a : Answer). a.aic.seen) ((writes_of s ok v).leaving e)

  pub stay-keeps : (v : ℕ) → bit v 0 ≡ true → (write s dcr v).aic.seen ≡ s.seen
  stay-keeps v e = ap (λ (a : Answer). a.aic.seen) ((writes_of s ok v).protecting e)
