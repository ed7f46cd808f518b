-- What each read and each write does to a sound record, register by register.
use Prim.Native.Nat.{ℕ, ◌+◌, ◌-◌, ◌*◌, ◌/◌, ◌%◌, ◌<◌}
use mathlib.Core.Path.{◌≡◌, refl, sym, ◌∙◌}
use mathlib.Core.Bool.{true, false, not, ◌&&◌, and-true}
use mathlib.Core.Logic.{◌≢◌, ◌⊎◌, inl, inr}
use native.Mathlib.Omega.{arith}
use native.Mathlib.Decide.{ℕ_discrete}
use lib.Dec.{eqb, ltb, leb}
use lib.ListN.{set}
use borrow.Author.Tests.{eqb-false, eq-eqb, ne_eqb, lt-ltb, le-ltb, le-leb, lt-leb, ltb-true, leb-false}
use Rattle.words.specs.Choice.{pick}
use Rattle.words.specs.Word.{bit, kept, either, both, without, with_bit}
use Rattle.words.proofs.ChoiceLaws.{pick_cases}
use Rattle.words.proofs.WordLaws.{bit-word_of, bit_alone, bit-either, bit-both, bit-without}
use Rattle.steps.specs.declared.Access.{Access}
use Rattle.steps.specs.declared.Access.TheVariants.{NoRegister, ReadOnly, WriteOnly, ReadWrite}
use Rattle.steps.specs.Refusals.{read_refusal, write_refusal}
use Rattle.aic_record.specs.declared.Aic.{Aic}
use Rattle.aic_record.specs.Record.{with_memory, with_mode}
use Rattle.aic_record.specs.Mode.{type_of, kept_mode, kind, edge}
use Rattle.aic_record.specs.Sound.{sound}
use Rattle.aic_sources.specs.Pending.{edge_word}
use Rattle.aic_registers.specs.Map.{svr, ivr, fvr, cisr, iecr, eoicr, dcr, ffer, ffdr, ffsr, access}
use Rattle.aic_registers.specs.Handlers.{answered, ivr_written, current, closed_last, ended}
use Rattle.aic_registers.specs.Effects.{moded, vectored, enabled_by, disabled_by, set_by, cleared_by, debug_by, forced_by, unforced_by}
use Rattle.aic_registers.specs.Registers.{output_bits, stored, read_at, written_at}
use Rattle.aic.specs.Model.{read_number, write_number, read, write}
use Rattle.aic.specs.Tables.{Sets, MapTable, Reads, Writes}
use Rattle.words.proofs.WordLaws.{same_word, bit_kept, kept_lt, bit-cleared, either_lt, without_lt, with_bit_lt}

-- the two bits of debug control that are kept
kept-is : (v n : ℕ) → n < 4 → bit n 0 ≡ bit v 0 → bit n 1 ≡ bit v 1 → kept 2 v ≡ n
kept-is v n l p q = same_word 2 (kept 2 v) n (kept_lt 2 v) l (λ k m. bits k m (ℕ_discrete k 0))
  where
    bits : (k : ℕ) → k < 2 → Dec (k ≡ 0) → bit (kept 2 v) k ≡ bit n k
    bits k m (yes e) = rw e (bit_kept 2 v 0 ∙ and-true (bit v 0) ∙ sym p)
    bits k m (no d) = let e : k ≡ 1 = omega arith in rw e (bit_kept 2 v 1 ∙ and-true (bit v 1) ∙ sym q)

kept_on : (v : ℕ) → bit v 0 ≡ true → kept 2 v ≡ pick (bit v 1) 3 1
kept_on v e =
    pick_cases (λ (n : ℕ). kept 2 v ≡ n) (bit v 1) (λ h. kept-is v 3 (omega arith) (rw e (unfold bit in refl)) (rw h (unfold bit in refl)))
    (λ h. kept-is v 1 (omega arith) (rw e (unfold bit in refl)) (rw h (unfold bit in refl)))

kept_off : (v : ℕ) → bit v 0 ≡ false → kept 2 v ≡ pick (bit v 1) 2 0
kept_off v e =
    pick_cases (λ (n : ℕ). kept 2 v ≡ n) (bit v 1) (λ h. kept-is v 2 (omega arith) (rw e (unfold bit in refl)) (rw h (unfold bit in refl)))
    (λ h. kept-is v 0 (omega arith) (rw e (unfold bit in refl)) (rw h (unfold bit in refl)))

module _ (s : Aic) (ok : sound s ≡ true) where
  -- ---- writes

  mode-write : (k v : ℕ) → k < 32 → write s (k * 4) v ≡ answered (moded s k v) 0
  unfolding write write_number write_refusal access written_at pick
  mode-write k v l =
      let e : k * 4 / 4 ≡ k = omega arith in
      rw (
        ok,
        eq-eqb (k * 4 % 4) 0 (omega arith),
        le-leb (k * 4) ivr (omega arith),
        lt-ltb (k * 4) svr (omega arith),
        e,
      )

  vector-write : (k v : ℕ) → k < 32 → write s (svr + k * 4) v ≡ answered (vectored s k v) 0
  unfolding write write_number write_refusal access written_at pick
  vector-write k v l =
      let e : (svr + k * 4) / 4 - 32 ≡ k = omega arith in
      rw (
        ok,
        eq-eqb ((svr + k * 4) % 4) 0 (omega arith),
        le-leb (svr + k * 4) ivr (omega arith),
        le-ltb (svr + k * 4) svr (omega arith),
        lt-ltb (svr + k * 4) ivr (omega arith),
        e,
      )

  retyped : (k v : ℕ) → k < 32 → kind s k ≢ type_of v
      → Sets (write s (k * 4) v) 0 s.memory (λ w. with_mode (with_memory s w) (set s.mode k (kept_mode v))) (λ j. bit s.memory j && not (eqb j k))
  unfolding moded pick
  retyped k v l d =
      record {
        word = with_bit s.memory k false;
        done = mode-write k v l ∙ rw (ne_eqb (kind s k) (type_of v) d);
        bits = bit-cleared s.memory k;
        below = λ _. with_bit_lt s.memory k false;
      }

  reranked : (k v : ℕ) → k < 32 → kind s k ≡ type_of v → write s (k * 4) v ≡ answered (with_mode s (set s.mode k (kept_mode v))) 0
  unfolding moded pick
  reranked k v l e = mode-write k v l ∙ rw (eq-eqb (kind s k) (type_of v) e)

  module _ (v : ℕ) where
    bits-edge : (k : ℕ) → k < 32 → bit (both v (edge_word s)) k ≡ (bit v k && edge s k)
    unfolding edge_word
    bits-edge k l = bit-both v (edge_word s) k l ∙ rw (bit-word_of 32 (edge s) k l)

    bits_force : (k : ℕ) → k < 32 → bit (without v 1) k ≡ (bit v k && not (eqb k 0))
    bits_force k l = bit-without v 1 k l ∙ rw (bit_alone 0 k)

    pub writes_of : Writes s v
    unfolding write write_number write_refusal access written_at pick
        vectored enabled_by disabled_by set_by cleared_by forced_by unforced_by debug_by ivr_written ended closed_last
    writes_of =
        record {
          retyped = λ k l d. retyped k v l d;
          reranked = λ k l e. reranked k v l e;
          vectors = λ k l. vector-write k v l;
          ignored = λ o. rw (ok, o);
          enables = record { word = either s.enabled v; done = rw ok; bits = bit-either s.enabled v; below = λ _. either_lt s.enabled v };
          disables = record { word = without s.enabled v; done = rw ok; bits = bit-without s.enabled v; below = λ _. without_lt s.enabled v };
          sets =
              record {
                word = either s.memory (both v (edge_word s));
                done = rw ok;
                bits = λ k l. bit-either s.memory (both v (edge_word s)) k l ∙ rw (bits-edge k l);
                below = λ _. either_lt s.memory (both v (edge_word s));
              };
          clears =
              record {
                word = without s.memory (both v (edge_word s));
                done = rw ok;
                bits = λ k l. bit-without s.memory (both v (edge_word s)) k l ∙ rw (bits-edge k l);
                below = λ _. without_lt s.memory (both v (edge_word s));
              };
          closes = λ d. rw (ok, ne_eqb s.depth 0 d);
          closes_none = λ e. rw (ok, eq-eqb s.depth 0 e);
          spurious = rw ok;
          protecting = λ e. rw (ok, e, kept_on v e);
          leaving = λ e. rw (ok, e, kept_off v e);
          forces =
              record {
                word = either s.forced (without v 1);
                done = rw ok;
                bits = λ k l. bit-either s.forced (without v 1) k l ∙ rw (bits_force k l);
                below = λ _. either_lt s.forced (without v 1);
              };
          unforces = record { word = without s.forced v; done = rw ok; bits = bit-without s.forced v; below = λ _. without_lt s.forced v };
        }

  -- ---- plain reads

  pub reads_of : Reads s
  unfolding read read_number read_refusal access read_at stored current output_bits pick
  reads_of =
      record {
        modes = λ k l.
            let e : k * 4 / 4 ≡ k = omega arith in
            rw (
              ok,
              eq-eqb (k * 4 % 4) 0 (omega arith),
              le-leb (k * 4) ivr (omega arith),
              ne_eqb (k * 4) ivr (omega arith),
              ne_eqb (k * 4) fvr (omega arith),
              lt-ltb (k * 4) svr (omega arith),
              e,
            );
        vectors = λ k l.
            let e : (svr + k * 4) / 4 - 32 ≡ k = omega arith in
            rw (
              ok,
              eq-eqb ((svr + k * 4) % 4) 0 (omega arith),
              le-leb (svr + k * 4) ivr (omega arith),
              ne_eqb (svr + k * 4) ivr (omega arith),
              ne_eqb (svr + k * 4) fvr (omega arith),
              le-ltb (svr + k * 4) svr (omega arith),
              lt-ltb (svr + k * 4) ivr (omega arith),
              e,
            );
        none_open = λ e. rw (ok, eq-eqb s.depth 0 e);
        some_open = λ d. rw (ok, ne_eqb s.depth 0 d);
        pendings = rw ok;
        enables = rw ok;
        outputs = rw ok;
        spurious = rw ok;
        debug = rw ok;
        forced = rw ok;
      }

-- ---- the map

-- the aligned offsets between registers, and past the last
abbrev Gap : ℕ → Type 0
Gap o = (o ≡ 0x118) ⊎ ((o ≡ 0x11C) ⊎ ((o ≡ 0x13C) ⊎ (ffsr < o)))

both_ways : ReadWrite ≢ NoRegister
both_ways e = let z : ◌≡◌ {A = ℕ} 0 1 = cc in omega arith

read-only : ReadOnly ≢ NoRegister
read-only e = let z : ◌≡◌ {A = ℕ} 0 1 = cc in omega arith

write-only : WriteOnly ≢ NoRegister
write-only e = let z : ◌≡◌ {A = ℕ} 0 1 = cc in omega arith

absent-gap : (o : ℕ) → o % 4 ≡ 0 → access o ≡ NoRegister → Gap o
unfolding access
absent-gap o a =
    pick_cases A (leb o ivr) (λ _ e. absurd (both_ways e)) (λ _.
    pick_cases A (leb o cisr) (λ _ e. absurd (read-only e)) (λ n.
    pick_cases A (ltb o iecr) (λ l _. low (omega (arith, leb-false)) (omega (arith, ltb-true)) (ℕ_discrete o 0x118)) (λ _.
    pick_cases A (leb o eoicr) (λ _ e. absurd (write-only e)) (λ _.
    pick_cases A (leb o dcr) (λ _ e. absurd (both_ways e)) (λ m.
    pick_cases A (ltb o ffer) (λ l _. inr (inr (inl (omega (arith, leb-false o dcr m, ltb-true o ffer l))))) (λ _.
    pick_cases A (leb o ffdr) (λ _ e. absurd (write-only e)) (λ k.
    pick_cases A (eqb o ffsr) (λ _ e. absurd (read-only e)) (λ d _. inr (inr (inr (omega (arith, leb-false o ffdr k, eqb-false o ffsr d))))))))))))
  where
    A : Access → Type 0
    A x = x ≡ NoRegister → Gap o

    low : cisr < o → o < iecr → Dec (o ≡ 0x118) → Gap o
    low p q (yes e) = inl e
    low p q (no d) = inr (inl (omega arith))

pub the-map : MapTable
unfolding access pick
the-map =
    record {
      modes = λ k l. rw (le-leb (k * 4) ivr (omega arith));
      vectors = λ k l. rw (le-leb (svr + k * 4) ivr (omega arith));
      read_write = (refl, refl, refl);
      read_only = (refl, refl, refl, refl, refl, refl);
      write_only = (refl, refl, refl, refl, refl, refl, refl);
      absent = λ o a. (absent-gap o a, bare o);
    }
  where
    bare : (o : ℕ) → Gap o → access o ≡ NoRegister
    bare o (inl e) = rw e
    bare o (inr (inl e)) = rw e
    bare o (inr (inr (inl e))) = rw e
    bare o (inr (inr (inr l))) =
        rw (
          lt-leb o ivr (omega arith),
          lt-leb o cisr (omega arith),
          le-ltb o iecr (omega arith),
          lt-leb o eoicr (omega arith),
          lt-leb o dcr (omega arith),
          le-ltb o ffer (omega arith),
          lt-leb o ffdr (omega arith),
          ne_eqb o ffsr (omega arith),
        )
