-- What each read, each write and each line step does to a sound record, register by register.
use Prim.Native.Nat.{ℕ, ◌+◌, ◌-◌, ◌%◌, ◌^◌, ◌<◌, ◌≤◌}
use mathlib.Core.Path.{◌≡◌, refl, sym, ap, ◌∙◌}
use mathlib.Core.Bool.{Bool, true, not, ◌&&◌, ◌||◌}
use mathlib.Core.Logic.{inl, inr}
use native.Mathlib.Omega.{arith}
use lib.Dec.{eqb, ltb}
use lib.Pow.{pow_mono}
use Rattle.words.specs.Choice.{pick}
use Rattle.words.specs.Word.{bit}
use Rattle.steps.specs.Refusals.{read_refusal, write_refusal, line_refusal}
use Rattle.steps.specs.Tables.{Readable, Writable}
use Rattle.steps.proofs.Promises.{read_table, write-table, line-table}
use Rattle.coreinterrupt.specs.declared.sides.Side.{Side}
use Rattle.coreinterrupt.specs.Side.{side_access, side_read, set_bits, clear_bits, side_write, moved}
use Rattle.coreinterrupt.specs.SidesPromises.{Rules}
use Rattle.coreinterrupt.proofs.SideLaws.{clears-hidden, clears-shown, clear_writable, set-bit, clear-bit, set_word, clear_word, line-bit, line_word, line-only, sound-rules}
use Rattle.coreinterrupt.specs.declared.Core.{Core}
use Rattle.coreinterrupt.specs.Model.{core_of, side, with_side, sound, answered, fiq_offset, register, access, value_at, written, read, write, input, line_moved, line}
use Rattle.coreinterrupt.specs.Tables.{Sets, MapTable, Reads, Writes, Lines}
use Rattle.coreinterrupt.proofs.AnswerLaws.{carried}
use Rattle.coreinterrupt.proofs.ModelLaws.{registers, fiq-sound, irq-sound, fiq-line, irq-line}

pub the-map : (c : Core) → MapTable c
unfolding access side register fiq_offset pick side_access
the-map c =
    record {
      read_write = (refl, refl, refl, refl);
      read_only = (refl, refl, refl, refl);
      fiq_clears = clears-hidden c.fiq;
      irq_clears = clears-hidden c.irq;
      fiq_none = clears-shown c.fiq;
      irq_none = clears-shown c.irq;
      absent = registers c;
    }

-- which line is which input
irq-input : (c : Core) (k : ℕ) (high : Bool) → k < 32 → line_moved c k high ≡ core_of c.fiq (moved c.irq k high)
unfolding line_moved side with_side input pick
irq-input c k high l = rw (irq-line k l)

fiq-input : (c : Core) (k : ℕ) (high : Bool) → line_moved c (32 + k) high ≡ core_of (moved c.fiq k high) c.irq
unfolding line_moved side with_side input pick
fiq-input c k high =
    let e : 32 + k - 32 ≡ k = omega arith in
    rw (fiq-line (32 + k) (omega arith), e)

-- the lines of a sound side are a word of 32 bits
lines_word : (limit : ℕ) (s : Side) → limit ≤ 32 → Rules limit s → s.inputs < 2 ^ 32
lines_word limit s l r =
    let n : s.count ≤ 32 = omega (arith, r.counted) in
    let m : 2 ^ s.count ≤ 2 ^ 32 = pow_mono n in
    omega (arith, r.lined)

module _ (c : Core) (ok : sound c ≡ true) where
  -- ---- reads

  answers : (o : ℕ) → o % 4 ≡ 0 → Readable (access c o) → read c o ≡ answered c (value_at c o)
  unfolding read
  answers o m r = sym (carried c (read_refusal (sound c) o (access c o)) ((read_table (sound c) o (access c o)).none.1 (ok, (m, r))))

  pub reads_of : Reads c
  unfolding value_at side register fiq_offset pick side_read
  reads_of =
      record {
        fiq_soft = answers 0x00 refl (inr (the-map c).read_write.0);
        fiq_enable = answers 0x08 refl (inr (the-map c).read_write.1);
        fiq_raw = answers 0x10 refl (inl (the-map c).read_only.0);
        fiq_status = answers 0x14 refl (inl (the-map c).read_only.1);
        fiq_clears = λ z. (answers 0x04 refl (inr ((the-map c).fiq_none z).0), answers 0x0C refl (inr ((the-map c).fiq_none z).1));
        irq_soft = answers 0x18 refl (inr (the-map c).read_write.2);
        irq_enable = answers 0x20 refl (inr (the-map c).read_write.3);
        irq_raw = answers 0x28 refl (inl (the-map c).read_only.2);
        irq_status = answers 0x2C refl (inl (the-map c).read_only.3);
        irq_clears = λ z. (answers 0x1C refl (inr ((the-map c).irq_none z).0), answers 0x24 refl (inr ((the-map c).irq_none z).1));
      }

  -- ---- writes

  module _ (v : ℕ) where
    takes : (o : ℕ) → o % 4 ≡ 0 → Writable (access c o) → write c o v ≡ answered (written c o v) 0
    unfolding write
    takes o m w = sym (carried c (write_refusal (sound c) o (access c o) 0) ((write-table 0 (inl refl) (sound c) o (access c o)).none.1 (ok, (m, (w, refl)))))

    -- the bits of v below n are set, or cleared, in the word w
    sets : (o n w : ℕ) (put : ℕ → Core) → write c o v ≡ answered (put (set_bits n w v)) 0
        → Sets (write c o v) 0 put (λ k. bit w k || (bit v k && ltb k n))
    sets o n w put e = record { word = set_bits n w v; narrow = set_word n w v; done = e; bits = set-bit n w v }

    clears : (o n w : ℕ) (put : ℕ → Core) → write c o v ≡ answered (put (clear_bits n w v)) 0
        → Sets (write c o v) 0 put (λ k. bit w k && not (bit v k && ltb k n))
    clears o n w put e = record { word = clear_bits n w v; narrow = clear_word n w v; done = e; bits = clear-bit n w v }

    pub writes_of : Writes c v
    unfolding written access side with_side register fiq_offset pick side_access side_write
    writes_of =
        let f = c.fiq in
        let i = c.irq in
        record {
          fiq_soft = sets 0x00 f.count f.soft _ (takes 0x00 refl (inr refl));
          fiq_soft_clear = clears 0x04 f.count f.soft _ (takes 0x04 refl (clear_writable f));
          fiq_enable = sets 0x08 f.count f.enable _ (takes 0x08 refl (inr refl));
          fiq_enable_clear = clears 0x0C f.count f.enable _ (takes 0x0C refl (clear_writable f));
          irq_soft = sets 0x18 i.count i.soft _ (takes 0x18 refl (inr refl));
          irq_soft_clear = clears 0x1C i.count i.soft _ (takes 0x1C refl (clear_writable i));
          irq_enable = sets 0x20 i.count i.enable _ (takes 0x20 refl (inr refl));
          irq_enable_clear = clears 0x24 i.count i.enable _ (takes 0x24 refl (clear_writable i));
        }

  -- ---- lines

  module _ (l : ℕ) (small : l ≤ 1) where
    moves : (k : ℕ) → k < 40 → line c k l ≡ answered (line_moved c k (eqb l 1)) 0
    unfolding line
    moves k m = sym (carried c (line_refusal (sound c) 40 k l) ((line-table (sound c) 40 k l).none.1 (ok, (m, small))))

    pub lines_of : Lines c l
    lines_of =
        record {
          irq = λ k m. record {
            word = (moved c.irq k (eqb l 1)).inputs;
            narrow = line_word c.irq k (eqb l 1) (lines_word 32 c.irq (omega arith) (sound-rules 32 c.irq (irq-sound c ok)));
            done =
                moves k (omega arith) ∙ ap (λ (d : Core). answered d 0) (irq-input c k (eqb l 1) m)
                ∙ ap (λ (s : Side). answered (core_of c.fiq s) 0) (line-only c.irq k (eqb l 1));
            bits = λ j. line-bit c.irq k j (eqb l 1);
          };
          fiq = λ k m. record {
            word = (moved c.fiq k (eqb l 1)).inputs;
            narrow = line_word c.fiq k (eqb l 1) (lines_word 8 c.fiq (omega arith) (sound-rules 8 c.fiq (fiq-sound c ok)));
            done =
                moves (32 + k) (omega arith) ∙ ap (λ (d : Core). answered d 0) (fiq-input c k (eqb l 1))
                ∙ ap (λ (s : Side). answered (core_of s c.irq) 0) (line-only c.fiq k (eqb l 1));
            bits = λ j. line-bit c.fiq k j (eqb l 1);
          };
        }
