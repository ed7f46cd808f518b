-- What a write to each register does to a sound record.
use mathlib.Core.Path.{◌≡◌, refl, sym, ap, ap₂, ◌∙◌}
use mathlib.Core.Bool.{Bool, true, false, not, ◌&&◌, ◌||◌}
use mathlib.Core.List.{List}
use mathlib.Core.Logic.{inl, inr}
use Prim.Native.Nat.{ℕ, ◌+◌, ◌*◌, ◌/◌, ◌%◌, ◌^◌, ◌<◌, ◌≤◌}
use native.Mathlib.Nat.{mod-le}
use native.Mathlib.Omega.{arith}
use borrow.Author.Tests.{lt-ltb}
use lib.Dec.{eqb, ltb}
use lib.ListN.{get_or, length}
use Rattle.words.specs.Array.{bit_at, with_bit_at, rest_at, byte_of}
use Rattle.words.specs.Choice.{pick}
use Rattle.words.specs.Word.{bit, either, without, with_bit, kept}
use Rattle.words.proofs.ArrayLaws.{bit_at_word, rest-ltb}
use Rattle.words.proofs.TruthLaws.{eqb_iff}
use Rattle.words.proofs.WordLaws.{bit-either, bit-without, bit_kept, bit-put, bit-cleared, either_lt, without_lt, with_bit_lt}
use Rattle.steps.specs.Refusals.{carried_out}
use Rattle.cic_record.specs.declared.Answer.{Answer}
use Rattle.cic_record.specs.declared.Cic.{Cic}
use Rattle.cic_record.specs.Promises.{Shaped, Rules}
use Rattle.cic_record.specs.Record.{with_status, with_enable, with_channel, with_host, with_allow, answered}
use Rattle.cic_record.specs.Sound.{sound}
use Rattle.cic_record.proofs.Promises as of-record
use Rattle.cic_registers.specs.Maps.{map_put}
use Rattle.cic_registers.proofs.MapsPromises as maps
use Rattle.cic_registers.specs.Bits.{bits_set, bits_cleared, word_replaced}
use Rattle.cic_registers.specs.declared.layout.Register.{Register}
use Rattle.cic_registers.specs.Map.{register_at, if_any, access_of}
use Rattle.cic_registers.proofs.AccessLaws.{is_there}
use Rattle.cic_registers.proofs.LayoutPromises as layout
use Rattle.cic_registers.specs.Registers.{unless, value_refusal, written_to}
use Rattle.cic_registers.proofs.MapRegisterLaws.{put-bytes}
use Rattle.cic_registers.proofs.WrittenLaws.{taken_if}
use Rattle.cic_registers.specs.Model.{write}
use Rattle.cic.specs.Tables.{Sets, Maps, Writes}
use Rattle.cic.proofs.StepLaws.{write_done}

-- ---- one word put anew

-- the number of a bit in its word
in_word : (k j : ℕ) → j < 32 → (32 * k + j) % 32 ≡ j
in_word k j l = omega arith

-- bit j of the word written, where it is for one of n things
written-bit : (n k v j : ℕ) → j < 32 → bit (kept (rest_at n k) v) j ≡ (bit v ((32 * k + j) % 32) && ltb (32 * k + j) n)
written-bit n k v j l =
    bit_kept (rest_at n k) v j ∙ ap₂ (λ (s t : Bool). s && t) (ap (bit v) (sym (in_word k j l))) (rest-ltb n k j)

-- the one bit of thing v
same_bit : (v j : ℕ) → j < 32 → eqb j (v % 32) ≡ eqb (32 * (v / 32) + j) v
same_bit v j l = eqb_iff j (v % 32) (32 * (v / 32) + j) v (λ e. omega arith) (λ e. omega arith)

module _ {a : Answer} (put : List ℕ → Cic) (ws : List ℕ) where
  bits-set : (n k v : ℕ) → a ≡ answered (put (bits_set n ws k v)) 0 → Sets a put ws k (λ s. bit_at ws s || (bit v (s % 32) && ltb s n))
  unfolding bits_set
  bits-set n k v e =
      record {
        word = either (get_or ws k 0) (kept (rest_at n k) v);
        done = e;
        fits = either_lt (get_or ws k 0) (kept (rest_at n k) v);
        bits = λ j l.
            bit-either (get_or ws k 0) (kept (rest_at n k) v) j l
            ∙ ap₂ (λ (s t : Bool). s || t) (sym (bit_at_word ws k j l)) (written-bit n k v j l);
      }

  bits-cleared : (k v : ℕ) → a ≡ answered (put (bits_cleared ws k v)) 0 → Sets a put ws k (λ s. bit_at ws s && not (bit v (s % 32)))
  unfolding bits_cleared
  bits-cleared k v e =
      record {
        word = without (get_or ws k 0) v;
        done = e;
        fits = without_lt (get_or ws k 0) v;
        bits = λ j l.
            bit-without (get_or ws k 0) v j l
            ∙ ap₂ (λ (s t : Bool). s && not t) (sym (bit_at_word ws k j l)) (ap (bit v) (sym (in_word k j l)));
      }

  word_replaced_lem : (n k v : ℕ) → v < 2 ^ 32 → a ≡ answered (put (word_replaced n ws k v)) 0 → Sets a put ws k (λ s. bit v (s % 32) && ltb s n)
  unfolding word_replaced
  word_replaced_lem n k v b e = record { word = kept (rest_at n k) v; done = e; fits = below; bits = written-bit n k v }
    where
      below : kept (rest_at n k) v < 2 ^ 32
      below = unfold kept in (omega (arith, mod-le v (2 ^ rest_at n k)))

  bit-set : (v : ℕ) → a ≡ answered (put (with_bit_at ws v true)) 0 → Sets a put ws (v / 32) (λ s. bit_at ws s || eqb s v)
  unfolding with_bit_at
  bit-set v e =
      record {
        word = with_bit (get_or ws (v / 32) 0) (v % 32) true;
        done = e;
        fits = with_bit_lt (get_or ws (v / 32) 0) (v % 32) true;
        bits = λ j l.
            bit-put (get_or ws (v / 32) 0) (v % 32) j l
            ∙ ap₂ (λ (s t : Bool). s || t) (sym (bit_at_word ws (v / 32) j l)) (same_bit v j l);
      }

  bit-clear : (v : ℕ) → a ≡ answered (put (with_bit_at ws v false)) 0 → Sets a put ws (v / 32) (λ s. bit_at ws s && not (eqb s v))
  unfolding with_bit_at
  bit-clear v e =
      record {
        word = with_bit (get_or ws (v / 32) 0) (v % 32) false;
        done = e;
        fits = with_bit_lt (get_or ws (v / 32) 0) (v % 32) false;
        bits = λ j l.
            bit-cleared (get_or ws (v / 32) 0) (v % 32) j l
            ∙ ap₂ (λ (s t : Bool). s && not t) (sym (bit_at_word ws (v / 32) j l)) (same_bit v j l);
      }

  -- ---- four map bytes put anew

  map-put : (n k v : ℕ) → n ≤ length ws → a ≡ answered (put (map_put n k v ws)) 0
      → Maps a put ws (λ i. pick (eqb (i / 4) k && ltb i n) (byte_of v (i % 4)) (get_or ws i 0))
  map-put n k v l e = record { map = map_put n k v ws; done = e; size = (maps.kept).puts_length n k v ws; bytes = λ i. put-bytes n k v ws i l }

-- ---- every register

-- an index below its limit is taken
index-taken : (v n : ℕ) → v < n → unless (ltb v n) ≡ carried_out
unfolding pick
index-taken v n l = ap unless (lt-ltb v n l)

module _ (c : Cic) (shaped : Shaped c) (ok : sound c ≡ true) (v : ℕ) where
  rules : Rules c
  rules = ((of-record.kept).sound_is c).0 ok

  system_word : (k : ℕ) → 32 * k < c.systems → k < 32
  system_word k l = omega (arith, rules.counts.0.1)

  -- a group's register, whose first thing is one of n
  group-written : (o first n : ℕ) {r : Register} → o % 4 ≡ 0 → register_at o ≡ r → access_of c r ≡ if_any first n → first < n → value_refusal c r v ≡ carried_out
      → write c o v ≡ answered (written_to c r v) 0
  group-written o first n four at e l takes = write_done c o v ok four at (inr (e ∙ is_there first n l)) takes

  pub writes_of : Writes c v
  unfolding value_refusal written_to access_of
  writes_of =
      record {
        global_enable = write_done c 0x010 v ok refl (layout.kept).global_enable (inr refl) refl;
        status_index_set = λ l. bit-set (with_status c) c.status v (write_done c 0x020 v ok refl (layout.kept).status_index.0 (inl refl) (index-taken v c.systems l));
        status_index_clear = λ l. bit-clear (with_status c) c.status v (write_done c 0x024 v ok refl (layout.kept).status_index.1 (inl refl) (index-taken v c.systems l));
        enable_index_set = λ l. bit-set (with_enable c) c.enable v (write_done c 0x028 v ok refl (layout.kept).enable_index.0 (inl refl) (index-taken v c.systems l));
        enable_index_clear = λ l. bit-clear (with_enable c) c.enable v (write_done c 0x02C v ok refl (layout.kept).enable_index.1 (inl refl) (index-taken v c.systems l));
        host_index_set = λ l. bit-set (with_allow c) c.allow v (write_done c 0x034 v ok refl (layout.kept).host_index.0 (inl refl) (index-taken v c.hosts l));
        host_index_clear = λ l. bit-clear (with_allow c) c.allow v (write_done c 0x038 v ok refl (layout.kept).host_index.1 (inl refl) (index-taken v c.hosts l));
        raw_set = λ k l.
            bits-set (with_status c) c.status c.systems k v
            (group-written (0x200 + 4 * k) (32 * k) c.systems (omega arith) ((layout.kept).raw_set k (system_word k l)) refl l refl);
        enabled_clear = λ k l.
            bits-cleared (with_status c) c.status k v
            (group-written (0x280 + 4 * k) (32 * k) c.systems (omega arith) ((layout.kept).enabled_clear k (system_word k l)) refl l refl);
        enable_set = λ k l.
            bits-set (with_enable c) c.enable c.systems k v
            (group-written (0x300 + 4 * k) (32 * k) c.systems (omega arith) ((layout.kept).enable_set k (system_word k l)) refl l refl);
        enable_clear = λ k l.
            bits-cleared (with_enable c) c.enable k v
            (group-written (0x380 + 4 * k) (32 * k) c.systems (omega arith) ((layout.kept).enable_clear k (system_word k l)) refl l refl);
        channel_map = λ k l below.
            map-put (with_channel c) c.channel c.systems k v (omega (arith, rules.counts.0.1, shaped.3))
            (group-written (0x400 + 4 * k) (4 * k) c.systems (omega arith) ((layout.kept).channel_map k (omega (arith, rules.counts.0.1))) refl l
            ((taken_if c.systems c.channels k v).1 below));
        host_map = λ k l below.
            map-put (with_host c) c.host c.channels k v (omega (arith, rules.counts.1.0.1, shaped.4))
            (group-written (0x800 + 4 * k) (4 * k) c.channels (omega arith) ((layout.kept).host_map k (omega (arith, rules.counts.1.0.1))) refl l
            ((taken_if c.channels c.hosts k v).1 below));
        host_enable = λ k l b.
            word_replaced_lem (with_allow c) c.allow c.hosts k v b
            (group-written (0x1500 + 4 * k) (32 * k) c.hosts (omega arith) ((layout.kept).host_enable k (omega (arith, rules.counts.1.1.1))) refl l refl);
      }
