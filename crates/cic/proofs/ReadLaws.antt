-- What a read of each register answers of a sound record.
use mathlib.Core.Path.{◌≡◌, refl, sym, ap, ap₂, subst, ◌∙◌}
use mathlib.Core.Bool.{Bool, true, false, ◌&&◌}
use mathlib.Core.List.{List}
use mathlib.Core.Logic.{inl, inr}
use Prim.Native.Nat.{ℕ, ◌+◌, ◌*◌, ◌%◌, ◌^◌, ◌<◌, ◌≤◌}
use native.Mathlib.Decide.{dec_lt}
use native.Mathlib.Omega.{arith}
use borrow.Author.Tests.{eqb-true}
use lib.Dec.{ltb}
use lib.ListN.{get_or, length, get_or-eq_default}
use Rattle.words.specs.Array.{bit_at, clean_below}
use Rattle.words.specs.Word.{clean}
use Rattle.words.proofs.ArrayLaws.{clean_word}
use Rattle.words.proofs.WordLaws.{bit-both, both_lt}
use Rattle.cic_record.specs.declared.Answer.{Answer}
use Rattle.cic_record.specs.declared.Cic.{Cic}
use Rattle.cic_record.specs.Promises.{Shaped, Rules}
use Rattle.cic_record.specs.Record.{answered}
use Rattle.cic_record.specs.Sound.{sound}
use Rattle.cic_record.proofs.PartsLaws.{sound-parts}
use Rattle.cic_record.proofs.Promises as of-record
use Rattle.cic_registers.specs.Maps.{map_read}
use Rattle.cic_registers.proofs.MapsPromises as maps
use Rattle.cic_registers.specs.Bits.{word_read}
use Rattle.cic_registers.proofs.BitsLaws.{read-bit}
use Rattle.cic_registers.specs.declared.layout.Register.{Register}
use Rattle.cic_registers.specs.Map.{register_at, if_any, access_of}
use Rattle.cic_registers.proofs.AccessLaws.{is_there}
use Rattle.cic_registers.proofs.LayoutPromises as layout
use Rattle.cic_registers.specs.Registers.{value_of}
use Rattle.cic_registers.proofs.MapRegisterLaws.{read-bytes}
use Rattle.cic_registers.specs.Model.{read}
use Rattle.cic.specs.Tables.{Shows, BitsOf, BytesOf, Reads}
use Rattle.cic.proofs.StepLaws.{read_done}

-- the read answers w, which has the property
shows : (c : Cic) {a : Answer} (p : ℕ → Type 0) (w : ℕ) → a ≡ answered c w → p w → Shows c a p
shows c p w e h =
    let v = ap (λ (b : Answer). b.value) e in
    (e ∙ ap (answered c) (sym v), subst p (sym v) h)

-- ---- words

-- without spare bits a word is read as it is stored
word-shown : (c : Cic) {a : Answer} (m n : ℕ) (ws : List ℕ) (k : ℕ) → k < m → clean_below m n ws ≡ true → a ≡ answered c (word_read n ws k)
    → Shows c a (λ w. (w ≡ get_or ws k 0) × BitsOf n (bit_at ws) k w)
word-shown c m n ws k l clear e =
    shows c (λ w. (w ≡ get_or ws k 0) × BitsOf n (bit_at ws) k w) (word_read n ws k) e (stored, read-bit n ws k)
  where
    stored : word_read n ws k ≡ get_or ws k 0
    stored = unfold word_read clean in (eqb-true _ _ (clean_word m n ws k l clear))

-- both bits, and one of the n things
both_there : (s e t : Bool) → ((s && t) && (e && t)) ≡ ((s && e) && t)
both_there false e t = refl
both_there true e true = refl
both_there true true false = refl
both_there true false false = refl

-- ---- maps

-- every entry of a map is a byte
bytes_fit : (m n limit : ℕ) (es : List ℕ) → limit ≤ 256 → length es ≡ m → ((i : ℕ) → i < n → get_or es i 0 < limit) → ((i : ℕ) → n ≤ i → i < m → get_or es i 0 ≡ 0)
    → (i : ℕ) → get_or es i 0 < 256
bytes_fit m n limit es l size used spare i = go (dec_lt i n) (dec_lt i m)
  where
    go : Dec (i < n) → Dec (i < m) → get_or es i 0 < 256
    go (yes u) _ = omega (arith, used i u)
    go (no u) (yes v) = omega (arith, spare i (omega arith) v)
    go (no u) (no v) =
        let z : get_or es i 0 ≡ 0 = get_or-eq_default es 0 (omega arith) in
        omega (arith, z)

map-shown : (c : Cic) {a : Answer} (n : ℕ) (es : List ℕ) (k : ℕ) → ((i : ℕ) → get_or es i 0 < 256) → a ≡ answered c (map_read n es k)
    → Shows c a (λ w. (w < 2 ^ 32) × BytesOf n (λ i. get_or es i 0) k w)
map-shown c n es k fit e =
    shows c (λ w. (w < 2 ^ 32) × BytesOf n (λ i. get_or es i 0) k w) (map_read n es k) e ((maps.kept).reads_word n es k fit, λ j l. read-bytes n es k j fit l)

-- ---- every register

module _ (c : Cic) (shaped : Shaped c) (ok : sound c ≡ true) where
  rules : Rules c
  rules = ((of-record.kept).sound_is c).0 ok

  channels_fit : (i : ℕ) → get_or c.channel i 0 < 256
  channels_fit = bytes_fit 1024 c.systems c.channels c.channel rules.counts.1.0.1 shaped.3 rules.channels rules.spare_channels

  hosts_fit : (i : ℕ) → get_or c.host i 0 < 256
  hosts_fit = bytes_fit 256 c.channels c.hosts c.host rules.counts.1.1.1 shaped.4 rules.hosts rules.spare_hosts

  -- a group's register k, whose first thing is one of n
  system_word : (k : ℕ) → 32 * k < c.systems → k < 32
  system_word k l = omega (arith, rules.counts.0.1)

  group-read : (o first n : ℕ) {r : Register} → o % 4 ≡ 0 → register_at o ≡ r → access_of c r ≡ if_any first n → first < n → read c o ≡ answered c (value_of c r)
  group-read o first n four at e l = read_done c o ok four at (inr (e ∙ is_there first n l))

  pub reads_of : Reads c
  unfolding value_of access_of
  reads_of =
      record {
        revision = read_done c 0x000 ok refl (layout.kept).revision (inl refl);
        global_enable = read_done c 0x010 ok refl (layout.kept).global_enable (inr refl);
        raw_set = λ k l.
            word-shown c 32 c.systems c.status k (system_word k l) (sound-parts c ok).status
            (group-read (0x200 + 4 * k) (32 * k) c.systems (omega arith) ((layout.kept).raw_set k (system_word k l)) refl l);
        enabled_clear = λ k l.
            shows c (λ w. (w < 2 ^ 32) × BitsOf c.systems (λ s. bit_at c.status s && bit_at c.enable s) k w) _
            (group-read (0x280 + 4 * k) (32 * k) c.systems (omega arith) ((layout.kept).enabled_clear k (system_word k l)) refl l) (
              both_lt _ _,
              λ j b.
                  bit-both (word_read c.systems c.status k) (word_read c.systems c.enable k) j b
                  ∙ ap₂ (λ (s e : Bool). s && e) (read-bit c.systems c.status k j b) (read-bit c.systems c.enable k j b)
                  ∙ both_there (bit_at c.status (32 * k + j)) (bit_at c.enable (32 * k + j)) (ltb (32 * k + j) c.systems),
            );
        enable_set = λ k l.
            word-shown c 32 c.systems c.enable k (system_word k l) (sound-parts c ok).enable
            (group-read (0x300 + 4 * k) (32 * k) c.systems (omega arith) ((layout.kept).enable_set k (system_word k l)) refl l);
        enable_clear = λ k l.
            group-read (0x380 + 4 * k) (32 * k) c.systems (omega arith) ((layout.kept).enable_clear k (system_word k l)) refl l
            ∙ sym (group-read (0x300 + 4 * k) (32 * k) c.systems (omega arith) ((layout.kept).enable_set k (system_word k l)) refl l);
        channel_map = λ k l.
            map-shown c c.systems c.channel k channels_fit
            (group-read (0x400 + 4 * k) (4 * k) c.systems (omega arith) ((layout.kept).channel_map k (omega (arith, rules.counts.0.1))) refl l);
        host_map = λ k l.
            map-shown c c.channels c.host k hosts_fit
            (group-read (0x800 + 4 * k) (4 * k) c.channels (omega arith) ((layout.kept).host_map k (omega (arith, rules.counts.1.0.1))) refl l);
        host_enable = λ k l.
            let b : k < 8 = omega (arith, rules.counts.1.1.1) in
            word-shown c 8 c.hosts c.allow k b (sound-parts c ok).allow
            (group-read (0x1500 + 4 * k) (32 * k) c.hosts (omega arith) ((layout.kept).host_enable k b) refl l);
      }
