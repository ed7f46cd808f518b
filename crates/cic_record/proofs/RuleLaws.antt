-- A record is sound exactly if it keeps each rule: the check told as rules, and back.
use mathlib.Core.Path.{◌≡◌, sym, ◌∙◌}
use mathlib.Core.Bool.{true}
use mathlib.Core.List.{List}
use mathlib.Core.Logic.{◌⊎◌, inl, inr, ⊎_elim}
use Prim.Native.Nat.{ℕ, zero, suc, ◌≤◌, ◌<◌, ◌^◌}
use native.Mathlib.Decide.{dec_lt, ℕ_discrete}
use native.Mathlib.Omega.{arith}
use borrow.Author.Tests.{lt-ltb, le-ltb, ltb-true, leb-true, le-leb, eqb-true, eq-eqb}
use lib.Dec.{eqb, ltb}
use lib.ListN.{get_or}
use Rattle.words.specs.Array.{rest_at, clean_below}
use Rattle.words.specs.Choice.{pick}
use Rattle.words.specs.Counting.{all_below}
use Rattle.words.specs.Word.{clean}
use Rattle.words.proofs.ArrayLaws.{clean_word}
use Rattle.words.proofs.ChoiceLaws.{pick_true, pick-false}
use Rattle.words.proofs.CountingLaws.{all_at, at_all}
use Rattle.words.proofs.TruthLaws.{and_both}
use Rattle.words.proofs.WordLaws.{bit_past, bits-clean, clean_lt}
use Rattle.cic_record.specs.declared.Cic.{Cic}
use Rattle.cic_record.specs.Promises.{NoneFrom, Rules}
use Rattle.cic_record.specs.Sound.{entry_sound, numbers_sound, sound}
use Rattle.cic_record.proofs.PartsLaws.{sound-parts, parts-sound}
use Rattle.cic_record.proofs.SoundLaws.{numbers-counts, systems-within, channels-within, hosts-within}

-- ---- bits

below_power : (w : ℕ) → w < 2 ^ w
below_power zero = omega arith
below_power (suc w) = let h = below_power w in omega arith

clean-none : (m n : ℕ) (ws : List ℕ) → clean_below m n ws ≡ true → NoneFrom n m ws
clean-none m n ws e k j l b = bit_past (rest_at n k) (get_or ws k 0) j (clean_lt (rest_at n k) (get_or ws k 0) (clean_word m n ws k l e)) (omega arith)

none-clean : (m n : ℕ) (ws : List ℕ) → NoneFrom n m ws → clean_below m n ws ≡ true
unfolding clean_below
none-clean m n ws h =
    at_all m (λ k. clean (rest_at n k) (get_or ws k 0))
    (λ k l. bits-clean (get_or ws k 0) (rest_at n k) (get_or ws k 0) (below_power (get_or ws k 0)) (λ j a _. h k j l (omega arith)))

-- ---- bytes

module _ (m n limit : ℕ) (es : List ℕ) where
  used-below : all_below m (entry_sound n limit es) ≡ true → n ≤ m → (i : ℕ) → i < n → get_or es i 0 < limit
  unfolding entry_sound
  used-below e b i l = ltb-true (get_or es i 0) limit (pick_true (eqb (get_or es i 0) 0) (lt-ltb i n l) ∙ all_at m (entry_sound n limit es) e i (omega arith))

  spare-zero : all_below m (entry_sound n limit es) ≡ true → (i : ℕ) → n ≤ i → i < m → get_or es i 0 ≡ 0
  unfolding entry_sound
  spare-zero e i b l = eqb-true (get_or es i 0) 0 (pick-false (ltb (get_or es i 0) limit) (le-ltb i n b) ∙ all_at m (entry_sound n limit es) e i l)

  entries-sound : ((i : ℕ) → i < n → get_or es i 0 < limit) → ((i : ℕ) → n ≤ i → i < m → get_or es i 0 ≡ 0) → all_below m (entry_sound n limit es) ≡ true
  unfolding entry_sound
  entries-sound below zeros = at_all m (entry_sound n limit es) (λ i l. go i l (dec_lt i n))
    where
      go : (i : ℕ) → i < m → Dec (i < n) → pick (ltb i n) (ltb (get_or es i 0) limit) (eqb (get_or es i 0) 0) ≡ true
      go i l (yes u) = sym (pick_true (eqb (get_or es i 0) 0) (lt-ltb i n u)) ∙ lt-ltb (get_or es i 0) limit (below i u)
      go i l (no u) = sym (pick-false (ltb (get_or es i 0) limit) (le-ltb i n (omega arith))) ∙ eq-eqb (get_or es i 0) 0 (zeros i (omega arith) l)

-- ---- the whole record

zero_or-one : (x : ℕ) → x ≤ 1 → (x ≡ 0) ⊎ (x ≡ 1)
zero_or-one x l = go (ℕ_discrete x 0)
  where
    go : Dec (x ≡ 0) → (x ≡ 0) ⊎ (x ≡ 1)
    go (yes e) = inl e
    go (no d) = inr (omega arith)

pub sound-is : (c : Cic) → sound c ≡ true → Rules c
sound-is c e =
    let p = sound-parts c e in
    let n = numbers-counts c p.numbers in
    record {
      counts = (n.systems, (n.channels, n.hosts));
      global = zero_or-one c.global (leb-true c.global 1 n.global);
      channels = used-below 1024 c.systems c.channels c.channel p.channel n.systems.1;
      hosts = used-below 256 c.channels c.hosts c.host p.host n.channels.1;
      spare_channels = spare-zero 1024 c.systems c.channels c.channel p.channel;
      spare_hosts = spare-zero 256 c.channels c.hosts c.host p.host;
      lines = clean-none 32 c.systems c.lines p.lines;
      status = clean-none 32 c.systems c.status p.status;
      enable = clean-none 32 c.systems c.enable p.enable;
      allow = clean-none 8 c.hosts c.allow p.allow;
    }

pub is-sound : (c : Cic) → Rules c → sound c ≡ true
is-sound c r =
    parts-sound c (record {
      numbers = numbers;
      lines = none-clean 32 c.systems c.lines r.lines;
      status = none-clean 32 c.systems c.status r.status;
      enable = none-clean 32 c.systems c.enable r.enable;
      allow = none-clean 8 c.hosts c.allow r.allow;
      channel = entries-sound 1024 c.systems c.channels c.channel r.channels r.spare_channels;
      host = entries-sound 256 c.channels c.hosts c.host r.hosts r.spare_hosts;
    })
  where
    small : (c.global ≡ 0) ⊎ (c.global ≡ 1) → c.global ≤ 1
    small = ⊎_elim (λ (e : c.global ≡ 0). omega arith) (λ (e : c.global ≡ 1). omega arith)

    numbers : numbers_sound c ≡ true
    numbers =
        unfold numbers_sound in
        and_both (systems-within c.systems r.counts.0)
        (and_both (channels-within c.channels r.counts.1.0) (and_both (hosts-within c.hosts r.counts.1.1) (le-leb c.global 1 (small r.global))))
