-- A sound record part by part: what each part says, and that a part put anew keeps the record sound.
use mathlib.Core.Path.{◌≡◌, refl, ap, ◌∙◌}
use mathlib.Core.Bool.{Bool, true, ◌&&◌}
use mathlib.Core.List.{List}
use Prim.Native.Nat.{ℕ, ◌<◌}
use borrow.Author.Tests.{lt-ltb}
use lib.Dec.{eqb, ltb, leb}
use lib.ListN.{replicate}
use Rattle.words.specs.Array.{clean_below}
use Rattle.words.specs.Choice.{pick}
use Rattle.words.specs.Counting.{all_below}
use Rattle.words.proofs.ArrayLaws.{clean-zeros, zeros_get_d}
use Rattle.words.proofs.ChoiceLaws.{pick_cases}
use Rattle.words.proofs.CountingLaws.{at_all}
use Rattle.words.proofs.TruthLaws.{and_left, and_right, and_both}
use Rattle.cic_record.specs.declared.Cic.{Cic}
use Rattle.cic_record.specs.Record.{with_global, with_lines, with_status, with_enable, with_channel, with_host, with_allow}
use Rattle.cic_record.specs.Sound.{within, numbers_sound, words_sound, entry_sound, maps_sound, sound}
use Rattle.cic_record.specs.Start.{fresh, configured}
use Rattle.cic_record.proofs.SoundLaws.{Counts, numbers-counts, within_channels, within_hosts}

pub record Parts (c : Cic) : Type 0 where
  pub numbers : numbers_sound c ≡ true
  pub lines : clean_below 32 c.systems c.lines ≡ true
  pub status : clean_below 32 c.systems c.status ≡ true
  pub enable : clean_below 32 c.systems c.enable ≡ true
  pub allow : clean_below 8 c.hosts c.allow ≡ true
  pub channel : all_below 1024 (entry_sound c.systems c.channels c.channel) ≡ true
  pub host : all_below 256 (entry_sound c.channels c.hosts c.host) ≡ true

pub sound-parts : (c : Cic) → sound c ≡ true → Parts c
unfolding sound words_sound maps_sound
sound-parts c e =
    let rest = and_right (numbers_sound c) (words_sound c && maps_sound c) e in
    let w = and_left (words_sound c) (maps_sound c) rest in
    let m = and_right (words_sound c) (maps_sound c) rest in
    let w1 = and_right (clean_below 32 c.systems c.lines) (clean_below 32 c.systems c.status && (clean_below 32 c.systems c.enable && clean_below 8 c.hosts c.allow)) w in
    let w2 = and_right (clean_below 32 c.systems c.status) (clean_below 32 c.systems c.enable && clean_below 8 c.hosts c.allow) w1 in
    record {
      numbers = and_left (numbers_sound c) (words_sound c && maps_sound c) e;
      lines = and_left (clean_below 32 c.systems c.lines) (clean_below 32 c.systems c.status && (clean_below 32 c.systems c.enable && clean_below 8 c.hosts c.allow)) w;
      status = and_left (clean_below 32 c.systems c.status) (clean_below 32 c.systems c.enable && clean_below 8 c.hosts c.allow) w1;
      enable = and_left (clean_below 32 c.systems c.enable) (clean_below 8 c.hosts c.allow) w2;
      allow = and_right (clean_below 32 c.systems c.enable) (clean_below 8 c.hosts c.allow) w2;
      channel = and_left (all_below 1024 (entry_sound c.systems c.channels c.channel)) (all_below 256 (entry_sound c.channels c.hosts c.host)) m;
      host = and_right (all_below 1024 (entry_sound c.systems c.channels c.channel)) (all_below 256 (entry_sound c.channels c.hosts c.host)) m;
    }

pub parts-sound : (c : Cic) → Parts c → sound c ≡ true
unfolding sound words_sound maps_sound
parts-sound c p = and_both p.numbers (and_both (and_both p.lines (and_both p.status (and_both p.enable p.allow))) (and_both p.channel p.host))

-- the counts of a sound record are in their ranges
pub sound-counts : (c : Cic) → sound c ≡ true → Counts c
sound-counts c e = numbers-counts c (sound-parts c e).numbers

-- ---- one part put anew

pub sound_global : (c : Cic) (x : ℕ) → sound c ≡ true → leb x 1 ≡ true → sound (with_global c x) ≡ true
sound_global c x e n =
    let p = sound-parts c e in
    parts-sound (with_global c x) (record {
      numbers = put_global c x p.numbers n;
      lines = p.lines;
      status = p.status;
      enable = p.enable;
      allow = p.allow;
      channel = p.channel;
      host = p.host;
    })
  where
    put_global : (c : Cic) (x : ℕ) → numbers_sound c ≡ true → leb x 1 ≡ true → numbers_sound (with_global c x) ≡ true
    put_global c x e n =
        unfold numbers_sound in
        (let a = and_right (within 0 c.systems) (within 1 c.channels && (within 2 c.hosts && leb c.global 1)) e in
        let b = and_right (within 1 c.channels) (within 2 c.hosts && leb c.global 1) a in
        and_both (and_left (within 0 c.systems) (within 1 c.channels && (within 2 c.hosts && leb c.global 1)) e)
        (and_both (and_left (within 1 c.channels) (within 2 c.hosts && leb c.global 1) a) (and_both (and_left (within 2 c.hosts) (leb c.global 1) b) n)))

pub sound_lines : (c : Cic) (x : List ℕ) → sound c ≡ true → clean_below 32 c.systems x ≡ true → sound (with_lines c x) ≡ true
unfolding numbers_sound
sound_lines c x e n =
    let p = sound-parts c e in
    parts-sound (with_lines c x) (record { numbers = p.numbers; lines = n; status = p.status; enable = p.enable; allow = p.allow; channel = p.channel; host = p.host })

pub sound-status : (c : Cic) (x : List ℕ) → sound c ≡ true → clean_below 32 c.systems x ≡ true → sound (with_status c x) ≡ true
unfolding numbers_sound
sound-status c x e n =
    let p = sound-parts c e in
    parts-sound (with_status c x) (record { numbers = p.numbers; lines = p.lines; status = n; enable = p.enable; allow = p.allow; channel = p.channel; host = p.host })

pub sound_enable : (c : Cic) (x : List ℕ) → sound c ≡ true → clean_below 32 c.systems x ≡ true → sound (with_enable c x) ≡ true
unfolding numbers_sound
sound_enable c x e n =
    let p = sound-parts c e in
    parts-sound (with_enable c x) (record { numbers = p.numbers; lines = p.lines; status = p.status; enable = n; allow = p.allow; channel = p.channel; host = p.host })

pub sound_allow : (c : Cic) (x : List ℕ) → sound c ≡ true → clean_below 8 c.hosts x ≡ true → sound (with_allow c x) ≡ true
unfolding numbers_sound
sound_allow c x e n =
    let p = sound-parts c e in
    parts-sound (with_allow c x) (record { numbers = p.numbers; lines = p.lines; status = p.status; enable = p.enable; allow = n; channel = p.channel; host = p.host })

pub sound_channel : (c : Cic) (x : List ℕ) → sound c ≡ true → all_below 1024 (entry_sound c.systems c.channels x) ≡ true → sound (with_channel c x) ≡ true
unfolding numbers_sound
sound_channel c x e n =
    let p = sound-parts c e in
    parts-sound (with_channel c x) (record { numbers = p.numbers; lines = p.lines; status = p.status; enable = p.enable; allow = p.allow; channel = n; host = p.host })

pub sound_host : (c : Cic) (x : List ℕ) → sound c ≡ true → all_below 256 (entry_sound c.channels c.hosts x) ≡ true → sound (with_host c x) ≡ true
unfolding numbers_sound
sound_host c x e n =
    let p = sound-parts c e in
    parts-sound (with_host c x) (record { numbers = p.numbers; lines = p.lines; status = p.status; enable = p.enable; allow = p.allow; channel = p.channel; host = n })

-- ---- a fresh record

zeros-map : (n limit m : ℕ) → 0 < limit → all_below m (entry_sound n limit (replicate m 0)) ≡ true
unfolding entry_sound
zeros-map n limit m l =
    at_all m (entry_sound n limit (replicate m 0))
    (λ i _. ap (λ (b : ℕ). pick (ltb i n) (ltb b limit) (eqb b 0)) (zeros_get_d m i) ∙ pick_cases (λ (t : Bool). t ≡ true) (ltb i n) (λ _. lt-ltb 0 limit l) (λ _. refl))

pub fresh-sound : (s k h v : ℕ) → configured s k h v ≡ true → sound (fresh s k h v) ≡ true
unfolding configured fresh numbers_sound
fresh-sound s k h v e =
    let a = and_right (within 0 s) (within 1 k && (within 2 h && within 3 v)) e in
    let b = and_right (within 1 k) (within 2 h && within 3 v) a in
    let es = and_left (within 0 s) (within 1 k && (within 2 h && within 3 v)) e in
    let ek = and_left (within 1 k) (within 2 h && within 3 v) a in
    let eh = and_left (within 2 h) (within 3 v) b in
    parts-sound (fresh s k h v) (record {
      numbers = and_both es (and_both ek (and_both eh refl));
      lines = clean-zeros 32 s;
      status = clean-zeros 32 s;
      enable = clean-zeros 32 s;
      allow = clean-zeros 8 h;
      channel = zeros-map s k 1024 (within_channels k ek).0;
      host = zeros-map k h 256 (within_hosts h eh).0;
    })
