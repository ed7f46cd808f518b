-- Which channels have an active system interrupt, which of them an index is over, and that the first of them is the one that an index goes by.
use mathlib.Core.Path.{◌≡◌, refl, sym, ap, ap₂, ◌∙◌}
use mathlib.Core.Bool.{Bool, true, false, not, ◌&&◌, ◌||◌}
use mathlib.Core.Logic.{◌≢◌, ◌⊎◌}
use Prim.Native.Nat.{ℕ, zero, suc, ◌+◌, ◌-◌, ◌*◌, ◌^◌, ◌<◌}
use native.Mathlib.Decide.{dec_lt}
use native.Mathlib.Omega.{arith}
use borrow.Author.Tests.{lt-ltb, ltb-true, ne_eqb, eqb-true}
use lib.Dec.{eqb}
use lib.ListN.{get_or}
use Rattle.words.specs.Array.{bit_at}
use Rattle.words.specs.Counting.{one, any_below, count_below, lowest_below}
use Rattle.words.specs.Word.{bit, both}
use Rattle.words.proofs.ArrayLaws.{clean-bit}
use Rattle.words.proofs.ChoiceLaws.{pick_true}
use Rattle.words.proofs.CountingLaws.{any_some, some_any, all_at}
use Rattle.words.proofs.HopLaws.{lowest_in, lowest-before}
use Rattle.words.proofs.TruthLaws.{and_left, and_right, and_both, clash, not-holds, same_test, told}
use Rattle.words.proofs.WordLaws.{bit-word_of, bit-both, bit-none}
use Rattle.cic_record.specs.declared.Cic.{Cic}
use Rattle.cic_record.specs.declared.Host.{Host}
use Rattle.cic_record.specs.Kinds.{channel_number}
use Rattle.cic_record.specs.Sound.{entry_sound, sound}
use Rattle.cic_record.proofs.PartsLaws.{sound-parts, sound-counts}
use Rattle.cic_held.specs.Order.{none_word, pending_in, busy, first_in, leads, index_of}
use Rattle.cic_held.proofs.IndexLaws.{passes, first-parts, found_channel, found_no_channel}
use Rattle.cic_room.specs.Room.{active, of_channel, of_host, some_word}
use Rattle.indexed_room.specs.Search.{Asked}

-- ---- counts

-- how many there are is not 0 exactly if there is one
count-some : (n : ℕ) (p : ℕ → Bool) → not (eqb (count_below n p) 0) ≡ any_below n p
unfolding count_below any_below
count-some zero p = refl
count-some (suc n) p = go (p n) (told (any_below n p)) (count-some n p)
  where
    go : (b : Bool) → (any_below n p ≡ true) ⊎ (any_below n p ≡ false) → not (eqb (count_below n p) 0) ≡ any_below n p
        → not (eqb (count_below n p + one b) 0) ≡ (any_below n p || b)
    go true _ h = ap not (ne_eqb (count_below n p + 1) 0 (λ z. absurd (omega (arith, z)))) ∙ sym (or_on (any_below n p))
      where
        or_on : (b : Bool) → (b || true) ≡ true
        or_on true = refl
        or_on false = refl
    go false _ h = ap (λ (x : ℕ). not (eqb x 0)) (let e : count_below n p + 0 ≡ count_below n p = omega arith in e) ∙ h ∙ sym (or_off (any_below n p))
      where
        or_off : (b : Bool) → (b || false) ≡ b
        or_off true = refl
        or_off false = refl

-- an active system interrupt is a configured one
active-below : (c : Cic) → sound c ≡ true → (s : ℕ) → s < 1024 → bit_at c.status s ≡ true → s < c.systems
active-below c ok s l e = go (dec_lt s c.systems)
  where
    go : Dec (s < c.systems) → s < c.systems
    go (yes d) = d
    go (no d) = clash e (clean-bit 32 c.systems c.status (sound-parts c ok).status s (omega (arith, d)) (omega (arith, l)))

regroup : (a b d : Bool) → ((a && b) && d) ≡ (a && (b && d))
regroup true b d = refl
regroup false b d = refl

-- a channel has one exactly if it is busy
pub count-busy : (c : Cic) (k : ℕ) → sound c ≡ true → not (eqb (of_channel c k) 0) ≡ busy c (channel_number k)
unfolding of_channel busy pending_in
count-busy c k ok = count-some 1024 p ∙ same_test (any_below 1024 p) (any_below c.systems q) there back
  where
    p : ℕ → Bool
    p s = active c s && eqb (get_or c.channel s 0) k

    q : ℕ → Bool
    q s = bit_at c.status s && (bit_at c.enable s && eqb (get_or c.channel s 0) k)

    same : (s : ℕ) → p s ≡ q s
    same s = regroup (bit_at c.status s) (bit_at c.enable s) (eqb (get_or c.channel s 0) k)

    there : any_below 1024 p ≡ true → any_below c.systems q ≡ true
    there e =
        let r = any_some 1024 p e in
        let m = sym (same r.0) ∙ r.2 in
        some_any c.systems q r.0 (active-below c ok r.0 r.1 (and_left (bit_at c.status r.0) (bit_at c.enable r.0 && eqb (get_or c.channel r.0 0) k) m)) m

    back : any_below c.systems q ≡ true → any_below 1024 p ≡ true
    back e =
        let r = any_some c.systems q e in
        some_any 1024 p r.0 (omega (arith, r.1, (sound-counts c ok).systems)) (same r.0 ∙ r.2)

-- the busy channels of a word
pub busy_bits : (c : Cic) (w x : ℕ) → sound c ≡ true → x ≡ some_word (of_channel c) w → (j : ℕ) → j < 32 → bit x j ≡ busy c (channel_number (32 * w + j))
unfolding some_word
busy_bits c w x ok e j l =
    ap (λ (y : ℕ). bit y j) e ∙ bit-word_of 32 (λ i. not (eqb (of_channel c (32 * w + i)) 0)) j l ∙ count-busy c (32 * w + j) ok

-- a busy channel is a configured one
pub busy-below : (c : Cic) (k : ℕ) → sound c ≡ true → busy c (channel_number k) ≡ true → k < c.channels
unfolding busy pending_in entry_sound
busy-below c k ok e =
    let q : ℕ → Bool = λ s. bit_at c.status s && (bit_at c.enable s && eqb (get_or c.channel s 0) k) in
    let r = any_some c.systems q e in
    let s = r.0 in
    let rest = and_right (bit_at c.status s) (bit_at c.enable s && eqb (get_or c.channel s 0) k) r.2 in
    let of : get_or c.channel s 0 ≡ k = eqb-true (get_or c.channel s 0) k (and_right (bit_at c.enable s) (eqb (get_or c.channel s 0) k) rest) in
    let a = all_at 1024 (entry_sound c.systems c.channels c.channel) (sound-parts c ok).channel s (omega (arith, r.1, (sound-counts c ok).systems)) in
    let b = ltb-true (get_or c.channel s 0) c.channels (pick_true (eqb (get_or c.channel s 0) 0) (lt-ltb s c.systems r.1) ∙ a) in
    omega (arith, of, b)

-- ---- the channels that an index is over

pub asked-every : (c : Cic) (h : Host) (w x : ℕ) → sound c ≡ true → x ≡ some_word (of_channel c) w → Asked c true h w x
asked-every c h w x ok e = record { bits = λ j l. busy_bits c w x ok e j l }

pub asked-none : (c : Cic) (every : Bool) (h : Host) (w x : ℕ) → sound c ≡ true → x ≡ some_word (of_channel c) w → x ≡ 0 → Asked c every h w x
asked-none c every h w x ok e z =
    record { bits = λ j l. let b = ap (λ (y : ℕ). bit y j) z ∙ bit-none j in b ∙ sym (ap (λ (t : Bool). leads c every h (channel_number (32 * w + j)) && t) (sym (busy_bits c w x ok e j l) ∙ b) ∙ off (leads c every h (channel_number (32 * w + j)))) }
  where
    off : (b : Bool) → (b && false) ≡ false
    off true = refl
    off false = refl

pub asked_host : (c : Cic) (h : Host) (w x m : ℕ) → sound c ≡ true → x ≡ some_word (of_channel c) w
    → ((j : ℕ) → j < 32 → bit m j ≡ eqb (get_or c.host (32 * w + j) 0) h.0) → Asked c false h w (both x m)
asked_host c h w x m ok e f =
    record {
      bits = λ j l. bit-both x m j l ∙ ap₂ (λ (a b : Bool). a && b) (busy_bits c w x ok e j l) (f j l)
          ∙ flip (busy c (channel_number (32 * w + j))) (eqb (get_or c.host (32 * w + j) 0) h.0);
    }
  where
    flip : (a b : Bool) → (a && b) ≡ (b && a)
    flip true true = refl
    flip true false = refl
    flip false true = refl
    flip false false = refl

-- ---- the first channel

-- no channel before word w has one that the index is over
abbrev pub NoneAsked : Cic → Bool → Host → ℕ → Type 0
NoneAsked c every h w = (k : ℕ) → k < 32 * w → passes c (leads c every h) k ≡ false

-- nor before word w + 1, where the word has none
pub none_more : (c : Cic) (every : Bool) (h : Host) (w x : ℕ) → NoneAsked c every h w → Asked c every h w x → x ≡ 0 → NoneAsked c every h (w + 1)
none_more c every h w x none a z k l = go (dec_lt k (32 * w))
  where
    go : Dec (k < 32 * w) → passes c (leads c every h) k ≡ false
    go (yes b) = none k b
    go (no b) =
        let e : 32 * w + (k - 32 * w) ≡ k = omega (arith, b) in
        ap (λ (n : ℕ). passes c (leads c every h) n) (sym e) ∙ sym (a.bits (k - 32 * w) (omega (arith, b, l))) ∙ ap (λ (y : ℕ). bit y (k - 32 * w)) z ∙ bit-none (k - 32 * w)

module _ (c : Cic) (every : Bool) (h : Host) (w x j : ℕ) (ok : sound c ≡ true) (none : NoneAsked c every h w) (a : Asked c every h w x) (fits : x < 2 ^ 32)
    (some : x ≢ 0) (low : j ≡ lowest_below 32 (bit x)) where
  pub lowest_asked : passes c (leads c every h) (32 * w + j) ≡ true
  lowest_asked = let m = lowest_in x j fits some low in sym (a.bits j m.0) ∙ m.1

  pub lowest-busy : busy c (channel_number (32 * w + j)) ≡ true
  lowest-busy = and_right (leads c every h (channel_number (32 * w + j))) (busy c (channel_number (32 * w + j))) lowest_asked

  -- the first system interrupt of the lowest channel of the word is the one that the index names
  pub index_here : (s : ℕ) → s ≡ first_in c (channel_number (32 * w + j)) → s ≡ index_of c every h
  unfolding index_of
  index_here s e =
      found_channel c (leads c every h) (32 * w + j) s (busy-below c (32 * w + j) ok lowest-busy) before lowest_asked (e ∙ first-parts c (channel_number (32 * w + j)))
    where
      before : (i : ℕ) → i < 32 * w + j → passes c (leads c every h) i ≡ false
      before i l = go (dec_lt i (32 * w))
        where
          go : Dec (i < 32 * w) → passes c (leads c every h) i ≡ false
          go (yes b) = none i b
          go (no b) =
              let e : 32 * w + (i - 32 * w) ≡ i = omega (arith, b) in
              let m = lowest_in x j fits some low in
              ap (λ (n : ℕ). passes c (leads c every h) n) (sym e) ∙ sym (a.bits (i - 32 * w) (omega (arith, b, l, m.0))) ∙ lowest-before x j low (i - 32 * w) (omega (arith, b, l))

-- no channel has one that the index is over
pub index-none : (c : Cic) (every : Bool) (h : Host) → sound c ≡ true → NoneAsked c every h 8 → none_word ≡ index_of c every h
unfolding index_of
index-none c every h ok none = found_no_channel c (leads c every h) (λ i l. none i (omega (arith, l, (sound-counts c ok).channels)))

pub index-ended : (c : Cic) (every : Bool) (h : Host) (w : ℕ) → sound c ≡ true → w ≡ 8 → NoneAsked c every h w → none_word ≡ index_of c every h
index-ended c every h w ok e none = index-none c every h ok (λ k l. none k (omega (arith, l, e)))

-- ---- a host that has none

pub host-idle : (c : Cic) (h : Host) → sound c ≡ true → of_host c h.0 ≡ 0 → NoneAsked c false h 8
unfolding of_host busy pending_in
host-idle c h ok z k l = not-holds (passes c (leads c false h) k) (λ e. no (any_some c.systems q (and_right (eqb (get_or c.host k 0) h.0) (any_below c.systems q) e)) (and_left (eqb (get_or c.host k 0) h.0) (any_below c.systems q) e))
  where
    q : ℕ → Bool
    q s = bit_at c.status s && (bit_at c.enable s && eqb (get_or c.channel s 0) k)

    p : ℕ → Bool
    p s = active c s && eqb (get_or c.host (get_or c.channel s 0) 0) h.0

    no : (s : ℕ) × (s < c.systems) × (q s ≡ true) → eqb (get_or c.host k 0) h.0 ≡ true → ⊥
    no r g =
        let s = r.0 in
        let set = and_left (bit_at c.status s) (bit_at c.enable s && eqb (get_or c.channel s 0) k) r.2 in
        let rest = and_right (bit_at c.status s) (bit_at c.enable s && eqb (get_or c.channel s 0) k) r.2 in
        let on = and_left (bit_at c.enable s) (eqb (get_or c.channel s 0) k) rest in
        let of : get_or c.channel s 0 ≡ k = eqb-true (get_or c.channel s 0) k (and_right (bit_at c.enable s) (eqb (get_or c.channel s 0) k) rest) in
        let goes = ap (λ (n : ℕ). eqb (get_or c.host n 0) h.0) of ∙ g in
        clash (some_any 1024 p s (omega (arith, r.1, (sound-counts c ok).systems)) (and_both (and_both set on) goes)) (sym (count-some 1024 p) ∙ ap (λ (n : ℕ). not (eqb n 0)) z)
