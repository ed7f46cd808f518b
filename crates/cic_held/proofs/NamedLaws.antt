-- The system interrupt that an index over some of the channels names: it meets the conditions, and none that does comes before it.
use mathlib.Core.Path.{◌≡◌, refl, sym, ap, ap₂, ◌∙◌}
use mathlib.Core.Bool.{Bool, true, false, ◌&&◌, ◌||◌}
use mathlib.Core.Logic.{◌↔◌, ◌≢◌}
use Prim.Native.Nat.{ℕ, ◌≤◌, ◌<◌}
use native.Mathlib.Decide.{dec_lt}
use native.Mathlib.Omega.{arith}
use borrow.Author.Tests.{lt-ltb, le-ltb, ltb-true, eq-eqb, ne_eqb, eqb-true}
use lib.Dec.{eqb, ltb}
use lib.ListN.{get_or}
use Rattle.words.specs.Array.{bit_at}
use Rattle.words.proofs.ChoiceLaws.{pick_true, pick-false}
use Rattle.words.proofs.CountingLaws.{all_at, some_any, Lowest, lowest_found}
use Rattle.words.proofs.TruthLaws.{and_left, and_right, and_both, clash}
use Rattle.cic_record.specs.declared.Channel.{Channel}
use Rattle.cic_record.specs.declared.Cic.{Cic}
use Rattle.cic_record.specs.Kinds.{system, channel_number, channel_of}
use Rattle.cic_record.specs.Sound.{entry_sound, sound}
use Rattle.cic_record.proofs.PartsLaws.{sound-parts, sound-counts}
use Rattle.cic_held.specs.Order.{none_word, pending_in, busy, first_in, channel_first, index_over, comes_before}
use Rattle.cic_held.specs.IndicesPromises.{Meets}
use Rattle.cic_held.proofs.IndexLaws.{passes, lowest_in, first-idle}

-- system interrupt s meets the conditions of an index over the channels that pass the test
abbrev pub MeetsBy : Cic → (Channel → Bool) → ℕ → Type 0
MeetsBy c t s = Meets c s × (t (channel_of c (system s)) ≡ true)

-- in a sound record the channel of a configured system interrupt is a configured one
channel-below : (c : Cic) → sound c ≡ true → (s : ℕ) → s < c.systems → get_or c.channel s 0 < c.channels
unfolding entry_sound
channel-below c e s l =
    let a = all_at 1024 (entry_sound c.systems c.channels c.channel) (sound-parts c e).channel s (omega (arith, (sound-counts c e).systems)) in
    ltb-true (get_or c.channel s 0) c.channels (pick_true (eqb (get_or c.channel s 0) 0) (lt-ltb s c.systems l) ∙ a)

pub lowest_channel : (c : Cic) (t : Channel → Bool) → Lowest (passes c t) c.channels (channel_first c t)
unfolding channel_first
lowest_channel c t = lowest_found c.channels (passes c t)

-- one that meets the conditions is pending in its channel
meets-pending : (c : Cic) (t : Channel → Bool) (s : ℕ) → MeetsBy c t s → pending_in c (channel_of c (system s)) (system s) ≡ true
unfolding pending_in
meets-pending c t s m = and_both m.0.1 (and_both m.0.2 (eq-eqb (get_or c.channel s 0) (get_or c.channel s 0) refl))

-- so that its channel passes
meets-passes : (c : Cic) (t : Channel → Bool) (s : ℕ) → MeetsBy c t s → passes c t (get_or c.channel s 0) ≡ true
unfolding busy
meets-passes c t s m = and_both m.1 (some_any c.systems (λ s'. pending_in c (channel_of c (system s)) (system s')) s m.0.0 (meets-pending c t s m))

-- ---- an index that names one

named : (c : Cic) (t : Channel → Bool) → channel_first c t < c.channels → index_over c t ≡ first_in c (channel_number (channel_first c t))
unfolding index_over
named c t l = sym (pick_true none_word (lt-ltb (channel_first c t) c.channels l))

unnamed : (c : Cic) (t : Channel → Bool) → c.channels ≤ channel_first c t → index_over c t ≡ none_word
unfolding index_over
unnamed c t l = sym (pick-false (first_in c (channel_number (channel_first c t))) (le-ltb (channel_first c t) c.channels l))

-- the system interrupt that is named, and its channel
pub record Named (c : Cic) (t : Channel → Bool) (s : ℕ) : Type 0 where
  pub meets : MeetsBy c t s
  pub channel : get_or c.channel s 0 ≡ channel_first c t
  pub lowest : (r : ℕ) → r < s → pending_in c (channel_number (channel_first c t)) (system r) ≡ false

named-one : (c : Cic) (t : Channel → Bool) → channel_first c t < c.channels → Named c t (first_in c (channel_number (channel_first c t)))
unfolding pending_in
named-one c t l = record { meets = ((there, and_left (bit_at c.status s) (bit_at c.enable s && eqb (get_or c.channel s 0) (channel_first c t)) pending, and_left (bit_at c.enable s) (eqb (get_or c.channel s 0) (channel_first c t)) rest), ap (λ (x : ℕ). t (channel_number x)) of ∙ and_left (t k) (busy c k) pass); channel = of; lowest = low.before }
  where
    k : Channel
    k = channel_number (channel_first c t)

    s : ℕ
    s = first_in c k

    low : Lowest (λ r. pending_in c k (system r)) c.systems s
    low = lowest_in c k

    pass : passes c t (channel_first c t) ≡ true
    pass = (lowest_channel c t).found l

    there : s < c.systems
    there = go (dec_lt s c.systems)
      where
        go : Dec (s < c.systems) → s < c.systems
        go (yes m) = m
        go (no m) = clash (and_right (t k) (busy c k) pass) (first-idle c k (omega (arith, m)))

    pending : (bit_at c.status s && (bit_at c.enable s && eqb (get_or c.channel s 0) (channel_first c t))) ≡ true
    pending = low.found there

    rest : (bit_at c.enable s && eqb (get_or c.channel s 0) (channel_first c t)) ≡ true
    rest = and_right (bit_at c.status s) (bit_at c.enable s && eqb (get_or c.channel s 0) (channel_first c t)) pending

    of : get_or c.channel s 0 ≡ channel_first c t
    of = eqb-true (get_or c.channel s 0) (channel_first c t) (and_right (bit_at c.enable s) (eqb (get_or c.channel s 0) (channel_first c t)) rest)

-- of an index that names none, no system interrupt meets the conditions
nobody : (c : Cic) (t : Channel → Bool) → sound c ≡ true → c.channels ≤ channel_first c t → (s : ℕ) → MeetsBy c t s → ⊥
nobody c t e l s m = clash (meets-passes c t s m) ((lowest_channel c t).before (get_or c.channel s 0) (omega (arith, channel-below c e s m.0.0, l)))

-- the number of a system interrupt is not the word of an index that names none
small : (c : Cic) → sound c ≡ true → (s : ℕ) → s < c.systems → s ≢ none_word
small c e s l q = absurd (omega (arith, q, l, (sound-counts c e).systems))

-- ---- what it says

-- an index names none exactly if no system interrupt meets its conditions
pub none : (c : Cic) (t : Channel → Bool) → sound c ≡ true → (index_over c t ≡ none_word) ↔ ((s : ℕ) → MeetsBy c t s → ⊥)
none c t e = (λ q. there q (dec_lt (channel_first c t) c.channels), λ n. back n (dec_lt (channel_first c t) c.channels))
  where
    there : index_over c t ≡ none_word → Dec (channel_first c t < c.channels) → (s : ℕ) → MeetsBy c t s → ⊥
    there q (yes l) = absurd (small c e (first_in c (channel_number (channel_first c t))) (named-one c t l).meets.0.0 (sym (named c t l) ∙ q))
    there q (no l) = nobody c t e (omega (arith, l))

    back : ((s : ℕ) → MeetsBy c t s → ⊥) → Dec (channel_first c t < c.channels) → index_over c t ≡ none_word
    back n (yes l) = absurd (n (first_in c (channel_number (channel_first c t))) (named-one c t l).meets)
    back n (no l) = unnamed c t (omega (arith, l))

-- the channel that is found, where an index names one
is-named : (c : Cic) (t : Channel → Bool) → index_over c t ≢ none_word → channel_first c t < c.channels
is-named c t n = go (dec_lt (channel_first c t) c.channels)
  where
    go : Dec (channel_first c t < c.channels) → channel_first c t < c.channels
    go (yes l) = l
    go (no l) = absurd (n (unnamed c t (omega (arith, l))))

-- the one that it names meets them
pub names : (c : Cic) (t : Channel → Bool) → sound c ≡ true → index_over c t ≢ none_word → MeetsBy c t (index_over c t)
names c t e n = rw (named c t (is-named c t n)) (named-one c t (is-named c t n)).meets

-- of two numbers with one channel, or of a later channel, the second does not come before
pub not-before : (c : Cic) (a b : ℕ) → get_or c.channel b 0 ≤ get_or c.channel a 0 → (get_or c.channel a 0 ≡ get_or c.channel b 0 → b ≤ a)
    → comes_before c (system a) (system b) ≡ false
unfolding comes_before
not-before c a b l f = go (dec_lt (get_or c.channel b 0) (get_or c.channel a 0))
  where
    go : Dec (get_or c.channel b 0 < get_or c.channel a 0) → (ltb (get_or c.channel a 0) (get_or c.channel b 0) || (eqb (get_or c.channel a 0) (get_or c.channel b 0) && ltb a b)) ≡ false
    go (yes m) =
        ap₂ (λ (x y : Bool). x || (y && ltb a b)) (le-ltb (get_or c.channel a 0) (get_or c.channel b 0) l)
        (ne_eqb (get_or c.channel a 0) (get_or c.channel b 0) (λ q. absurd (omega (arith, q, m))))
    go (no m) =
        let q : get_or c.channel a 0 ≡ get_or c.channel b 0 = omega (arith, m, l) in
        ap₂ (λ (x y : Bool). x || (y && ltb a b)) (le-ltb (get_or c.channel a 0) (get_or c.channel b 0) l) (eq-eqb (get_or c.channel a 0) (get_or c.channel b 0) q) ∙ le-ltb a b (f q)

-- and none that does comes before it
pub first : (c : Cic) (t : Channel → Bool) → sound c ≡ true → index_over c t ≢ none_word → (s : ℕ) → MeetsBy c t s
    → comes_before c (system s) (system (index_over c t)) ≡ false
first c t e n s m = rw (named c t l) (not-before c s r later (λ q. same q (dec_lt s r)))
  where
    l : channel_first c t < c.channels
    l = is-named c t n

    r : ℕ
    r = first_in c (channel_number (channel_first c t))

    one : Named c t r
    one = named-one c t l

    later : get_or c.channel r 0 ≤ get_or c.channel s 0
    later = go (dec_lt (get_or c.channel s 0) (get_or c.channel r 0))
      where
        go : Dec (get_or c.channel s 0 < get_or c.channel r 0) → get_or c.channel r 0 ≤ get_or c.channel s 0
        go (yes b) = clash (meets-passes c t s m) ((lowest_channel c t).before (get_or c.channel s 0) (omega (arith, b, one.channel)))
        go (no b) = omega (arith, b)

    same : get_or c.channel s 0 ≡ get_or c.channel r 0 → Dec (s < r) → r ≤ s
    same q (yes b) =
        clash (ap (λ (x : ℕ). pending_in c (channel_number x) (system s)) (sym (q ∙ one.channel)) ∙ meets-pending c t s m) (one.lowest s b)
    same q (no b) = omega (arith, b)
